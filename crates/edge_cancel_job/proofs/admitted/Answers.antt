-- `edge_cancel_job::admitted` meets its contract: the first refusals told from line 0, and else the work on one slot, put into its row (cancel_placed).
use Rattle.std.specs.Prelude.{None, Ok, Some}
use mathlib.Core.Path.{◌≡◌, refl, ◌∙◌}
use mathlib.Core.Bool.{true, false}
use Prim.Native.Nat.{◌<◌}
use native.Mathlib.Omega.{arith}
use lib.Dec.{eqb, leb}
use lib.ListN.{length, get_or}
use borrow.Author.Tests.{not-false, le-leb, lt-leb}
use Rattle.octets.specs.Octets.{u16_at}
use Rattle.codes.specs.declared.Refusal.TheVariants.{BadRoom, BadSlot}
use Rattle.definition.specs.Table.{room_width}
use Rattle.definition.specs.Outcome.{verdict}
use Rattle.edge_layout.specs.Layout.{read}
use Rattle.edge_row.proofs.Gate.{valid_long, stops_2, stops_6, passes}
use Rattle.edge_row.proofs.Room.{sized-told, row_low, part_placed}
use Rattle.edge_placed.specs.Valid.{row_fit}
use Rattle.edge_placed.specs.Cancelled.{cancel_stopped, cancel_placed}
use Rattle.edge_cancel_job.proofs.admitted.Goals as goal

pub room_size-size-requires : goal.room_size-size-requires
room_size-size-requires c =
    rw (c.octet-n.ensures, c.octet-d.ensures, c.number-m.ensures) (sized-told c.args.table.now c.requires)

pub returns-then-other : goal.returns-then-other
returns-then-other c =
    let g = c.args in
    let told = c.put_answer.ensures in
    rw (told.value, told.out_after)
    (cancel_stopped g.table.now g.answer.now g.room.now g.slot BadRoom
    (stops_2 g.table.now c.requires (Some (length g.room.now)) None None (Some g.slot) (rw (c.room_size-size.ensures, c.octet-n.ensures, c.octet-d.ensures, c.number-m.ensures) at c.if-other.true-raw)))

pub returns-then-n-s : goal.returns-then-n-s
returns-then-n-s c =
    let g = c.args in
    let o = g.table.now in
    let told = c.put_answer-then-n-s.ensures in
    let none : leb (get_or o 1 0) g.slot ≡ true = rw c.octet-n.ensures at (le-leb _ _ c.if-n-s.true) in
    rw (told.value, told.out_after)
    (cancel_stopped o g.answer.now g.room.now g.slot BadSlot
    (stops_6 o c.requires (Some (length g.room.now)) None None (Some g.slot) (rw (c.room_size-size.ensures, c.octet-n.ensures, c.octet-d.ensures, c.number-m.ensures) at c.if-other.false-raw) refl refl none))

pub at_slot-requires : goal.at_slot-requires
at_slot-requires c =
    let o = c.args.table.now in
    let s = c.args.slot in
    let one : leb (get_or o 1 0) s ≡ false = rw c.octet-n.ensures at (lt-leb _ _ c.if-n-s.false) in
    let in_use : s < get_or o 1 0 = rw c.octet-n.ensures at c.if-n-s.false in
    let long = length c.args.room.now in
    rw (c.octet-d.ensures, c.number-m.ensures)
    (omega (arith, valid_long o c.requires), row_low o c.requires s in_use, part_placed o c.requires s in_use long (not-false (eqb long (room_width (get_or o 1 0) (get_or o 2 0) (u16_at o 3))) (rw (c.room_size-size.ensures, c.octet-n.ensures, c.octet-d.ensures, c.number-m.ensures) at c.if-other.false-raw)), (row_fit o c.requires s one).aside)

pub returns : goal.returns
returns c =
    let g = c.args in
    let o = g.table.now in
    let one : leb (get_or o 1 0) g.slot ≡ false = rw c.octet-n.ensures at (lt-leb _ _ c.if-n-s.false) in
    let on : verdict (read o).table (Some (length g.room.now)) None None (Some g.slot) ≡ Ok tt = passes o c.requires (Some (length g.room.now)) None None (Some g.slot) (rw (c.room_size-size.ensures, c.octet-n.ensures, c.octet-d.ensures, c.number-m.ensures) at c.if-other.false-raw) refl refl one in
    rw (c.octet-d.ensures, c.number-m.ensures) at c.at_slot.ensures
    ∙ cancel_placed o g.answer.now g.room.now g.slot c.requires on one
