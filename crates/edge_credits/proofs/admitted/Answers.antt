-- `edge_credits::admitted` meets its contract: the first refusals told from line 0, no row (refused_8), and else the work on one slot, put into its row (credits_placed).
use Rattle.std.specs.Prelude.{None, Some}
use mathlib.Core.Path.{◌≡◌, refl, ◌∙◌}
use mathlib.Core.Bool.{true, false}
use Prim.Native.Nat.{◌<◌}
use native.Mathlib.Omega.{arith}
use lib.Dec.{eqb, leb}
use lib.ListN.{length, get_or}
use borrow.Author.Tests.{not-false, le-leb, lt-leb}
use Rattle.octets.specs.Octets.{u16_at}
use Rattle.codes.specs.declared.Refusal.TheVariants.{BadRoom, NoRoom, BadHandle}
use Rattle.definition.specs.Table.{room_width}
use Rattle.edge_row.proofs.Gate.{valid_long, valid_slots, stops_2, stops_3, stops_4, passes}
use Rattle.edge_row.proofs.Room.{sized-told, row_low, part_placed}
use Rattle.edge_placed.specs.Credited.{row_of, credits_stopped, refused_8, credits_placed}
use Rattle.edge_credits.proofs.admitted.Goals as goal

pub room_size-size-requires : goal.room_size-size-requires
room_size-size-requires c =
    rw (c.octet-n.ensures, c.octet-d.ensures, c.number-m.ensures) (sized-told c.args.table.now c.requires)

pub returns-then-other : goal.returns-then-other
returns-then-other c =
    let g = c.args in
    let told = c.put_answer.ensures in
    rw (told.value, told.out_after)
    (credits_stopped g.table.now g.answer.now g.room.now g.signal.now g.link g.ind BadRoom
    (stops_2 g.table.now c.requires (Some (length g.room.now)) (Some (length g.signal.now)) (Some g.link) None (rw (c.room_size-size.ensures, c.octet-n.ensures, c.octet-d.ensures, c.number-m.ensures) at c.if-other.true-raw)))

pub returns-then-short : goal.returns-then-short
returns-then-short c =
    let g = c.args in
    let told = c.put_answer-then-short.ensures in
    rw (told.value, told.out_after)
    (credits_stopped g.table.now g.answer.now g.room.now g.signal.now g.link g.ind NoRoom
    (stops_3 g.table.now c.requires (Some (length g.room.now)) (Some (length g.signal.now)) (Some g.link) None (rw (c.room_size-size.ensures, c.octet-n.ensures, c.octet-d.ensures, c.number-m.ensures) at c.if-other.false-raw) c.if-short.true-raw))

pub returns-then-beyond : goal.returns-then-beyond
returns-then-beyond c =
    let g = c.args in
    let told = c.put_answer-then-beyond.ensures in
    rw (told.value, told.out_after)
    (credits_stopped g.table.now g.answer.now g.room.now g.signal.now g.link g.ind BadHandle
    (stops_4 g.table.now c.requires (Some (length g.room.now)) (Some (length g.signal.now)) (Some g.link) None (rw (c.room_size-size.ensures, c.octet-n.ensures, c.octet-d.ensures, c.number-m.ensures) at c.if-other.false-raw) c.if-short.false-raw c.if-beyond.true-raw))

pub row_of-s-requires : goal.row_of-s-requires
row_of-s-requires c =
    (omega (arith, valid_long c.args.table.now c.requires), rw c.octet-n.ensures (valid_slots c.args.table.now c.requires))

pub returns-then-n-s : goal.returns-then-n-s
returns-then-n-s c =
    let g = c.args in
    let o = g.table.now in
    let told = c.put_answer-then-n-s.ensures in
    let none : leb (get_or o 1 0) (row_of o (get_or o 1 0) g.link g.ind.cid) ≡ true = rw (c.row_of-s.ensures, c.octet-n.ensures) at (le-leb _ _ c.if-n-s.true) in
    rw (told.value, told.out_after)
    (refused_8 o g.answer.now g.room.now g.signal.now g.link g.ind c.requires (passes o c.requires (Some (length g.room.now)) (Some (length g.signal.now)) (Some g.link) None (rw (c.room_size-size.ensures, c.octet-n.ensures, c.octet-d.ensures, c.number-m.ensures) at c.if-other.false-raw) c.if-short.false-raw c.if-beyond.false-raw refl) none)

pub to_slot-requires : goal.to_slot-requires
to_slot-requires c =
    let o = c.args.table.now in
    let s = c.row_of-s.result in
    let in_use : s < get_or o 1 0 = rw c.octet-n.ensures at c.if-n-s.false in
    let long = length c.args.room.now in
    rw (c.octet-d.ensures, c.number-m.ensures)
    (omega (arith, valid_long o c.requires), row_low o c.requires s in_use, part_placed o c.requires s in_use long (not-false (eqb long (room_width (get_or o 1 0) (get_or o 2 0) (u16_at o 3))) (rw (c.room_size-size.ensures, c.octet-n.ensures, c.octet-d.ensures, c.number-m.ensures) at c.if-other.false-raw)))

pub returns : goal.returns
returns c =
    let g = c.args in
    let o = g.table.now in
    let some : leb (get_or o 1 0) (row_of o (get_or o 1 0) g.link g.ind.cid) ≡ false = rw (c.row_of-s.ensures, c.octet-n.ensures) at (lt-leb _ _ c.if-n-s.false) in
    rw (c.octet-d.ensures, c.number-m.ensures, c.row_of-s.ensures, c.octet-n.ensures) at (c.to_slot.ensures g.signal.now)
    ∙ credits_placed o g.answer.now g.room.now g.signal.now g.link g.ind c.requires (passes o c.requires (Some (length g.room.now)) (Some (length g.signal.now)) (Some g.link) None (rw (c.room_size-size.ensures, c.octet-n.ensures, c.octet-d.ensures, c.number-m.ensures) at c.if-other.false-raw) c.if-short.false-raw c.if-beyond.false-raw refl) some
