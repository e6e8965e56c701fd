-- `edge_receive::taking::admitted` meets its contract: the first refusals told from line 0, and else the work on one slot, put into its row (take_placed).
use Rattle.std.specs.Prelude.{None, Some}
use mathlib.Core.Path.{◌≡◌, ◌∙◌}
use mathlib.Core.Bool.{true, false}
use native.Mathlib.Omega.{arith}
use lib.Dec.{eqb, leb}
use lib.ListN.{length, get_or}
use borrow.Author.Tests.{not-true, not-false, le-leb, lt-leb, ltb-false}
use Rattle.octets.specs.Octets.{u16_at}
use Rattle.codes.specs.declared.Refusal.TheVariants.{BadRoom}
use Rattle.channel.specs.Limits.{signal_most}
use Rattle.definition.specs.Table.{room_width}
use Rattle.edge_row.proofs.Gate.{valid_long, refused_2}
use Rattle.edge_placed.specs.Incoming.{sized-told}
use Rattle.edge_placed.specs.Taken.{take_stopped, take_3, take_6, take_row, take_part, take_placed}
use Rattle.edge_receive.proofs.taking.admitted.Goals as goal

pub room_size-size-requires : goal.room_size-size-requires
room_size-size-requires c =
    rw (c.octet-n.ensures, c.octet-d.ensures, c.number-m.ensures) (sized-told c.args.table.now c.requires)

pub returns-then-other : goal.returns-then-other
returns-then-other c =
    let g = c.args in
    let o = g.table.now in
    let told = c.put_answer.ensures in
    let e : eqb (length g.room.now) (room_width (get_or o 1 0) (get_or o 2 0) (u16_at o 3)) ≡ false = rw (c.room_size-size.ensures, c.octet-n.ensures, c.octet-d.ensures, c.number-m.ensures) at (not-true (eqb (length g.room.now) c.room_size-size.result) c.if-other.true-raw) in
    rw (told.value, told.out_after) (take_stopped o g.answer.now g.room.now g.signal.now g.job.now g.slot BadRoom (refused_2 o c.requires (length g.room.now) (Some (length g.signal.now)) None (Some g.slot) e))

pub returns-then-short : goal.returns-then-short
returns-then-short c =
    let g = c.args in
    let told = c.put_answer-then-short.ensures in
    rw (told.value, told.out_after) (take_3 g.table.now g.answer.now g.room.now g.signal.now g.job.now g.slot c.requires (rw (c.room_size-size.ensures, c.octet-n.ensures, c.octet-d.ensures, c.number-m.ensures) at (not-false (eqb (length c.args.room.now) c.room_size-size.result) c.if-other.false-raw)) c.if-short.true-raw)

pub returns-then-n-s : goal.returns-then-n-s
returns-then-n-s c =
    let g = c.args in
    let told = c.put_answer-then-n-s.ensures in
    let none : leb (get_or g.table.now 1 0) g.slot ≡ true = rw c.octet-n.ensures at (le-leb _ _ c.if-n-s.true) in
    rw (told.value, told.out_after) (take_6 g.table.now g.answer.now g.room.now g.signal.now g.job.now g.slot c.requires (rw (c.room_size-size.ensures, c.octet-n.ensures, c.octet-d.ensures, c.number-m.ensures) at (not-false (eqb (length c.args.room.now) c.room_size-size.result) c.if-other.false-raw)) c.if-short.false-raw none)

pub from_slot-requires : goal.from_slot-requires
from_slot-requires c =
    let g = c.args in
    let o = g.table.now in
    let e = rw (c.room_size-size.ensures, c.octet-n.ensures, c.octet-d.ensures, c.number-m.ensures) at (not-false (eqb (length c.args.room.now) c.room_size-size.result) c.if-other.false-raw) in
    let f = c.if-short.false-raw in
    let one : leb (get_or o 1 0) g.slot ≡ false = rw c.octet-n.ensures at (lt-leb _ _ c.if-n-s.false) in
    rw (c.octet-d.ensures, c.number-m.ensures)
    (omega (arith, valid_long o c.requires), take_row o g.answer.now g.room.now g.signal.now g.job.now g.slot c.requires e f one, take_part o g.answer.now g.room.now g.signal.now g.job.now g.slot c.requires e f one, ltb-false (length g.signal.now) signal_most f)

pub returns : goal.returns
returns c =
    let g = c.args in
    let o = g.table.now in
    let e = rw (c.room_size-size.ensures, c.octet-n.ensures, c.octet-d.ensures, c.number-m.ensures) at (not-false (eqb (length c.args.room.now) c.room_size-size.result) c.if-other.false-raw) in
    let one : leb (get_or o 1 0) g.slot ≡ false = rw c.octet-n.ensures at (lt-leb _ _ c.if-n-s.false) in
    (rw (c.octet-d.ensures, c.number-m.ensures) at c.from_slot.ensures) ∙ take_placed o g.answer.now g.room.now g.signal.now g.job.now g.slot c.requires e c.if-short.false-raw one
