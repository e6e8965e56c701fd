-- `edge_start_job::started` meets its contract: refusal 6 told from the octets, and else the work on one slot, put into its row (start_placed).
use mathlib.Core.Path.{◌≡◌, ap, ◌∙◌}
use mathlib.Core.Bool.{false, true}
use mathlib.Core.List.{[]}
use native.Mathlib.Omega.{arith}
use lib.Dec.{leb}
use lib.ListN.{length, get_or}
use borrow.Author.Tests.{le-leb, lt-leb}
use Rattle.codes.specs.declared.Refusal.TheVariants.{BadSlot}
use Rattle.channel.specs.declared.Slot.{Slot}
use Rattle.slot_portion.specs.Filled.{after_of}
use Rattle.slot_portion.specs.Starting.{start_of}
use Rattle.edge_row.proofs.Gate.{valid_long, refused_6}
use Rattle.edge_placed.specs.Sent.{slot-within}
use Rattle.edge_placed.specs.Filled.{start_stopped, start_placed}
use Rattle.edge_start_job.proofs.started.Goals as goal

pub bounds-table-1 : goal.bounds-table-1
bounds-table-1 c =
    let long = valid_long c.args.table.now c.requires in
    omega (arith, long)

pub returns-then-table-slot : goal.returns-then-table-slot
returns-then-table-slot c =
    let a = c.args in
    let o = a.table.now in
    let told = c.put_answer.ensures in
    let none : leb (get_or o 1 0) a.slot ≡ true = le-leb (get_or o 1 0) a.slot c.if-table-slot.true in
    rw (told.value, told.out_after) (start_stopped o a.answer.now a.buffer.now a.slot a.stated BadSlot (refused_6 o c.requires a.slot none))

pub slot_at-x-requires : goal.slot_at-x-requires
slot_at-x-requires c =
    let o = c.args.table.now in
    let slot = c.args.slot in
    let one : leb (get_or o 1 0) slot ≡ false = lt-leb (get_or o 1 0) slot c.if-table-slot.false in
    (omega (arith, valid_long o c.requires), slot-within o slot c.requires one)

pub put_peer_credits-requires : goal.put_peer_credits-requires
put_peer_credits-requires c =
    let o = c.args.table.now in
    let slot = c.args.slot in
    let one : leb (get_or o 1 0) slot ≡ false = lt-leb (get_or o 1 0) slot c.if-table-slot.false in
    (omega (arith, valid_long o c.requires), slot-within o slot c.requires one)

pub put_job-requires : goal.put_job-requires
put_job-requires c =
    let o = c.args.table.now in
    let slot = c.args.slot in
    let one : leb (get_or o 1 0) slot ≡ false = lt-leb (get_or o 1 0) slot c.if-table-slot.false in
    (omega (arith, valid_long o c.requires), slot-within o slot c.requires one)

pub put_sends-requires : goal.put_sends-requires
put_sends-requires c =
    let o = c.args.table.now in
    let slot = c.args.slot in
    let one : leb (get_or o 1 0) slot ≡ false = lt-leb (get_or o 1 0) slot c.if-table-slot.false in
    (omega (arith, valid_long o c.requires), slot-within o slot c.requires one)

pub returns : goal.returns
returns c =
    let a = c.args in
    let o = a.table.now in
    let one : leb (get_or o 1 0) a.slot ≡ false = lt-leb (get_or o 1 0) a.slot c.if-table-slot.false in
    let told = c.put_answer-2.ensures in
    let worked = c.start_from-w.ensures ∙ ap (λ (x : Slot). after_of (start_of x a.stated (length a.buffer.now)) [] a.buffer.now) c.slot_at-x.ensures in
    rw (told.value, told.out_after, c.put_sends.ensures, c.put_job.ensures, c.put_peer_credits.ensures) (start_placed o a.answer.now a.buffer.now a.slot a.stated c.requires one worked)
