-- `edge_send::outgoing::sent` meets its contract: refusal 6 told from the octets, and else the work on one slot, put into its row (sent_placed).
use mathlib.Core.Path.{◌≡◌, ap, ◌∙◌}
use mathlib.Core.Bool.{true, false}
use native.Mathlib.Omega.{arith}
use lib.Dec.{leb}
use lib.ListN.{get_or}
use borrow.Author.Tests.{le-leb, lt-leb}
use Rattle.codes.specs.declared.Refusal.TheVariants.{BadSlot}
use Rattle.channel.specs.declared.Slot.{Slot}
use Rattle.slot_send.specs.Sending.{sent_from}
use Rattle.edge_row.proofs.Gate.{valid_long, refused_6}
use Rattle.edge_placed.specs.Sent.{slot-within, send_stopped, stopped_octets, sent_placed, octets_sent}
use Rattle.edge_send.proofs.outgoing.sent.Goals as goal

pub bounds-table-1 : goal.bounds-table-1
bounds-table-1 c =
    let long = valid_long c.args.table.now c.requires in
    omega (arith, long)

pub returns-then-table-slot : goal.returns-then-table-slot
returns-then-table-slot c =
    let a = c.args in
    let o = a.table.now in
    let told = c.put_answer-number.ensures in
    let none : leb (get_or o 1 0) a.slot ≡ true = le-leb (get_or o 1 0) a.slot c.if-table-slot.true in
    let stop = refused_6 o c.requires a.slot none in
    record { out_after = rw (told.value, told.out_after) (send_stopped o a.answer.now a.out.now a.sdu.now a.slot BadSlot stop); octets_value = stopped_octets o a.out.now a.sdu.now a.slot BadSlot stop }

pub row-x-requires : goal.row-x-requires
row-x-requires c =
    let o = c.args.table.now in
    let slot = c.args.slot in
    let one : leb (get_or o 1 0) slot ≡ false = lt-leb (get_or o 1 0) slot c.if-table-slot.false in
    (omega (arith, valid_long o c.requires), slot-within o slot c.requires one)

pub put_peer_credits-requires : goal.put_peer_credits-requires
put_peer_credits-requires c =
    let o = c.args.table.now in
    let slot = c.args.slot in
    let one : leb (get_or o 1 0) slot ≡ false = lt-leb (get_or o 1 0) slot c.if-table-slot.false in
    (omega (arith, valid_long o c.requires), slot-within o slot c.requires one)

pub put_sends-requires : goal.put_sends-requires
put_sends-requires c =
    let o = c.args.table.now in
    let slot = c.args.slot in
    let one : leb (get_or o 1 0) slot ≡ false = lt-leb (get_or o 1 0) slot c.if-table-slot.false in
    (omega (arith, valid_long o c.requires), slot-within o slot c.requires one)

pub returns : goal.returns
returns c =
    let a = c.args in
    let o = a.table.now in
    let one : leb (get_or o 1 0) a.slot ≡ false = lt-leb (get_or o 1 0) a.slot c.if-table-slot.false in
    let told = c.put_answer-number-2.ensures in
    let worked = c.send_from-w.ensures ∙ ap (λ (x : Slot). sent_from x a.sdu.now a.out.now) c.row-x.ensures in record {
      out_after = rw (told.value, told.out_after, c.put_sends.ensures, c.put_peer_credits.ensures) (sent_placed o a.answer.now a.out.now a.sdu.now a.slot c.requires one worked);
      octets_value = octets_sent o a.answer.now a.out.now a.sdu.now a.slot c.requires one worked;
    }
