-- `call_send::send_on` meets its contract: the work on the slot, put into the table, is the definition's send (sent-into).
use mathlib.Core.Path.{sym, ap, ◌∙◌}
use Rattle.channel.specs.declared.Slot.{Slot}
use Rattle.slot_send.specs.Sending.{sent_from}
use Rattle.slot_send.specs.Into.{into, sent-into}
use Rattle.call_send.proofs.send_on.Goals as goal

pub returns : goal.returns
returns c =
    let a = c.args in
    let sdu = a.sdu.now in
    let out = a.out.now in
    let worked = c.send_from-w.ensures ∙ ap (λ (x : Slot). sent_from x sdu out) c.slot_at-x.ensures in
    rw c.changed.ensures (ap (into a.t a.s) worked ∙ sym (sent-into a.t a.s sdu out))
