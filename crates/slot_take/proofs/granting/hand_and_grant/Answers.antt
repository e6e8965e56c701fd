-- `slot_take::granting::hand_and_grant` meets its contract: what was handed out, booked and written is the work of a take that grants (took_granting).
use Rattle.slot_take.specs.Handed.{took_granting}
use Rattle.slot_take.proofs.granting.hand_and_grant.Goals as goal

pub hand-requires : goal.hand-requires
hand-requires c =
    let p = c.requires in
    (p.0, rw c.with_account-y.ensures p.2)

pub returns : goal.returns
returns c =
    let a = c.args in
    took_granting a.d a.m a.s a.id a.x a.signal.now
    (rw c.granted_through.ensures at c.with_account-y.ensures)
    c.credits_of-ind.ensures
    c.hand.ensures
    c.reply-octets.ensures
