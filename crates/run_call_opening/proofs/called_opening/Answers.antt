-- `run_call_opening::called_opening` meets its contract: in each arm what the match told is the definition's case, and the call's own contract is its
-- end.
use mathlib.Core.Path.{ap}
use Rattle.run_call_opening.specs.Called.{lent_room, lent_signal, lent_nothing, end_opening}
use Rattle.run_call_opening.proofs.called_opening.Goals as goal

pub returns-in-RegisterSpsm : goal.returns-in-RegisterSpsm
unfolding end_opening
returns-in-RegisterSpsm c = rw c.in-RegisterSpsm.is (ap (lent_nothing _ _) c.register_spsm.ensures)

pub returns-in-NextPending : goal.returns-in-NextPending
unfolding end_opening
returns-in-NextPending c = rw c.in-NextPending.is (ap (lent_nothing _ _) c.next_pending.ensures)

pub returns-in-RejectAllPending : goal.returns-in-RejectAllPending
unfolding end_opening
returns-in-RejectAllPending c = rw c.in-RejectAllPending.is c.reject_all_pending.ensures

pub returns-in-AcceptPending : goal.returns-in-AcceptPending
unfolding end_opening
returns-in-AcceptPending c = rw (c.in-AcceptPending.is, ← c.slot_of.ensures) (ap (lent_signal _) c.accept_pending.ensures)

pub returns-in-RejectPending : goal.returns-in-RejectPending
unfolding end_opening
returns-in-RejectPending c = rw (c.in-RejectPending.is, ← c.slot_of-in-RejectPending.ensures) c.reject_pending.ensures

pub returns-in-DropPending : goal.returns-in-DropPending
unfolding end_opening
returns-in-DropPending c = rw (c.in-DropPending.is, ← c.slot_of-in-DropPending.ensures) (ap (lent_room _) c.drop_pending.ensures)

pub returns-in-Create : goal.returns-in-Create
unfolding end_opening
returns-in-Create c = rw c.in-Create.is (ap (lent_signal _) c.create.ensures)

pub returns-in-GiveUp : goal.returns-in-GiveUp
unfolding end_opening
returns-in-GiveUp c = rw (c.in-GiveUp.is, ← c.slot_of-in-GiveUp.ensures) (ap (lent_room _) c.give_up.ensures)
