-- `table_slot::fits` meets its contract: in each arm the match tells which search it is, and that search's function ensures its definition.
use Rattle.table_slot.proofs.fits.Goals as goal

pub returns-in-Free : goal.returns-in-Free
returns-in-Free c = rw (c.in-Free.is, c.is_free.ensures)

pub returns-in-OfLink : goal.returns-in-OfLink
returns-in-OfLink c = rw (c.in-OfLink.is, c.of_link.ensures)

pub returns-in-PendingOf : goal.returns-in-PendingOf
returns-in-PendingOf c = rw (c.in-PendingOf.is, c.pending_of.ensures)

pub returns-in-UnheldPendingOf : goal.returns-in-UnheldPendingOf
returns-in-UnheldPendingOf c = rw (c.in-UnheldPendingOf.is, c.unheld_pending_of.ensures)

pub returns-in-AttemptOf : goal.returns-in-AttemptOf
returns-in-AttemptOf c = rw (c.in-AttemptOf.is, c.attempt_of.ensures)

pub returns-in-AttemptBy : goal.returns-in-AttemptBy
returns-in-AttemptBy c = rw (c.in-AttemptBy.is, c.attempt_by.ensures)

pub returns-in-ConnectedTo : goal.returns-in-ConnectedTo
returns-in-ConnectedTo c = rw (c.in-ConnectedTo.is, c.connected_to.ensures)

pub returns-in-UsesPeer : goal.returns-in-UsesPeer
returns-in-UsesPeer c = rw (c.in-UsesPeer.is, c.uses_peer.ensures)

pub returns-in-Due : goal.returns-in-Due
returns-in-Due c = rw (c.in-Due.is, c.due_slot.ensures)

pub returns-in-Calls : goal.returns-in-Calls
returns-in-Calls c = rw (c.in-Calls.is, c.calls.ensures)
