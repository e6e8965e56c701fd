-- `run_queries::tallied` meets its contract: the row of the four answers.
use Rattle.run_queries.proofs.tallied.Goals as goal

pub returns : goal.returns
returns c = rw (← c.sent_of-a.ensures, ← c.received_of-b.ensures, ← c.blocked_sends_of-c.ensures, ← c.blocked_receives_of-d.ensures) c.tallied.ensures
