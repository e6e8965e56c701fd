-- `call_reject::reject_pending` meets its contract: what the number is read as decides which call it is.
use Rattle.call_reject.proofs.reject_pending.Goals as goal

pub returns-in-Some : goal.returns-in-Some
returns-in-Some c = rw (← c.result_of.ensures, c.in-Some.is) c.reject_pending.ensures

pub returns-in-None : goal.returns-in-None
returns-in-None c = rw (← c.result_of.ensures, c.in-None.is) c.not_code.ensures
