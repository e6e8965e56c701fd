-- `signal_bodies::read_conn_param_update_req` meets its contract: the test of the length tells which arm of the definition it is.
use borrow.Author.Tests.{eq-eqb, ne_eqb}
use Rattle.lists.specs.Choose.{choose}
use Rattle.signal_bodies.specs.Bodies.{conn_param_update_req}
use Rattle.signal_bodies.proofs.read_conn_param_update_req.Goals as goal

pub returns-then-body-ne8 : goal.returns-then-body-ne8
unfolding conn_param_update_req choose
returns-then-body-ne8 c = rw (ne_eqb _ _ c.if-body-ne8.true)

pub returns : goal.returns
unfolding conn_param_update_req choose
returns c = rw (eq-eqb _ _ c.if-body-ne8.false, c.number.ensures, c.number-2.ensures, c.number-3.ensures, c.number-4.ensures)
