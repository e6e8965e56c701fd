-- `signal_bodies::read_conn_param_update_res` meets its contract: the test of the length tells which arm of the definition it is.
use borrow.Author.Tests.{eq-eqb, ne_eqb}
use Rattle.lists.specs.Choose.{choose}
use Rattle.signal_bodies.specs.Bodies.{conn_param_update_res}
use Rattle.signal_bodies.proofs.read_conn_param_update_res.Goals as goal

pub returns-then-body-ne2 : goal.returns-then-body-ne2
unfolding conn_param_update_res choose
returns-then-body-ne2 c = rw (ne_eqb _ _ c.if-body-ne2.true)

pub returns : goal.returns
unfolding conn_param_update_res choose
returns c = rw (eq-eqb _ _ c.if-body-ne2.false, c.number.ensures)
