-- `signal_bodies::le_credit::read_le_credit_conn_req` meets its contract: the test of the length tells which arm of the definition it is.
use borrow.Author.Tests.{eq-eqb, ne_eqb}
use Rattle.lists.specs.Choose.{choose}
use Rattle.signal_bodies.specs.LeCreditBodies.{le_credit_conn_req}
use Rattle.signal_bodies.proofs.le_credit.read_le_credit_conn_req.Goals as goal

pub returns-then-body-ne10 : goal.returns-then-body-ne10
unfolding le_credit_conn_req choose
returns-then-body-ne10 c = rw (ne_eqb _ _ c.if-body-ne10.true)

pub returns : goal.returns
unfolding le_credit_conn_req choose
returns c = rw (eq-eqb _ _ c.if-body-ne10.false, c.number.ensures, c.number-2.ensures, c.number-3.ensures, c.number-4.ensures, c.number-5.ensures)
