-- `signal_bodies::le_credit::read_le_credit_conn_res` meets its contract: the length, then what the result's number is read as, then field by field.
use Rattle.std.specs.Prelude.{◌≡◌, None}
use mathlib.Core.Path.{sym, ◌∙◌}
use borrow.Author.Tests.{eq-eqb, ne_eqb}
use native.Mathlib.Omega.{arith}
use Rattle.lists.specs.Choose.{choose}
use Rattle.signal_bodies.specs.LeCreditBodies.{le_credit_conn_res}
use Rattle.signal_bodies.proofs.le_credit.read_le_credit_conn_res.Goals as goal

pub returns-then-body-ne10 : goal.returns-then-body-ne10
unfolding le_credit_conn_res choose
returns-then-body-ne10 c = rw (ne_eqb _ _ c.if-body-ne10.true)

pub returns-in_err-result : goal.returns-in_err-result
unfolding le_credit_conn_res choose
returns-in_err-result c =
    let gone : c.from_residual.result ≡ None = grind arith in
    let read = rw c.number.ensures at (sym c.result_of.ensures ∙ c.in_err-result.was) in
    rw (eq-eqb _ _ c.if-body-ne10.false, read, gone)

pub returns : goal.returns
unfolding le_credit_conn_res choose
returns c =
    let read = rw c.number.ensures at (sym c.result_of.ensures ∙ c.in_ok-result.was) in
    rw (eq-eqb _ _ c.if-body-ne10.false, read, c.number-2.ensures, c.number-3.ensures, c.number-4.ensures, c.number-5.ensures)
