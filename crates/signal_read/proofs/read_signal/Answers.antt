-- `signal_read::read_signal` meets its contract: in each arm the definition is a function of the reader's answer.
use Rattle.std.specs.Prelude.{◌≡◌, Option, None, Some, Ok, MatchOption, IsSomeAnd, ok_or}
use mathlib.Core.Path.{ap, ◌∙◌}
use borrow.Author.Tests.{ne_eqb}
use native.Mathlib.Omega.{arith}
use Rattle.lists.specs.Choose.{choose}
use Rattle.codes.specs.declared.Refusal.TheVariants.{Decode}
use Rattle.signal_forms.specs.declared.Signal.{Signal}
use Rattle.signal_forms.specs.declared.Signal.TheVariants as Signal
use Rattle.signal_read.specs.SignalRead.{from_body, signal_of}
use Rattle.signal_read.proofs.read_signal.Goals as goal

-- a body that was read, or not, under its form
under : {A : Type 0} (form : A → Signal) (o : Option A) (r : Option Signal) → MatchOption o (r ≡ None) (λ x. IsSomeAnd r (λ y. y ≡ form x)) → ok_or r Decode ≡ from_body form o
under form None r h = rw h
under form (Some x) (Some y) h = ap Ok h
under form (Some x) None h = absurd h

pub returns-in-1 : goal.returns-in-1
unfolding signal_of choose
returns-in-1 c = rw c.in-1.is (c.ok_or.ensures.value ∙ under Signal.CommandRejectRes _ _ c.map.ensures.cases ∙ ap (from_body Signal.CommandRejectRes) c.read_command_reject_res.ensures)

pub returns-in-6 : goal.returns-in-6
unfolding signal_of choose
returns-in-6 c = rw c.in-6.is (c.ok_or-in-6.ensures.value ∙ under Signal.DisconnectionReq _ _ c.map-in-6.ensures.cases ∙ ap (from_body Signal.DisconnectionReq) c.read_disconnection_req.ensures)

pub returns-in-7 : goal.returns-in-7
unfolding signal_of choose
returns-in-7 c = rw c.in-7.is (c.ok_or-in-7.ensures.value ∙ under Signal.DisconnectionRes _ _ c.map-in-7.ensures.cases ∙ ap (from_body Signal.DisconnectionRes) c.read_disconnection_res.ensures)

pub returns-in-18 : goal.returns-in-18
unfolding signal_of choose
returns-in-18 c = rw c.in-18.is (c.ok_or-in-18.ensures.value ∙ under Signal.ConnParamUpdateReq _ _ c.map-in-18.ensures.cases ∙ ap (from_body Signal.ConnParamUpdateReq) c.read_conn_param_update_req.ensures)

pub returns-in-19 : goal.returns-in-19
unfolding signal_of choose
returns-in-19 c = rw c.in-19.is (c.ok_or-in-19.ensures.value ∙ under Signal.ConnParamUpdateRes _ _ c.map-in-19.ensures.cases ∙ ap (from_body Signal.ConnParamUpdateRes) c.read_conn_param_update_res.ensures)

pub returns-in-20 : goal.returns-in-20
unfolding signal_of choose
returns-in-20 c = rw c.in-20.is (c.ok_or-in-20.ensures.value ∙ under Signal.LeCreditConnReq _ _ c.map-in-20.ensures.cases ∙ ap (from_body Signal.LeCreditConnReq) c.read_le_credit_conn_req.ensures)

pub returns-in-21 : goal.returns-in-21
unfolding signal_of choose
returns-in-21 c = rw c.in-21.is (c.ok_or-in-21.ensures.value ∙ under Signal.LeCreditConnRes _ _ c.map-in-21.ensures.cases ∙ ap (from_body Signal.LeCreditConnRes) c.read_le_credit_conn_res.ensures)

pub returns-in-22 : goal.returns-in-22
unfolding signal_of choose
returns-in-22 c = rw c.in-22.is (c.ok_or-in-22.ensures.value ∙ under Signal.LeCreditFlowInd _ _ c.map-in-22.ensures.cases ∙ ap (from_body Signal.LeCreditFlowInd) c.read_le_credit_flow_ind.ensures)

pub returns-in_default : goal.returns-in_default
unfolding signal_of choose
returns-in_default c =
    let n = c.args.code in
    rw (ne_eqb n 1 (omega arith), ne_eqb n 6 (omega arith), ne_eqb n 7 (omega arith), ne_eqb n 18 (omega arith), ne_eqb n 19 (omega arith), ne_eqb n 20 (omega arith), ne_eqb n 21 (omega arith), ne_eqb n 22 (omega arith))
