-- `on_signal::handled` meets its contract: each code goes to the handler that the definition names.
use mathlib.Core.List.{[]}
use borrow.Author.Tests.{ne_eqb}
use Rattle.lists.specs.Choose.{choose}
use Rattle.definition.specs.Mem.{sizes}
use Rattle.definition.specs.Signals.{handled}
use native.Mathlib.Omega.{arith}
use Rattle.on_signal.proofs.handled.Goals as goal

pub returns-in-1 : goal.returns-in-1
unfolding choose sizes handled
returns-in-1 c =
    rw (c.in-1.is, ← c.read_command_reject_res.ensures) (c.on_reject.ensures _ _ [])

pub returns-in-6 : goal.returns-in-6
unfolding choose sizes handled
returns-in-6 c =
    rw (c.in-6.is, ← c.read_disconnection_req.ensures) c.on_disconnection_req.ensures

pub returns-in-7 : goal.returns-in-7
unfolding choose sizes handled
returns-in-7 c =
    rw (c.in-7.is, ← c.read_disconnection_res.ensures) c.on_disconnection_res.ensures

pub returns-in-18 : goal.returns-in-18
unfolding choose sizes handled
returns-in-18 c =
    rw c.in-18.is (c.on_update.ensures _ _ [])

pub returns-in-19 : goal.returns-in-19
unfolding choose sizes handled
returns-in-19 c =
    rw (c.in-19.is, ← c.read_conn_param_update_res.ensures) (c.on_parameter_response.ensures _ _ [])

pub returns-in-20 : goal.returns-in-20
unfolding choose sizes handled
returns-in-20 c =
    rw (c.in-20.is, ← c.read_le_credit_conn_req.ensures) (c.on_conn_req.ensures _ _ [])

pub returns-in-21 : goal.returns-in-21
unfolding choose sizes handled
returns-in-21 c =
    rw (c.in-21.is, ← c.read_le_credit_conn_res.ensures) c.on_conn_res.ensures

pub returns-in-22 : goal.returns-in-22
unfolding choose sizes handled
returns-in-22 c =
    rw (c.in-22.is, ← c.read_le_credit_flow_ind.ensures) c.on_credits.ensures

pub returns-in_default : goal.returns-in_default
unfolding choose sizes handled
returns-in_default c =
    let n = c.args.code in
    rw (
      ne_eqb n 1 (omega arith),
      ne_eqb n 6 (omega arith),
      ne_eqb n 7 (omega arith),
      ne_eqb n 18 (omega arith),
      ne_eqb n 19 (omega arith),
      ne_eqb n 20 (omega arith),
      ne_eqb n 21 (omega arith),
      ne_eqb n 22 (omega arith),
    ) (c.reject.ensures _ _ [])
