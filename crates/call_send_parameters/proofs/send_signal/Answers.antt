-- `call_send_parameters::send_signal` meets its contract: behind the gate code and definition make the same tests in the same order.
use mathlib.Core.List.{[]}
use Rattle.definition.specs.Asking.{send_signal}
use Rattle.table_gate.specs.Behind.{behind, on, stopped, ended}
use Rattle.call_send_parameters.proofs.send_signal.Goals as goal

pub tell-requires : goal.tell-requires
tell-requires c =
    let p = behind c.gate.ensures c.in-Ok.is in
    p.signal-is

pub returns-in-Err : goal.returns-in-Err
unfolding send_signal
returns-in-Err c =
    rw (stopped c.gate.ensures c.in-Err.is) (ended c.refused.ensures _ _)

pub returns-in-Ok : goal.returns-in-Ok
unfolding send_signal
returns-in-Ok c =
    rw (on c.gate.ensures c.in-Ok.is)
    (rw (c.next_id-id.ensures, c.spent-u.ensures) at (c.tell.ensures c.args.t [] []))
