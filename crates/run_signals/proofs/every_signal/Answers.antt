use Rattle.std.proofs.lemmas.Result.{err_from_is_err_and}
use Rattle.run_signals.specs.Turns.{next_turn, all_turns, some_now, next_some, all_some}
use Rattle.run_signals.proofs.every_signal.Goals as goal

pub returns-in_err-next-clause-err : goal.returns-in_err-next-clause-err
returns-in_err-next-clause-err g c =
    let a = c.args in
    let p = err_from_is_err_and c.from_residual-in_err-next.result c.from_residual-in_err-next.ensures.1 in
    rw p.1 (all_some a.link a.listening a.central _ _ _ c.rest-rest.ensures c.in_ok-u.ensures.ok (c.loop-rest.invariant.some _ (some_now a.link a.listening a.central _ _ _ c.loop-rest-test.true c.in_err-next.ensures.err)))

pub loop-rest-preserved : goal.loop-rest-preserved
loop-rest-preserved g c =
    let a = c.args in
    let test = c.loop-rest-test.true in
    let tail = c.rest-tail.ensures in
    let said = c.in_ok-next.ensures.ok in
    record {
      served = next_turn a.link a.listening a.central _ _ _ test tail said c.loop-rest.invariant.served;
      some = λ r h. c.loop-rest.invariant.some r (next_some a.link a.listening a.central _ _ _ test tail said r h);
    }

pub returns-clause-ok : goal.returns-clause-ok
returns-clause-ok g c =
    let a = c.args in
    all_turns a.link a.listening a.central _ _ _ _ c.rest-rest.ensures c.in_ok-u.ensures.ok c.loop-rest-test.false c.loop-rest.invariant.served
