-- `chanrun::calls::serve_found` meets its contract: a line leaves what it is defined to leave, and else nothing changes.
use Rattle.std.proofs.Common.{refl}
use Rattle.std.proofs.lemmas.Result.{IfOk-weaker, MatchResult-weaker}
use Rattle.chanrun.specs.Served.{found_of, StandsFound}
use Rattle.chanrun.proofs.calls.serve_found.Goals as goal

pub returns-in-Line-clause-ok : goal.returns-in-Line-clause-ok
unfolding found_of
returns-in-Line-clause-ok g c = rw (c.in-Line.is, ← c.text.ensures) c.serve.ensures.ok

pub returns-in-Line-clause-err : goal.returns-in-Line-clause-err
unfolding StandsFound
returns-in-Line-clause-err g c = rw (c.in-Line.is, ← c.text.ensures) c.serve.ensures.err

pub returns-in-Passed-clause-ok : goal.returns-in-Passed-clause-ok
unfolding found_of
returns-in-Passed-clause-ok g c = rw c.in-Passed.is (record { leaves = record { table = refl; room = refl }; buffers = refl })

pub returns-in-Long-clause-ok : goal.returns-in-Long-clause-ok
unfolding found_of
returns-in-Long-clause-ok g c =
    rw c.in-Long.is (IfOk-weaker c.bad.result _ _ (λ u e. record { leaves = record { table = e; room = refl }; buffers = refl }) c.bad.ensures.ok)

pub returns-in-Long-clause-err : goal.returns-in-Long-clause-err
unfolding found_of StandsFound
returns-in-Long-clause-err g c =
    rw c.in-Long.is (MatchResult-weaker c.bad.result c.bad.ensures.ok (λ u e. tt) (λ e k. record { room = refl; buffers = refl }))

pub returns-in-More-clause-ok : goal.returns-in-More-clause-ok
unfolding found_of
returns-in-More-clause-ok g c = rw c.in-More.is (record { leaves = record { table = refl; room = refl }; buffers = refl })
