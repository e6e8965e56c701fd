-- `on_conn_res::on_conn_res` meets its contract: code and definition search for the same attempt.
use mathlib.Core.List.{[]}
use borrow.Author.Tests.{le-leb, lt-leb}
use Rattle.lists.specs.Choose.{choose}
use Rattle.definition.specs.Mem.{sizes}
use Rattle.definition.specs.Signals.{on_conn_res}
use Rattle.on_conn_res.proofs.on_conn_res.Goals as goal

pub returns-then-t-s : goal.returns-then-t-s
unfolding choose sizes on_conn_res
returns-then-t-s c =
    rw (c.in-Some.is, ← c.find-s.ensures, le-leb _ _ c.if-t-s.true) (c.free_all.ensures _ [])

pub returns-in-None : goal.returns-in-None
unfolding choose sizes on_conn_res
returns-in-None c =
    rw c.in-None.is (c.bad_body.ensures _ _ [])

pub returns-else-t-s : goal.returns-else-t-s
unfolding choose sizes on_conn_res
returns-else-t-s c =
    rw (c.in-Some.is, ← c.find-s.ensures, lt-leb _ _ c.if-t-s.false) (c.on_answer.ensures _ _ _ [])
