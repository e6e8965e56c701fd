-- `edge::keep` meets its contract: the test is that of the definition.
use Rattle.lists.specs.Choose.{choose}
use Rattle.edge.proofs.keep.Goals as goal

pub returns-then-ok : goal.returns-then-ok
unfolding choose
returns-then-ok c = rw c.if-ok.true c.encode.ensures.0

pub returns-else-ok : goal.returns-else-ok
unfolding choose
returns-else-ok c = rw c.if-ok.false
