-- `sar_join::reach` meets its contract: each return is one case law of `reached`, by the tests on the way to it.
use native.Mathlib.Omega.{arith}
use Rattle.sar_join.specs.JoinLaws.{reached_over, reached-part, reached-full, reached-whole}
use Rattle.sar_join.proofs.reach.Goals as goal

pub returns-then-want-have : goal.returns-then-want-have
returns-then-want-have c = reached_over _ _ _ _ c.if-want-have.true

pub returns-then-have-want : goal.returns-then-have-want
returns-then-have-want c = reached-part _ _ _ _ c.if-have-want.true

pub returns-then-d-queued : goal.returns-then-d-queued
returns-then-d-queued c = reached-full _ _ _ _ (omega arith) c.if-d-queued.true

pub returns : goal.returns
returns c = reached-whole _ _ _ _ (omega arith) c.if-d-queued.false
