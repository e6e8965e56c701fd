-- `edge::policy` meets its contract: the test is that of the definition.
use Rattle.lists.specs.Choose.{choose}
use Rattle.lists.proofs.Rules.{tests}
use Rattle.edge.specs.Edge.{policy_by}
use Rattle.edge.proofs.policy.Goals as goal

pub returns-then-kind-eq0 : goal.returns-then-kind-eq0
unfolding policy_by choose
returns-then-kind-eq0 c = search tests

pub returns : goal.returns
unfolding policy_by choose
returns c = search tests
