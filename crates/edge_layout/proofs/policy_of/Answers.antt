-- `edge_layout::policy_of` meets its contract: the test is that of the definition.
use Rattle.lists.specs.Choose.{choose}
use Rattle.lists.proofs.Rules.{tests}
use Rattle.edge_layout.specs.Layout.{policy_of}
use Rattle.edge_layout.proofs.policy_of.Goals as goal

pub returns-then-kind-eq1 : goal.returns-then-kind-eq1
unfolding policy_of choose
returns-then-kind-eq1 c = search tests

pub returns : goal.returns
unfolding policy_of choose
returns c = search tests
