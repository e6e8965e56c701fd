-- `edge::setting` meets its contract: the test is that of the definition.
use Rattle.lists.specs.Choose.{choose}
use Rattle.lists.proofs.Rules.{tests}
use Rattle.edge.specs.Edge.{setting_of}
use Rattle.edge.proofs.setting.Goals as goal

pub returns-then-n-gt65535 : goal.returns-then-n-gt65535
unfolding setting_of choose
returns-then-n-gt65535 c = search tests

pub returns : goal.returns
unfolding setting_of choose
returns c = search tests
