-- `edge_layout::state_spelled` meets its contract: it is the definition's formula.
use Rattle.std.proofs.Common.{refl}
use Rattle.edge_layout.specs.Spelled.{state_spelled}
use Rattle.edge_layout.proofs.state_spelled.Goals as goal

pub returns : goal.returns
unfolding state_spelled
returns c = refl
