-- `edge_layout::failed_by` meets its contract: in each arm what the match told is the definition's case.
use mathlib.Core.Path.{ap, sym}
use Rattle.edge_layout.specs.Layout.{failed_by}
use Rattle.edge_layout.proofs.failed_by.Goals as goal

pub returns-in-Some : goal.returns-in-Some
returns-in-Some c = ap failed_by (sym c.in-Some.is)
