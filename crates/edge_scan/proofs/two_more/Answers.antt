-- `edge_scan::two_more` meets its contract: it is the definition's formula.
use Rattle.edge_scan.proofs.two_more.Goals as goal

pub returns : goal.returns
returns c = rw c.less.ensures
