-- `edge_scan::lens_fit` meets its contract: each length is tested as `within` ensures.
use Rattle.edge_scan.proofs.lens_fit.Goals as goal

pub returns : goal.returns
returns c = rw (c.within-4.ensures, c.within-3.ensures, c.within-2.ensures, c.within.ensures)
