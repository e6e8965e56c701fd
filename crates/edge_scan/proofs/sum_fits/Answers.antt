-- `edge_scan::sum_fits` meets its contract: `within` ensures it of the octets that were read.
use Rattle.edge_scan.proofs.sum_fits.Goals as goal

pub returns : goal.returns
returns c = rw (c.within.ensures, c.octet-high.ensures, c.octet-low.ensures)
