-- `edge_scan::within` meets its contract: `most` ensures it of the octets that were read.
use Rattle.edge_scan.proofs.within.Goals as goal

pub returns : goal.returns
returns c = rw (c.most.ensures, c.octet-2.ensures, c.octet.ensures)
