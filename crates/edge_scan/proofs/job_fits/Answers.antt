-- `edge_scan::job_fits` meets its contract: each test is what its function ensures of the octets that were read.
use Rattle.edge_scan.proofs.job_fits.Goals as goal

pub returns : goal.returns
returns c =
    rw (c.two_more-begun.ensures, c.octet-8.ensures, c.octet-7.ensures, c.within-filled.ensures, c.octet-6.ensures, c.octet-5.ensures, c.most-taken.ensures, c.octet-4.ensures, c.octet-3.ensures, c.octet-high.ensures, c.octet-low.ensures, c.octet-2.ensures, c.octet.ensures)
