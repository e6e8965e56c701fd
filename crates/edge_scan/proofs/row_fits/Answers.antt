-- `edge_scan::row_fits` meets its contract: each part is what its function ensures.
use Rattle.edge_scan.specs.Scan.{row_fits}
use Rattle.edge_scan.proofs.row_fits.Goals as goal

pub returns : goal.returns
unfolding row_fits
returns c =
    rw (c.aside_fits-aside.ensures, c.job_fits-job.ensures, c.sum_fits-sum.ensures, c.within-mtu.ensures, c.within-want.ensures, c.within-have.ensures, c.lens_fit-lens.ensures, c.octet-count.ensures)
