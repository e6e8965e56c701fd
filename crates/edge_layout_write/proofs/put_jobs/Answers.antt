-- `edge_layout_write::put_jobs` meets its contract: the three parts, one after the other.
use Rattle.edge_layout_write.proofs.put_jobs.Goals as goal

pub returns : goal.returns
returns c =
    rw (c.put_job.ensures, c.put_queue.ensures, c.put_assembly.ensures)
