-- `edge_layout_write::put_left` meets its contract: the parts, one after the other.
use Rattle.edge_layout_write.proofs.put_left.Goals as goal

pub returns : goal.returns
returns c =
    rw (c.put_tallies.ensures, c.put_jobs.ensures, c.put_account.ensures, c.put_state.ensures)
