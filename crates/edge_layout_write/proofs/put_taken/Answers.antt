-- `edge_layout_write::put_taken` meets its contract: the two parts, one after the other.
use Rattle.edge_layout_write.proofs.put_taken.Goals as goal

pub returns : goal.returns
returns c =
    rw (c.put_queue.ensures, c.put_account.ensures)
