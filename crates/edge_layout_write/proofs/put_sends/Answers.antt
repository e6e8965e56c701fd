-- `edge_layout_write::put_sends` meets its contract: its stores are the row's, one after the other.
use Rattle.edge_layout_write.specs.Puts.{puts}
use Rattle.edge_layout_write.proofs.put_sends.Goals as goal

pub returns : goal.returns
unfolding puts
returns c = rw c.put_tally.ensures
