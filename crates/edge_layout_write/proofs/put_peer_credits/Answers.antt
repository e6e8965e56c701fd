-- `edge_layout_write::put_peer_credits` meets its contract: its two stores are the row's.
use Rattle.edge_layout_write.specs.Puts.{puts}
use Rattle.edge_layout_write.proofs.put_peer_credits.Goals as goal

pub returns : goal.returns
unfolding puts
returns c = rw c.put_number.ensures
