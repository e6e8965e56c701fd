-- `edge_layout_write::put_tallies` meets its contract: the two directions, one after the other.
use Rattle.edge_layout_write.specs.Puts.{puts}
use Rattle.edge_layout_write.proofs.put_tallies.Goals as goal

pub returns : goal.returns
unfolding puts
returns c = rw (c.put_receives.ensures, c.put_sends.ensures)
