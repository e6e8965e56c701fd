-- `edge_layout_write::local::put_state` meets its contract: its stores are the row's, one after the other.
use Rattle.edge_layout_write.specs.Puts.{puts}
use Rattle.edge_layout_write.proofs.local.put_state.Goals as goal

pub returns : goal.returns
unfolding puts
returns c =
    rw (c.put_octet-2.ensures, c.state_value.ensures, c.put_octet.ensures, c.state_kind.ensures)
