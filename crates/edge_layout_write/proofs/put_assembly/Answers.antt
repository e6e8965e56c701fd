-- `edge_layout_write::put_assembly` meets its contract: its stores are the row's, one after the other.
use Rattle.edge_layout_write.specs.Puts.{puts}
use Rattle.edge_layout_write.proofs.put_assembly.Goals as goal

pub returns : goal.returns
unfolding puts
returns c =
    rw (c.put_number-2.ensures, c.put_number.ensures)
