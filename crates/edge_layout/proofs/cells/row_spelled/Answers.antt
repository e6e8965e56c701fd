-- `edge_layout::cells::row_spelled` meets its contract: the tests are those of the definition.
use Rattle.edge_layout.specs.Spelled.{row_spelled}
use Rattle.edge_layout.proofs.cells.row_spelled.Goals as goal

pub returns : goal.returns
unfolding row_spelled
returns c = rw (c.octet-3.ensures, c.state_spelled.ensures, c.octet-2.ensures, c.octet.ensures)
