-- `edge_layout_decode::spelled` meets its contract: the tests are those of the definition.
use Rattle.edge_layout_decode.proofs.spelled.Goals as goal

pub returns : goal.returns
returns c = rw (c.rows_spelled.ensures, c.head_spelled.ensures)
