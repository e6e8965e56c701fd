-- `edge_layout_decode::not_read` meets its contract: it is the table of no slots.
use Rattle.edge_layout_decode.proofs.not_read.Goals as goal

pub returns : goal.returns
returns c = rw c.blank-table.ensures
