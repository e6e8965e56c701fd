-- `edge_layout_write::local::put_tally` meets its contract: two stores.
use Rattle.edge_layout_write.proofs.local.put_tally.Goals as goal

pub returns : goal.returns
returns c = rw (c.put_long-2.ensures, c.put_long.ensures)
