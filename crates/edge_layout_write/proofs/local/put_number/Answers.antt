-- `edge_layout_write::local::put_number` meets its contract: two stores.
use Rattle.edge_layout_write.proofs.local.put_number.Goals as goal

pub returns : goal.returns
returns c =
    rw (c.put_octet-2.ensures, c.put_octet.ensures)
