-- `edge_layout_write::local::put_long` meets its contract: four stores of the number's limbs.
use Rattle.edge_layout_write.proofs.local.put_long.Goals as goal

pub returns : goal.returns
returns c =
    rw (c.put_number-4.ensures, c.put_number-3.ensures, c.put_number-2.ensures, c.put_number.ensures, c.limbs_of-l.ensures)
