-- `edge_layout_encode::head::put_sizes` meets its contract: its stores are the run, one after the other.
use Rattle.edge_layout_encode.proofs.head.put_sizes.Goals as goal

pub returns : goal.returns
returns c =
    rw (c.put-6.ensures, c.put-5.ensures, c.put-4.ensures, c.put-3.ensures, c.put-2.ensures, c.put.ensures)
