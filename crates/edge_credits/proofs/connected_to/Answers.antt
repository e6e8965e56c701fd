-- `edge_credits::connected_to` meets its contract: three columns tell it (connected_kind).
use Rattle.edge_layout.specs.Layout.{cell, slot_in}
use Rattle.edge_placed.specs.Credited.{connected_kind}
use Rattle.edge_credits.proofs.connected_to.Goals as goal

pub returns : goal.returns
unfolding slot_in
returns c =
    let g = c.args in
    rw (connected_kind (cell g.t.now g.i 0) (cell g.t.now g.i 1), c.number-2.ensures, c.number.ensures, c.octet.ensures)
