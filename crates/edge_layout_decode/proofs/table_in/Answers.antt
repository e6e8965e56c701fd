-- `edge_layout_decode::table_in` meets its contract: each field is what its callee reads.
use Rattle.edge_layout.specs.Layout.{taken}
use Rattle.edge_layout_decode.proofs.table_in.Goals as goal

pub returns : goal.returns
unfolding taken
returns c =
    rw (c.octet-3.ensures, c.number.ensures, c.octet-2.ensures, c.octet.ensures, c.spsms_in-spsms.ensures, c.slots_in-slots.ensures)
