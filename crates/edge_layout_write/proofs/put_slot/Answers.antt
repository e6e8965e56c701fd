-- `edge_layout_write::put_slot` meets its contract: the parts are the row (row-parts).
use Rattle.edge_layout_write.specs.Cells.{row-parts}
use Rattle.edge_layout_write.proofs.put_slot.Goals as goal

pub returns : goal.returns
returns c =
    rw (c.put_tallies.ensures, c.put_jobs.ensures, c.put_peer.ensures, c.put_octet.ensures, c.put_account.ensures, c.put_local.ensures, c.put_state.ensures) (row-parts _ _ _)
