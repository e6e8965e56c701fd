-- `row_view_slot::write_slot` meets its contract: its pieces follow one another (writes-append).
use Rattle.text_write.specs.Rows.{writes-append}
use Rattle.row_view_slot.specs.SlotLine.{slot_text}
use Rattle.row_view_slot.proofs.write_slot.Goals as goal

pub returns : goal.returns
unfolding slot_text
returns c = writes-append (writes-append c.write_head-head.ensures c.write_local-local.ensures) c.write_peer.ensures
