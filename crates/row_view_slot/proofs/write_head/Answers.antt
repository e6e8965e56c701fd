-- `row_view_slot::write_head` meets its contract: its pieces follow one another (writes-append).
use Rattle.text_write.specs.Rows.{writes-append}
use Rattle.row_view_slot.specs.SlotLine.{head_text}
use Rattle.row_view_slot.proofs.write_head.Goals as goal

pub returns : goal.returns
unfolding head_text
returns c = writes-append (writes-append (writes-append c.write_character-mark.ensures c.write_columns-number.ensures) c.write_character-space.ensures) c.write_state.ensures
