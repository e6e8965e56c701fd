-- `row_view_slot::write_local` meets its contract: its pieces follow one another (writes-append), and the CID is the definition's by the one function that gives it.
use Rattle.text_write.specs.Rows.{writes-append}
use Rattle.row_view_slot.specs.SlotLine.{local_text}
use Rattle.row_view_slot.proofs.write_local.Goals as goal

pub returns : goal.returns
unfolding local_text
returns c =
    writes-append (writes-append (writes-append (rw c.cid_of-cid.ensures at c.write_columns-numbers.ensures) c.write_character-space.ensures) c.write_policy-name.ensures) c.write_columns.ensures
