-- `row_view_names::write_named` meets its contract: its pieces follow one another (writes-append).
use Rattle.text_write.specs.Rows.{writes-append}
use Rattle.row_view_names.proofs.write_named.Goals as goal

pub returns : goal.returns
returns c = writes-append c.write_text-next.ensures c.write_number.ensures
