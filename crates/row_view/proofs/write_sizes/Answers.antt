-- `row_view::write_sizes` meets its contract: its pieces follow one another (writes-append).
use Rattle.text_write.specs.Rows.{writes-append}
use Rattle.row_view.specs.View.{sizes_text}
use Rattle.row_view.proofs.write_sizes.Goals as goal

pub returns : goal.returns
unfolding sizes_text
returns c = rw (← c.shown.ensures, ← c.shown-2.ensures, ← c.shown-3.ensures) (writes-append (writes-append c.write_answer-answer.ensures c.write_columns-numbers.ensures) c.write_character.ensures)
