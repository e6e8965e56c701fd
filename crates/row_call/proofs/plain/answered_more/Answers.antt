-- `row_call::plain::answered_more` meets its contract: its pieces follow one another (writes-append).
use Rattle.text_write.specs.Rows.{writes-append}
use Rattle.row_call.proofs.plain.answered_more.Goals as goal

pub returns : goal.returns
returns c = writes-append (writes-append c.write_answer-n.ensures c.write_columns-numbers.ensures) c.write_character.ensures
