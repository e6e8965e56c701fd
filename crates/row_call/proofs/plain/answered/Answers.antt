-- `row_call::answered` meets its contract: its pieces follow one another (writes-append).
use Rattle.text_write.specs.Rows.{writes-append}
use Rattle.row_call.proofs.plain.answered.Goals as goal

pub returns : goal.returns
returns c = writes-append c.write_answer-n.ensures c.write_character.ensures
