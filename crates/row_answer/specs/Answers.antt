-- The row of a call (docs/CHANRUN.md): "ANSWER OCTETS and the columns listed. ANSWER is 0 or the refusal's number. OCTETS is what the call
-- wrote, in hex, or `-`."
use Rattle.std.specs.Prelude.{List, ◌++◌, ℕ}
use Rattle.text_write.specs.Text.{text}
use Rattle.text_decimal.specs.NumberText.{number_text}
use Rattle.text_hex_write.specs.HexText.{hex_text}
use Rattle.channel.specs.declared.Answer.{Answer}
use Rattle.channel_answer.specs.Tells.{tells, answer_number}
use Rattle.row_answer.specs.Told.{columns_in}
use Rattle.row_columns.specs.Columns.{columns_text}

unfoldable pub answer_text : Answer → List ℕ → List ℕ
answer_text a octets = ((number_text (answer_number a) ++ text " ") ++ hex_text octets) ++ columns_text (columns_in (tells a))
