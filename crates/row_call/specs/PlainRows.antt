-- The plain rows of docs/CHANRUN.md, each with its newline: "for each call ANSWER OCTETS and the columns listed".
use Rattle.std.specs.Prelude.{List, ◌++◌, ℕ}
use Rattle.text_write.specs.Text.{text}
use Rattle.row_columns.specs.Columns.{columns_text}
use Rattle.row_answer.specs.Answers.{answer_text}
use Rattle.channel.specs.declared.Answer.{Answer}

-- "A line that cannot be read prints `? -`"
abbrev pub bad_text : List ℕ
bad_text = text "? -\n"

-- the answer, the octets and the answer's own columns
abbrev pub row_text : Answer → (octets : List ℕ) → List ℕ
row_text a octets = answer_text a octets ++ text "\n"

-- and numbers behind them
abbrev pub more_text : Answer → (octets more : List ℕ) → List ℕ
more_text a octets more = (answer_text a octets ++ columns_text more) ++ text "\n"
