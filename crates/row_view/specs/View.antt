-- The view of a table (docs/CHANRUN.md, `V`): "N D M and the next identifier; then a line for each slot".
use Rattle.std.specs.Prelude.{List, [], ◌∷◌, ◌++◌, ℕ, zero, suc}
use Rattle.text_write.specs.Text.{text}
use Rattle.row_columns.specs.Columns.{columns_text}
use Rattle.channel_answer.specs.Tells.{shown}
use Rattle.row_answer.specs.Answers.{answer_text}
use Rattle.channel.specs.declared.Answer.TheVariants as Answer
use Rattle.channel.specs.declared.Slot.{Slot}
use Rattle.channel.specs.declared.Table.{Table}
use Rattle.definition.specs.Table.{live}
use Rattle.row_view_slot.specs.SlotLine.{slot_text}

-- the lines of the slots from number s on
unfoldable pub slots_text : ℕ → List Slot → List ℕ
slots_text s [] = []
slots_text s (x ∷ xs) = slot_text s x ++ slots_text (suc s) xs

-- "N D M and the next identifier"
unfoldable pub sizes_text : Table → List ℕ
sizes_text t =
    (answer_text Answer.Done [] ++ columns_text (shown t.n ∷ shown t.d ∷ shown t.m ∷ t.identifier ∷ []))
    ++ text "\n"

unfoldable pub view_text : Table → List ℕ
view_text t = sizes_text t ++ slots_text zero (live t)
