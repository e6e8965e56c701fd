-- What a run of entries tells its caller is what the outcomes of the definition's run say, and what it hands out (`told-spelled`): numbers, answers and tables from the
-- outcomes, and of a signal as many octets as the answer tells.
use Rattle.std.specs.Prelude.{ℕ, length, take}
use mathlib.Core.List.{List, [], ◌∷◌}
use Rattle.std.proofs.lemmas.List.Edits.{sets}
use Rattle.definition.specs.Outcome.{Outcome}
use Rattle.definition.specs.Calls.{Call}
use Rattle.definition.specs.Ending.{served_of}
use Rattle.definition.specs.Numbers.{answer_number}
use Rattle.definition.specs.Run.{lent, out_window}
use Rattle.edge_layout.specs.Layout.{spell}
use Rattle.edge_answer.specs.Answers.{answer_octets}
use Rattle.isolation.specs.Statement.{Handed}
use Rattle.edge_runs.specs.Run.{Asked, call_in, Told, count_in, signal_in}

-- ---- what is told, from an outcome and what is handed out: `size` octets of signal buffer are lent, and `answer` are the answer's octets before

abbrev pub telling : (size : ℕ) (answer : List ℕ) → Call → Outcome → Handed → Told
telling size answer c o h =
    record {
      number = answer_number o.answer;
      answer = sets answer 0 (answer_octets (served_of o));
      table = spell o.table;
      signal = take (count_in (sets answer 0 (answer_octets (served_of o)))) (take size (signal_in c h.out));
    }

unfoldable pub tellings : (memory : List ℕ) → List Asked → List Outcome → List Handed → List Told
tellings memory [] os hs = []
tellings memory (a ∷ es) [] hs = []
tellings memory (a ∷ es) (o ∷ os) [] = []
tellings memory (a ∷ es) (o ∷ os) (h ∷ hs) = telling (length (lent (out_window (call_in a)) memory)) a.answer (call_in a) o h ∷ tellings memory es os hs
