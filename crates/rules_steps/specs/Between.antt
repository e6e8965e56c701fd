-- What a portion finds. Between two portions of a job any calls may come, on this slot and on others: as long as the slot stays Connected and none of them is a start, a
-- portion or a cancel on it, its job and its peer's CID and MPS are as they were. So of what makes the same frames (`HandedOn` of crate rules_portions) the caller sees
-- to the buffer alone, as document 02 (i) has it.
use Rattle.std.specs.Prelude.{List, [], ◌∷◌, ℕ}
use Rattle.definition.specs.Calls.{Window, Call, portions, plain, starts, cancels}

-- A call of slot i's own job.
pub data JobCall (i : ℕ) : Call → Type 0 where
  starting : {l : ℕ} {v w : Window} → JobCall i (plain (starts i l) v w)
  giving : {octets : List ℕ} {w : Window} → JobCall i (portions i octets w)
  cancelling : {v w : Window} → JobCall i (plain (cancels i) v w)

abbrev pub NoJobCall : ℕ → List Call → Type 0
NoJobCall i [] = Unit {0}
NoJobCall i (c ∷ cs) = (¬ JobCall i c) × NoJobCall i cs
