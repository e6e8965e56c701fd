-- The entries that a run makes, for any kind of call (Run.antt of `edge_run`): by the run's own tests. Where each call of it is an entry, the run leaves what they leave made one by one, and its answers
-- are theirs, one behind the other.
use Rattle.std.specs.Prelude.{Err, Ok, Result}
use mathlib.Core.List.{List, [], ◌∷◌, ◌++◌}
use Prim.Native.Nat.{ℕ, ◌+◌}
use Rattle.edge_runs.specs.Run.{Asked, Told}
use Rattle.codes.specs.declared.Refusal.{Refusal}

-- the answers of entries, one behind the other
unfoldable pub answers_in : List Told → List ℕ
answers_in [] = []
answers_in (t ∷ ts) = t.answer ++ answers_in ts

-- none is made where the first refusals stop the run
abbrev pub made_by : Result (Unit {0}) Refusal → List Asked → List Asked
made_by (Err r) es = []
made_by (Ok tt) es = es
