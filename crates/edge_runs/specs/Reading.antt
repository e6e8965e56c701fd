-- What the statement gives for the worked run (Example.antt), read off octet by octet: from the statement itself, whatever its proof. What the first run's
-- entries leave is computed; of the second run only the statement speaks. So a statement that says less of these runs is refused here.
use Rattle.std.specs.Prelude.{List, [], ◌∷◌, ℕ, take}
use Rattle.lists.specs.Choose.{choose}
use Rattle.definition.specs.Calls as Calls
use Rattle.edge.specs.Edge.{Edge}
use Rattle.edge_sized.specs.Said.{is_send}
use Rattle.edge_runs.specs.Run.{EdgeState, Asked, call_in, edge_of, entered, count_in}

-- ---- what the entries of a run leave, one after the other, without the words of `Told`

unfoldable pub each : {A : Type 0} → (Asked → Edge → A) → EdgeState → List Asked → List A
each f s [] = []
each f s (a ∷ es) = f a (edge_of s a) ∷ each f (entered s a) es

abbrev pub number : Asked → Edge → ℕ
number a x = x.number

abbrev pub answer : Asked → Edge → List ℕ
answer a x = x.answer

abbrev pub table : Asked → Edge → List ℕ
table a x = x.table

-- what was written to the signal buffer, of every entry but one that writes frames
abbrev pub signal : Asked → Edge → List ℕ
signal a x = choose (is_send (call_in a)) [] (take (count_in x.answer) x.out)
