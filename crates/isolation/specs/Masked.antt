-- Only a take from, a send on, or a portion on a slot of the link hands its marks out: what any other call writes to memory is the same, whether
-- the marks are masked or not. From what each call hands out (Handed.antt of crate definition) and where marks stand (Contained.antt).
use Rattle.std.specs.Prelude.{Bool, ℕ, ◌-◌}
use mathlib.Core.List.{List}
use Rattle.std.proofs.lemmas.List.Edits.{sets}
use Rattle.definition.specs.Calls.{Window}
use Rattle.definition.specs.Run.{lent}

-- what is written to memory, by the two lists that are written, the first from octet `at` of its window on
abbrev pub written-two : (at : ℕ) (v w : Window) (memory a b : List Bool) → List Bool
written-two at v w memory a b =
    let m = sets memory w.from (sets (lent w memory) 0 b) in
    sets m v.from (sets (lent v m) at a)
