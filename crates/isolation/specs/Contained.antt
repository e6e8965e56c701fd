-- Marks stand in the link's own slots alone, and only while that life lasts: what every safe call (Safe.antt of crate definition) keeps.
use Rattle.std.specs.Prelude.{◌≡◌}
use Rattle.std.proofs.Math.Bool.{Bool, false}
use mathlib.Core.List.{List}
use Rattle.isolation.specs.Same.{Rel}

-- ---- no octet is marked

abbrev pub Off : Bool → Bool → Bool → Type 0
Off a b c = c ≡ false

abbrev pub Clean : List Bool → Type 0
Clean ms = Rel Off ms ms ms
