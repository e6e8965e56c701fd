-- Decimal numbers, written (docs/CHANRUN.md): no zero in front.
use Rattle.std.specs.Prelude.{List, [], ◌∷◌, ◌++◌, ℕ, zero, suc, ◌+◌, ◌/◌, ◌%◌, ltb}
use Prim.Native.Char.{code}
use Rattle.lists.specs.Choose.{choose}

-- the last digit behind the others, of at most k
unfoldable pub digits : ℕ → ℕ → List ℕ
digits zero n = []
digits (suc k) n = choose (ltb n 10) ((code "0" + n) ∷ []) (digits k (n / 10) ++ (code "0" + n % 10) ∷ [])

-- a number of 64 bits has at most twenty
abbrev pub number_text : ℕ → List ℕ
number_text n = digits 20 n
