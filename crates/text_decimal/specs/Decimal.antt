-- Decimal numbers (docs/CHANRUN.md): "1 to 5 digits, at most 65,535". Zeros in front are digits as any other (`007` is 7).
use Rattle.std.specs.Prelude.{Bool, ◌&&◌, List, [], ◌∷◌, ℕ, ◌+◌, ◌-◌, ◌*◌, leb, ltb, length, Option, Some, None}
use Prim.Native.Char.{code}
use Rattle.lists.specs.Choose.{choose}
use Rattle.lists.specs.Every.{every}

-- `0` to `9`
abbrev pub is_digit : ℕ → Bool
is_digit c = leb (code "0") c && leb c (code "9")

-- what digits spell behind the number n, the highest first
unfoldable pub spelt : ℕ → List ℕ → ℕ
spelt n [] = n
spelt n (c ∷ cs) = spelt (10 * n + (c - code "0")) cs

-- a number of 16 bits, or none
unfoldable pub number_read : List ℕ → Option ℕ
number_read w =
    choose (ltb (length w) 1) None
    (choose (ltb 5 (length w)) None
    (choose (every is_digit w)
    (choose (ltb 65535 (spelt 0 w)) None (Some (spelt 0 w)))
    None))
