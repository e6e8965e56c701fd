-- A length put among the four of a queue, by the choice of each.
use Rattle.std.specs.Prelude.{◌≡◌, refl, List, [], ◌∷◌, ℕ, zero, suc, ◌<◌, eqb, length, get_or, set}
use Rattle.std.proofs.Common.{arith}
use Rattle.lists.specs.Choose.{choose}

-- one of four put at place i
pub put_four : (xs : List ℕ) (i v : ℕ) → length xs ≡ 4 → i < 4
    → choose (eqb i 0) v (get_or xs 0 0) ∷ choose (eqb i 1) v (get_or xs 1 0) ∷ choose (eqb i 2) v (get_or xs 2 0) ∷ choose (eqb i 3) v (get_or xs 3 0) ∷ [] ≡ set xs i v
unfolding choose
put_four (a ∷ b ∷ c ∷ d ∷ []) zero v e h = refl
put_four (a ∷ b ∷ c ∷ d ∷ []) (suc zero) v e h = refl
put_four (a ∷ b ∷ c ∷ d ∷ []) (suc (suc zero)) v e h = refl
put_four (a ∷ b ∷ c ∷ d ∷ []) (suc (suc (suc zero))) v e h = refl
put_four (a ∷ b ∷ c ∷ d ∷ []) (suc (suc (suc (suc i)))) v e h = absurd (omega arith)
put_four [] i v e h = absurd (omega arith)
put_four (a ∷ []) i v e h = absurd (omega arith)
put_four (a ∷ b ∷ []) i v e h = absurd (omega arith)
put_four (a ∷ b ∷ c ∷ []) i v e h = absurd (omega arith)
put_four (a ∷ b ∷ c ∷ d ∷ f ∷ xs) i v e h = absurd (omega arith)
