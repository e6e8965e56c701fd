-- Eight stores, each of the next element of a list, are a run of eight.
use Rattle.std.specs.Prelude.{◌≡◌, refl, List, ◌∷◌, ℕ, zero, suc, ◌+◌, ◌≤◌, ◌<◌, length, take, drop, get_or, set}
use Rattle.std.proofs.Common.{sym, ap, ◌∙◌, add-suc, add-zero, arith, length-set, drop-cons}
use Rattle.std.proofs.lemmas.List.Edits.{sets}

module _ {A : Type 0} where
  taken_cons : (d : A) (xs : List A) (from n : ℕ) → from < length xs → take (suc n) (drop from xs) ≡ get_or xs from d ∷ take n (drop (suc from) xs)
  taken_cons d xs from n h = ap (take (suc n)) (drop-cons xs from d h)

  -- one store of a run
  stored : (d : A) (l xs : List A) (at from k n : ℕ) → from + k < length xs
      → sets l (at + k) (take (suc n) (drop (from + k) xs)) ≡ sets (set l (at + k) (get_or xs (from + k) d)) (at + suc k) (take n (drop (from + suc k) xs))
  stored d l xs at from k n h = rw (add-suc at k, add-suc from k) (ap (sets l (at + k)) (taken_cons d xs (from + k) n h))

  module _ (d : A) (l xs : List A) (at from : ℕ) where
    -- the first k stores made, as the code writes them
    abbrev pub run : ℕ → List A
    run zero = l
    run (suc zero) = set l at (get_or xs from d)
    run (suc (suc k)) = set (run (suc k)) (at + suc k) (get_or xs (from + suc k) d)

    run_length : (k : ℕ) → length (run k) ≡ length l
    run_length zero = refl
    run_length (suc zero) = length-set l at (get_or xs from d)
    run_length (suc (suc k)) = length-set (run (suc k)) (at + suc k) (get_or xs (from + suc k) d) ∙ run_length (suc k)

    -- the next store is within the list
    pub run_below : (k : ℕ) → at + 8 ≤ length l → k < 8 → at + k < length (run k)
    run_below k h le = rw (run_length k) (omega arith)

    -- eight stores are a run of eight
    pub eight_stores : from + 8 ≤ length xs → run 8 ≡ sets l at (take 8 (drop from xs))
    eight_stores h =
        let first : sets l at (take 8 (drop from xs)) ≡ sets (run 1) (at + 1) (take 7 (drop (from + 1) xs)) = rw (add-zero at, add-zero from) at (stored d l xs at from 0 7 (omega arith)) in
        sym (first
        ∙ stored d (run 1) xs at from 1 6 (omega arith)
        ∙ stored d (run 2) xs at from 2 5 (omega arith)
        ∙ stored d (run 3) xs at from 3 4 (omega arith)
        ∙ stored d (run 4) xs at from 4 3 (omega arith)
        ∙ stored d (run 5) xs at from 5 2 (omega arith)
        ∙ stored d (run 6) xs at from 6 1 (omega arith)
        ∙ stored d (run 7) xs at from 7 0 (omega arith))
