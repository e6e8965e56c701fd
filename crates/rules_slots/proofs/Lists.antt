-- Laws of lists that the proofs rest on: what a search passed over, two lists that are searched alike, and a count from the front.
use Rattle.std.specs.Prelude.{◌≡◌, Bool, get_or, take}
use Rattle.std.proofs.Math.Path.{refl, ap₂}
use Rattle.std.proofs.Common.{ap, ◌∙◌, not-suc-le-zero, take-suc}
use Rattle.std.proofs.Math.Bool.{true, false}
use mathlib.Core.List.{List, [], ◌∷◌, ◌++◌}
use Prim.Native.Nat.{ℕ, zero, suc, ◌+◌, ◌≤◌, ◌<◌}
use Rattle.std.proofs.Math.Nat.{le_of_suc-le-suc}
use native.Mathlib.Omega.{arith}
use Rattle.std.proofs.Math.ListN.{length}
use Rattle.lists.specs.Choose.{choose}
use Rattle.lists.specs.First.{first}
use Rattle.lists.specs.Bits.{bit, count}

module _ {A : Type 0} (p : A → Bool) where
  -- a search ends within the list
  pub first-within : (xs : List A) → first p xs ≤ length xs
  unfolding first choose
  first-within [] = omega arith
  first-within (x ∷ xs) = go (p x) (first-within xs)
    where
      go : (b : Bool) → first p xs ≤ length xs → choose b 0 (suc (first p xs)) ≤ suc (length xs)
      go true h = omega arith
      go false h = omega arith

  -- what a search passed over fails the test
  pub first_below : (d : A) (xs : List A) (k : ℕ) → k < first p xs → p (get_or xs k d) ≡ false
  unfolding first choose
  first_below d [] k h = absurd (not-suc-le-zero h)
  first_below d (x ∷ xs) zero h = go (p x) h
    where
      go : (b : Bool) → 0 < choose b 0 (suc (first p xs)) → b ≡ false
      go true l = absurd (not-suc-le-zero l)
      go false l = refl
  first_below d (x ∷ xs) (suc k) h = first_below d xs k (go (p x) h)
    where
      go : (b : Bool) → suc k < choose b 0 (suc (first p xs)) → k < first p xs
      go true l = absurd (not-suc-le-zero l)
      go false l = le_of_suc-le-suc l

  -- two lists whose elements pass alike, one by one, are searched alike
  pub first-same : (d : A) (n : ℕ) (xs ys : List A) → n ≤ length xs → n ≤ length ys → ((i : ℕ) → i < n → p (get_or ys i d) ≡ p (get_or xs i d))
      → first p (take n ys) ≡ first p (take n xs)
  unfolding first
  first-same d zero xs ys h k e = refl
  first-same d (suc n) [] ys h k e = absurd (not-suc-le-zero h)
  first-same d (suc n) (x ∷ xs) [] h k e = absurd (not-suc-le-zero k)
  first-same d (suc n) (x ∷ xs) (y ∷ ys) h k e =
      ap₂ (λ (b : Bool) (i : ℕ). choose b 0 (suc i)) (e 0 (omega arith)) (first-same d n xs ys (le_of_suc-le-suc h) (le_of_suc-le-suc k) (λ i l. e (suc i) (omega arith)))

  count-append : (xs : List A) (y : A) → count p (xs ++ y ∷ []) ≡ count p xs + bit (p y)
  unfolding count
  count-append [] y = omega arith
  count-append (x ∷ xs) y = omega (arith, count-append xs y)

  -- the count of n + 1 elements is that of n, and the last one's
  pub count-more : (d : A) (l : List A) (n : ℕ) → n < length l → count p (take (suc n) l) ≡ count p (take n l) + bit (p (get_or l n d))
  count-more d l n h = ap (count p) (take-suc l n d h) ∙ count-append (take n l) (get_or l n d)
