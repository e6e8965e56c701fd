-- The lowest index at which a test holds, and the length where it holds nowhere; and the loop that searches for it.
use Prim.Native.Nat.{ℕ, zero, suc, ◌+◌, ◌≤◌, ◌<◌, min}
use Rattle.std.specs.Prelude.{◌≡◌, Bool, get_or, take, drop}
use Rattle.std.proofs.Math.Path.{refl, sym}
use Rattle.std.proofs.Common.{ap, ◌∙◌, zero-lt-suc, le_of_suc-le-suc, not-suc-le-zero, zero-add, add-zero, drop_of_length-le, drop-cons, get_or-take}
use Rattle.std.proofs.Math.Bool.{true, false}
use mathlib.Core.List.{List, [], ◌∷◌}
use native.Mathlib.Omega.{arith}
use Rattle.std.proofs.Math.Numerals.{add-one}
use Rattle.std.proofs.Math.ListN.{length, length-take}
use Rattle.lists.specs.Choose.{choose}

module _ {A : Type 0} where
  unfoldable pub first : (A → Bool) → List A → ℕ
  first p [] = 0
  first p (x ∷ xs) = choose (p x) 0 (suc (first p xs))

  pub first-is : (p : A → Bool) (d : A) (xs : List A) (i : ℕ) → i < length xs → ((k : ℕ) → k < i → p (get_or xs k d) ≡ false) → p (get_or xs i d) ≡ true → first p xs ≡ i
  unfolding first choose
  first-is p d [] i h off on = omega arith
  first-is p d (x ∷ xs) zero h off on = rw on
  first-is p d (x ∷ xs) (suc i) h off on = rw (off zero (zero-lt-suc i)) (ap suc (first-is p d xs i (le_of_suc-le-suc h) (λ k l. off (suc k) (omega arith)) on))

  pub first-none : (p : A → Bool) (d : A) (xs : List A) → ((k : ℕ) → k < length xs → p (get_or xs k d) ≡ false) → first p xs ≡ length xs
  unfolding first choose
  first-none p d [] off = refl
  first-none p d (x ∷ xs) off = rw (off zero (zero-lt-suc (length xs))) (ap suc (first-none p d xs (λ k l. off (suc k) (omega arith))))

  -- what stands there passes the test
  first_on : (p : A → Bool) (d x : A) (xs : List A) (b : Bool) → p x ≡ b → choose b 0 (suc (first p xs)) < suc (length xs)
      → (first p xs < length xs → p (get_or xs (first p xs) d) ≡ true) → p (get_or (x ∷ xs) (choose b 0 (suc (first p xs))) d) ≡ true
  unfolding choose
  first_on p d x xs true e h more = e
  first_on p d x xs false e h more = more (le_of_suc-le-suc h)

  pub first_passes : (p : A → Bool) (d : A) (xs : List A) → first p xs < length xs → p (get_or xs (first p xs) d) ≡ true
  unfolding first
  first_passes p d [] h = absurd (not-suc-le-zero h)
  first_passes p d (x ∷ xs) h = first_on p d x xs (p x) refl h (first_passes p d xs)

-- an index below n, in the first n
pub within-take : {A : Type 0} (n : ℕ) (l : List A) (i : ℕ) → i < n → i < length l → i < length (take n l)
within-take n l i h h' = rw length-take (omega arith)

-- A search loop over the first n elements: nothing was found below i. A loop's invariant, its start, its step and its two ends.
pub record Passed {A : Type 0} (p : A → Bool) (n : ℕ) (l : List A) (i : ℕ) : Type 0 where
  pub is : first p (take n l) ≡ i + first p (drop i (take n l))

pub passed_none : {A : Type 0} {p : A → Bool} {n : ℕ} {l : List A} → Passed p n l 0
passed_none {A} {p} {n} {l} = record { is = sym (zero-add (first p (take n l))) }

module _ {A : Type 0} {p : A → Bool} {n : ℕ} {l : List A} {i : ℕ} (e : Passed p n l i) where
  pub passed-more : (d : A) → p (get_or l i d) ≡ false → i < n → i < length l → Passed p n l (i + 1)
  unfolding first choose
  passed-more d f h h' =
      let k = within-take n l i h h' in
      let g : p (get_or (take n l) i d) ≡ false = rw (get_or-take n l i d h) f in
      record { is = e.is ∙ rw (drop-cons (take n l) i d k, g, add-one i) (omega arith) }

  pub passed_hit : (d : A) → p (get_or l i d) ≡ true → i < n → i < length l → i ≡ first p (take n l)
  unfolding first choose
  passed_hit d f h h' =
      let k = within-take n l i h h' in
      let g : p (get_or (take n l) i d) ≡ true = rw (get_or-take n l i d h) f in
      sym (e.is ∙ rw (drop-cons (take n l) i d k, g) (add-zero i))

  pub passed_all : min n (length l) ≤ i → i ≡ first p (take n l)
  unfolding first choose
  passed_all h =
      let k : length (take n l) ≤ i = rw length-take h in
      sym (e.is ∙ rw (drop_of_length-le (take n l) k) (add-zero i))
