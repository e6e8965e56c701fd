-- A set of bits, one for each element: what each bit says, the count of its ones, and the lowest of them; and the loop that makes it.
-- The laws rest on the digits of a number, taken lowest first (lib.Count).
use Prim.Native.Nat.{ℕ, zero, suc, ◌+◌, ◌*◌, ◌/◌, ◌%◌, ◌^◌, ◌≤◌, ◌<◌, min}
use Rattle.std.specs.Prelude.{◌≡◌, Bool, get_or, take, drop}
use Rattle.std.proofs.Math.Path.{refl}
use Rattle.std.proofs.Common.{sym, ap, ◌∙◌, le_of_suc-le-suc, lt_of_lt_of_le, div-one, add-one, length-take, length-drop, drop_of_length-le, drop-cons, get_or-take, pow_mono}
use Rattle.std.proofs.Math.Bool.{true, false}
use mathlib.Core.List.{List, [], ◌∷◌}
use native.Mathlib.Omega.{arith}
use Rattle.std.proofs.Math.Nat.{pow-suc, pow-succ', div-eq_of_lt, div-div-eq-div-mul}
use Rattle.std.proofs.Math.ListN.{length}
use Rattle.std.specs.Int.Count.{ones, ones_step, count_trailing_zeros, under}
use Rattle.lists.specs.Choose.{choose}
use Rattle.lists.specs.First.{first}

abbrev pub bit : Bool → ℕ
bit true = 1
bit false = 0

-- bit k is the test of element k
unfoldable pub bitset : {A : Type 0} → (A → Bool) → List A → ℕ
bitset p [] = 0
bitset p (x ∷ xs) = bit (p x) + 2 * bitset p xs

-- how many elements pass
unfoldable pub count : {A : Type 0} → (A → Bool) → List A → ℕ
count p [] = 0
count p (x ∷ xs) = bit (p x) + count p xs

pub bit_le : (b : Bool) → bit b ≤ 1
bit_le true = omega arith
bit_le false = omega arith

module _ {A : Type 0} (p : A → Bool) where
  pub bitset_lt : (xs : List A) → bitset p xs < 2 ^ length xs
  unfolding bitset
  bitset_lt [] = omega arith
  bitset_lt (x ∷ xs) = omega (arith, pow-suc 2 (length xs), bitset_lt xs, bit_le (p x))

  -- the set of w elements fits w bits
  pub bitset-width : (w : ℕ) (xs : List A) → length xs ≤ w → bitset p xs < 2 ^ w
  bitset-width w xs h = lt_of_lt_of_le (bitset_lt xs) (pow_mono h)

  -- bit k of the set says whether element k passes; past the last element no bit is set
  pub bit-says : (d : A) (xs : List A) (k : ℕ) → k < length xs → bitset p xs / 2 ^ k % 2 ≡ bit (p (get_or xs k d))
  unfolding bitset
  bit-says d [] k h = absurd (omega arith)
  bit-says d (x ∷ xs) zero h = rw (div-one (bit (p x) + 2 * bitset p xs)) (omega (arith, bit_le (p x)))
  bit-says d (x ∷ xs) (suc k) h =
      let n = bitset p xs in
      let e : (bit (p x) + 2 * n) / 2 ≡ n = omega (arith, bit_le (p x)) in
      rw (pow-succ' 2 k, ← div-div-eq-div-mul (bit (p x) + 2 * n) 2 (2 ^ k), e) (bit-says d xs k (le_of_suc-le-suc h))

  pub bit_past : (xs : List A) (k : ℕ) → length xs ≤ k → bitset p xs / 2 ^ k % 2 ≡ 0
  bit_past xs k h = rw (div-eq_of_lt (bitset-width k xs h))

  -- the count of ones is the number of elements that pass
  pub ones-count : (xs : List A) → ones (bitset p xs) ≡ count p xs
  unfolding bitset count ones
  ones-count [] = refl
  ones-count (x ∷ xs) =
      let n = bitset p xs in
      let b = bit_le (p x) in
      let o : (bit (p x) + 2 * n) % 2 ≡ bit (p x) = omega arith in
      let h : (bit (p x) + 2 * n) / 2 ≡ n = omega arith in
      ones_step (bit (p x) + 2 * n) ∙ rw (o, h, ones-count xs) refl

  -- the zeros below the lowest one are the index of the first element that passes
  pub trailing_first : (k : ℕ) (xs : List A) → length xs ≤ k → 0 < bitset p xs → count_trailing_zeros k (bitset p xs) ≡ first p xs
  unfolding bitset count_trailing_zeros first choose
  trailing_first k [] h l = absurd (omega arith)
  trailing_first zero (x ∷ xs) h l = absurd (omega arith)
  trailing_first (suc k) (x ∷ xs) h l = go (p x) refl (trailing_first k xs (le_of_suc-le-suc h))
    where
      go : (b : Bool) → p x ≡ b → (0 < bitset p xs → count_trailing_zeros k (bitset p xs) ≡ first p xs)
          → under ((bit (p x) + 2 * bitset p xs) % 2) (count_trailing_zeros k ((bit (p x) + 2 * bitset p xs) / 2)) ≡ choose (p x) 0 (suc (first p xs))
      go true e ih =
          let n = bitset p xs in
          let o : (1 + 2 * n) % 2 ≡ 1 = omega arith in
          rw (e, o) refl
      go false e ih =
          let n = bitset p xs in
          let o : (0 + 2 * n) % 2 ≡ 0 = omega arith in
          let d : (0 + 2 * n) / 2 ≡ n = omega arith in
          let q : 0 < n = (let r = (rw e at l) in omega arith) in
          rw (e, o, d) (ap suc (ih q))

  -- no bit is set where none passes
  pub empty_first : (xs : List A) → bitset p xs ≡ 0 → first p xs ≡ length xs
  unfolding bitset first choose
  empty_first [] h = refl
  empty_first (x ∷ xs) h = go (p x) refl (empty_first xs)
    where
      go : (b : Bool) → p x ≡ b → (bitset p xs ≡ 0 → first p xs ≡ length xs) → choose (p x) 0 (suc (first p xs)) ≡ suc (length xs)
      go true e ih = absurd (let r = (rw e at h) in omega arith)
      go false e ih = rw e (ap suc (ih (let r = (rw e at h) in omega arith)))

-- The loop that makes the set of the first n elements from the last to the first: a is the set of those from i on.
pub record Set {A : Type 0} (p : A → Bool) (n : ℕ) (l : List A) (i a : ℕ) : Type 0 where
  pub is : a ≡ bitset p (drop i (take n l))

pub set-none : {A : Type 0} {p : A → Bool} {n : ℕ} {l : List A} {i : ℕ} → min n (length l) ≤ i → Set p n l i 0
unfolding bitset
set-none {A} {p} {n} {l} {i} h =
    let k : length (take n l) ≤ i = rw length-take h in
    record { is = sym (rw (drop_of_length-le (take n l) k) refl) }

pub set_more : {A : Type 0} {p : A → Bool} {n : ℕ} {l : List A} {i j a : ℕ} → Set p n l j a → (d : A) → j ≡ i + 1 → i < n → i < length l → Set p n l i (bit (p (get_or l i d)) + 2 * a)
unfolding bitset
set_more {A} {p} {n} {l} {i} {j} {a} e d q h h' =
    let k : i < length (take n l) = rw length-take (omega arith) in
    let s : a ≡ bitset p (drop (suc i) (take n l)) = rw (← add-one i, ← q) e.is in
    record { is = rw (drop-cons (take n l) i d k, get_or-take n l i d h, s) refl }

pub set-width : {A : Type 0} {p : A → Bool} {n : ℕ} {l : List A} {i a : ℕ} → Set p n l i a → (w : ℕ) → length l ≤ w → a < 2 ^ w
set-width {A} {p} {n} {l} {i} {a} e w h =
    let k : length (drop i (take n l)) ≤ w = rw (length-drop, length-take) (omega arith) in
    rw e.is (bitset-width p w (drop i (take n l)) k)

pub set_all : {A : Type 0} {p : A → Bool} {n : ℕ} {l : List A} {a : ℕ} → Set p n l 0 a → a ≡ bitset p (take n l)
set_all e = e.is
