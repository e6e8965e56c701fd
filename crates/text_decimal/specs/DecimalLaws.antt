-- What is written is read again; and the steps of reading.
use Rattle.std.specs.Prelude.{◌≡◌, refl, Bool, true, false, ◌&&◌, List, [], ◌∷◌, ◌++◌, ℕ, zero, suc, ◌+◌, ◌-◌, ◌*◌, ◌/◌, ◌%◌, ◌^◌, ◌≤◌, ◌<◌, leb, ltb, length, drop, get_or, Some}
use Rattle.std.proofs.Math.Path.{sym}
use Rattle.std.proofs.Common.{◌∙◌, add-one, arith, length-append, drop_of_length-le, drop-cons, lt-ltb, le-ltb, le-leb, ltb-true, leb-true}
use Rattle.std.proofs.lemmas.Bool.{false≢true}
use Rattle.std.proofs.Math.Nat.{pow-suc, pow-le-pow_right}
use Rattle.std.proofs.Math.Seq.{take-length}
use Rattle.lists.specs.Choose.{choose}
use Rattle.lists.specs.Every.{every, Kept, kept-none, kept_more, kept-fails, kept_all}
use Rattle.text_decimal.specs.NumberText.{digits, number_text}
use Rattle.text_decimal.specs.NumberTextLaws.{tenth, digits_few}
use Rattle.text_decimal.specs.Decimal.{is_digit, spelt, number_read}

-- ---- the digits of a number below 10 ^ k, of which there are at most k, spell it

spelt-last : (a : ℕ) (xs : List ℕ) (c : ℕ) → spelt a (xs ++ c ∷ []) ≡ 10 * spelt a xs + (c - 48)
unfolding spelt
spelt-last a [] c = refl
spelt-last a (x ∷ xs) c = spelt-last (10 * a + (x - 48)) xs c

digits-spelt : (k n : ℕ) → n < 10 ^ suc k → spelt 0 (digits (suc k) n) ≡ n
unfolding digits choose spelt
digits-spelt zero n h = rw (lt-ltb n 10 h) (omega arith)
digits-spelt (suc k) n h = go (ltb n 10) (digits-spelt k (n / 10) (tenth (suc k) n h))
  where
    go : (b : Bool) → spelt 0 (digits (suc k) (n / 10)) ≡ n / 10 → spelt 0 (choose b ((48 + n) ∷ []) (digits (suc k) (n / 10) ++ (48 + n % 10) ∷ [])) ≡ n
    go true e = omega arith
    go false e = spelt-last 0 (digits (suc k) (n / 10)) (48 + n % 10) ∙ rw e (omega arith)

digit_low : (n : ℕ) → n < 10 → is_digit (48 + n) ≡ true
digit_low n h = rw (le-leb 48 (48 + n) (omega arith), le-leb (48 + n) 57 (omega arith))

every-last : (xs : List ℕ) (c : ℕ) → every is_digit xs ≡ true → is_digit c ≡ true → every is_digit (xs ++ c ∷ []) ≡ true
unfolding every
every-last [] c h e = rw e
every-last (x ∷ xs) c h e = go (is_digit x) h (every-last xs c)
  where
    go : (b : Bool) → b && every is_digit xs ≡ true → (every is_digit xs ≡ true → is_digit c ≡ true → every is_digit (xs ++ c ∷ []) ≡ true) → b && every is_digit (xs ++ c ∷ []) ≡ true
    go true h ih = ih h e
    go false h ih = h

-- all are digits, and there is one, and not more than k
pub record Spelling (k : ℕ) (l : List ℕ) : Type 0 where
  pub some : 1 ≤ length l
  pub few : length l ≤ k
  pub all : every is_digit l ≡ true

digits-spelling : (k n : ℕ) → n < 10 ^ suc k → Spelling (suc k) (digits (suc k) n)
unfolding digits choose every
digits-spelling zero n h = rw (lt-ltb n 10 h) (record { some = omega arith; few = omega arith; all = rw (digit_low n h) })
digits-spelling (suc k) n h = go (ltb n 10) refl (digits-spelling k (n / 10) (tenth (suc k) n h))
  where
    go : (b : Bool) → ltb n 10 ≡ b → Spelling (suc k) (digits (suc k) (n / 10)) → Spelling (suc (suc k)) (choose b ((48 + n) ∷ []) (digits (suc k) (n / 10) ++ (48 + n % 10) ∷ []))
    go true e s = record { some = omega arith; few = omega arith; all = rw (digit_low n (ltb-true n 10 e)) }
    go false e s =
        let l = digits (suc k) (n / 10) in
        let d = (48 + n % 10) ∷ [] in
        record {
          some = omega (arith, length-append l d);
          few = omega (arith, length-append l d, s.few);
          all = every-last l (48 + n % 10) s.all (digit_low (n % 10) (omega arith));
        }

-- a number that is written is read again
pub number_back : (n : ℕ) → n ≤ 65535 → number_read (number_text n) ≡ Some n
unfolding number_read choose
number_back n h =
    let s = digits-spelling 4 n (omega arith) in
    let e = digits-spelt 4 n (omega arith) in
    let five : number_text n ≡ digits 5 n = sym (digits_few 15 4 n (omega arith)) in
    rw (five, le-ltb (length (digits 5 n)) 1 s.some, le-ltb 5 (length (digits 5 n)) s.few, s.all, e, le-ltb 65535 n h)

-- ---- reading: i digits are passed and spell n, from which the rest goes on

pub record Reading (w : List ℕ) (i n : ℕ) : Type 0 where
  pub small : n < 10 ^ i
  pub kept : Kept is_digit (length w) w i
  pub goes : spelt n (drop i w) ≡ spelt 0 w

pub reading_none : {w : List ℕ} → Reading w 0 0
reading_none = record { small = omega arith; kept = kept-none; goes = refl }

pub record Digit (c : ℕ) : Type 0 where
  pub low : 48 ≤ c
  pub high : c ≤ 57

pub digit_is : (c : ℕ) → is_digit c ≡ true → Digit c
digit_is c e = go (leb 48 c) (leb c 57) refl refl e
  where
    go : (a b : Bool) → leb 48 c ≡ a → leb c 57 ≡ b → a && b ≡ true → Digit c
    go true true p q e = record { low = leb-true 48 c p; high = leb-true c 57 q }
    go true false p q e = absurd (false≢true e)
    go false b p q e = absurd (false≢true e)

module _ {w : List ℕ} {i n : ℕ} (r : Reading w i n) where
  pub reading_small : i < 5 → n < 10000
  reading_small h = omega (arith, r.small, pow-le-pow_right {n = 10} (omega arith) {i = i} {j = 4} (omega arith))

  pub reading_more : is_digit (get_or w i 0) ≡ true → i < length w → Reading w (i + 1) (10 * n + (get_or w i 0 - 48))
  unfolding spelt
  reading_more e h = record {
    small = rw (add-one i) (omega (arith, r.small, pow-suc 10 i, digit_is (get_or w i 0) e));
    kept = kept_more r.kept 0 e h h;
    goes = rw (add-one i) (rw (drop-cons w i 0 h) at r.goes);
  }

  pub reading_fails : is_digit (get_or w i 0) ≡ false → i < length w → every is_digit w ≡ false
  reading_fails e h = sym (rw (take-length w) at (kept-fails r.kept 0 e h h))

  pub reading_all : length w ≤ i → every is_digit w ≡ true
  reading_all h = sym (rw (take-length w) at (kept_all r.kept (omega arith)))

  pub reading_spelt : length w ≤ i → spelt 0 w ≡ n
  unfolding spelt
  reading_spelt h = sym r.goes ∙ rw (drop_of_length-le w h)
