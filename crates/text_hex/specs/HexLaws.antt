-- Laws of hex words: each octet of a word, what is written is read again, and octets have one spelling. Digits go by arithmetic, words by
-- two digits a step.
use Rattle.std.specs.Prelude.{◌≡◌, Bool, ◌&&◌, ◌||◌, leb, eqb, get_or, Some}
use Rattle.std.proofs.Math.Path.{refl}
use Rattle.std.proofs.Common.{sym, ◌∙◌, le_of_suc-le-suc, arith}
use Rattle.std.proofs.Math.Bool.{true, false}
use Rattle.std.proofs.lemmas.Bool.{false≢true}
use mathlib.Core.List.{List, [], ◌∷◌}
use Prim.Native.Nat.{ℕ, zero, suc, ◌+◌, ◌-◌, ◌*◌, ◌/◌, ◌%◌, ◌≤◌, ◌<◌}
use Rattle.std.proofs.Math.Dec.{ltb}
use Rattle.std.proofs.Math.ListN.{length}
use borrow.Author.Tests.{lt-ltb, le-ltb, le-leb, lt-leb, ne_eqb, leb-true, ltb-true, ltb-false, eqb-true, eqb-false}
use Rattle.lists.specs.Choose.{choose}
use Rattle.lists.specs.Every.{every}
use Rattle.text_hex_words.specs.HexWords.{is_hex, is_hex_word}
use Rattle.text_hex_write.specs.HexText.{digit_of, hex_digits, hex_text}
use Rattle.text_hex.specs.Hex.{nibble_of, octets_of, hex_read, hex_octets}

-- ---- one digit

-- a hex digit is a decimal digit or one of the six letters
pub record Hexit (c : ℕ) : Type 0 where
  pub low : c < 58 → 48 ≤ c
  pub letter : 58 ≤ c → 97 ≤ c
  pub high : c ≤ 102

pub hexit : (c : ℕ) → is_hex c ≡ true → Hexit c
hexit c e = go (leb 48 c) (leb c 57) (leb 97 c) (leb c 102) refl refl refl refl e
  where
    bad : {X : Type 0} → false ≡ true → X
    bad f = absurd (false≢true f)

    go : (p q r s : Bool) → leb 48 c ≡ p → leb c 57 ≡ q → leb 97 c ≡ r → leb c 102 ≡ s → p && q || r && s ≡ true → Hexit c
    go true true r s ep eq er es e = record { low = λ h. leb-true 48 c ep; letter = λ h. omega (arith, leb-true c 57 eq); high = omega (arith, leb-true c 57 eq) }
    go true false true true ep eq er es e = record { low = λ h. leb-true 48 c ep; letter = λ h. leb-true 97 c er; high = leb-true c 102 es }
    go true false true false ep eq er es e = bad e
    go true false false s ep eq er es e = bad e
    go false q true true ep eq er es e = record { low = λ h. omega (arith, leb-true 97 c er); letter = λ h. leb-true 97 c er; high = leb-true c 102 es }
    go false q true false ep eq er es e = bad e
    go false q false s ep eq er es e = bad e

pub nibble_small : (c : ℕ) → is_hex c ≡ true → nibble_of c < 16
unfolding nibble_of choose
nibble_small c e = go (ltb c 58) refl
  where
    go : (b : Bool) → ltb c 58 ≡ b → nibble_of c < 16
    go true t = let h = ltb-true c 58 t in let l = (hexit c e).low h in rw t (omega arith)
    go false t = let h = ltb-false c 58 t in let l = (hexit c e).letter h in rw t (omega (arith, (hexit c e).high))

pub digit_nibble : (c : ℕ) → is_hex c ≡ true → digit_of (nibble_of c) ≡ c
unfolding nibble_of digit_of choose
digit_nibble c e = go (ltb c 58) refl
  where
    go : (b : Bool) → ltb c 58 ≡ b → digit_of (nibble_of c) ≡ c
    go true t = let h = ltb-true c 58 t in let l = (hexit c e).low h in rw (t, lt-ltb (c - 48) 10 (omega arith)) (omega arith)
    go false t = let h = ltb-false c 58 t in let l = (hexit c e).letter h in rw (t, le-ltb (c - 87) 10 (omega arith)) (omega arith)

module _ (n : ℕ) (h : n < 16) where
  pub nibble_digit : nibble_of (digit_of n) ≡ n
  unfolding nibble_of digit_of choose
  nibble_digit = go (ltb n 10) refl
    where
      go : (b : Bool) → ltb n 10 ≡ b → nibble_of (digit_of n) ≡ n
      go true t = let l = ltb-true n 10 t in rw (t, lt-ltb (48 + n) 58 (omega arith)) (omega arith)
      go false t = let l = ltb-false n 10 t in rw (t, le-ltb (87 + n) 58 (omega arith)) (omega arith)

  pub digit_hex : is_hex (digit_of n) ≡ true
  unfolding digit_of choose
  digit_hex = go (ltb n 10) refl
    where
      go : (b : Bool) → ltb n 10 ≡ b → is_hex (digit_of n) ≡ true
      go true t = let l = ltb-true n 10 t in rw (t, le-leb 48 (48 + n) (omega arith), le-leb (48 + n) 57 (omega arith))
      go false t =
          let l = ltb-false n 10 t in
          rw (t, le-leb 48 (87 + n) (omega arith), lt-leb (87 + n) 57 (omega arith), le-leb 97 (87 + n) (omega arith), le-leb (87 + n) 102 (omega arith))

-- ---- a word, two digits a step

pub octets_length : (w : List ℕ) → length (octets_of w) ≡ length w / 2
unfolding octets_of
octets_length [] = refl
octets_length (h ∷ []) = refl
octets_length (h ∷ l ∷ w) = omega (arith, octets_length w)

pub octets_at : (w : List ℕ) (i : ℕ) → 2 * i + 1 < length w → get_or (octets_of w) i 0 ≡ 16 * nibble_of (get_or w (2 * i) 0) + nibble_of (get_or w (2 * i + 1) 0)
unfolding octets_of
octets_at [] i h = absurd (omega arith)
octets_at (a ∷ []) i h = absurd (omega arith)
octets_at (a ∷ b ∷ w) zero h = refl
octets_at (a ∷ b ∷ w) (suc i) h =
    let e : 2 * suc i ≡ suc (suc (2 * i)) = omega arith in
    let f : 2 * suc i + 1 ≡ suc (suc (2 * i + 1)) = omega arith in
    rw (f, e) (octets_at w i (omega arith))

pub every-at : {A : Type 0} (p : A → Bool) (d : A) (l : List A) (k : ℕ) → every p l ≡ true → k < length l → p (get_or l k d) ≡ true
unfolding every
every-at p d [] k e h = absurd (omega arith)
every-at p d (x ∷ xs) zero e h = go (p x) e
  where
    go : (b : Bool) → b && every p xs ≡ true → b ≡ true
    go true e = refl
    go false e = e
every-at p d (x ∷ xs) (suc k) e h = every-at p d xs k (go (p x) e) (le_of_suc-le-suc h)
  where
    go : (b : Bool) → b && every p xs ≡ true → every p xs ≡ true
    go true e = e
    go false e = absurd (false≢true e)

-- what a good word of more than one character is
pub record Pairs (w : List ℕ) : Type 0 where
  pub even : length w % 2 ≡ 0
  pub all : every is_hex w ≡ true

pub word_pairs : (w : List ℕ) → is_hex_word w ≡ true → 2 ≤ length w → Pairs w
unfolding is_hex_word choose
word_pairs w e h = go (ltb 131070 (length w)) (eqb (length w % 2) 1) refl (rw (le-ltb (length w) 1 (omega arith), ne_eqb (length w) 1 (λ q. omega arith)) at e)
  where
    go : (a b : Bool) → eqb (length w % 2) 1 ≡ b → choose a false (choose b false (every is_hex w)) ≡ true → Pairs w
    go true b t e = absurd (false≢true e)
    go false true t e = absurd (false≢true e)
    go false false t e = record { even = let n = eqb-false (length w % 2) 1 t in omega arith; all = e }

pub hex_at : (w : List ℕ) → is_hex_word w ≡ true → 2 ≤ length w → (k : ℕ) → k < length w → is_hex (get_or w k 0) ≡ true
hex_at w e h k l = every-at is_hex 0 w k (word_pairs w e h).all l

-- ---- written, and read again

digits-length : (xs : List ℕ) → length (hex_digits xs) ≡ 2 * length xs
unfolding hex_digits
digits-length [] = refl
digits-length (x ∷ xs) = omega (arith, digits-length xs)

octets_digits : (xs : List ℕ) → ((k : ℕ) → get_or xs k 0 < 256) → octets_of (hex_digits xs) ≡ xs
unfolding octets_of hex_digits
octets_digits [] small = refl
octets_digits (x ∷ xs) small =
    let h = small 0 in
    let e : 16 * (x / 16) + x % 16 ≡ x = omega arith in
    rw (nibble_digit (x / 16) (omega arith), nibble_digit (x % 16) (omega arith), octets_digits xs (λ k. small (suc k)), e)

digits_hex : (xs : List ℕ) → ((k : ℕ) → get_or xs k 0 < 256) → every is_hex (hex_digits xs) ≡ true
unfolding hex_digits every
digits_hex [] small = refl
digits_hex (x ∷ xs) small =
    let h = small 0 in
    rw (digit_hex (x / 16) (omega arith), digit_hex (x % 16) (omega arith), digits_hex xs (λ k. small (suc k)))

module _ (xs : List ℕ) (small : (k : ℕ) → get_or xs k 0 < 256) (few : length xs ≤ 65535) where
  pub text-ok : is_hex_word (hex_text xs) ≡ true
  unfolding is_hex_word hex_text choose
  text-ok = go xs refl
    where
      go : (ys : List ℕ) → xs ≡ ys → is_hex_word (hex_text ys) ≡ true
      go [] e = refl
      go (y ∷ ys) e =
          let w = hex_digits (y ∷ ys) in
          let l : length w ≡ 2 * suc (length ys) = digits-length (y ∷ ys) in
          let f : suc (length ys) ≤ 65535 = rw e at few in
          rw (le-ltb (length w) 1 (omega arith), le-ltb 131070 (length w) (omega arith), ne_eqb (length w) 1 (λ q. omega arith), ne_eqb (length w % 2) 1 (λ q. omega arith), ← e)
          (digits_hex xs small)

  octets_text : octets_of (hex_text xs) ≡ xs
  unfolding hex_text octets_of
  octets_text = go xs refl
    where
      go : (ys : List ℕ) → xs ≡ ys → octets_of (hex_text ys) ≡ ys
      go [] e = refl
      go (y ∷ ys) e = rw (← e) (octets_digits xs small)

  pub hex_back : hex_octets (hex_text xs) ≡ xs
  unfolding hex_octets choose
  hex_back = rw text-ok octets_text

  pub hex_back_count : hex_read (hex_text xs) ≡ Some (length xs)
  unfolding hex_read choose
  hex_back_count = rw (text-ok, octets_text)

-- ---- read, and written again: no other word spells the same octets

digits_octets : (w : List ℕ) → every is_hex w ≡ true → length w % 2 ≡ 0 → hex_digits (octets_of w) ≡ w
unfolding hex_digits octets_of every
digits_octets [] e h = refl
digits_octets (a ∷ []) e h = absurd (omega arith)
digits_octets (a ∷ b ∷ w) e h =
    let p = every-at is_hex 0 (a ∷ b ∷ w) 0 e (omega arith) in
    let q = every-at is_hex 0 (a ∷ b ∷ w) 1 e (omega arith) in
    let m = nibble_small a p in
    let n = nibble_small b q in
    let r : every is_hex w ≡ true = rw (p, q) at e in
    let f : (16 * nibble_of a + nibble_of b) / 16 ≡ nibble_of a = omega arith in
    let g : (16 * nibble_of a + nibble_of b) % 16 ≡ nibble_of b = omega arith in
    rw (f, g, digit_nibble a p, digit_nibble b q, digits_octets w r (omega arith))

-- the two words that have no pair
nothing : is_hex_word [] ≡ false
unfolding is_hex_word choose
nothing = refl

dash : (a : ℕ) → is_hex_word (a ∷ []) ≡ eqb a 45
unfolding is_hex_word choose
dash a = refl

pub hex_spelling : (w : List ℕ) → is_hex_word w ≡ true → hex_text (hex_octets w) ≡ w
unfolding hex_octets choose hex_text octets_of
hex_spelling [] e = absurd (false≢true (sym nothing ∙ e))
hex_spelling (a ∷ []) e = rw (e, eqb-true a 45 (sym (dash a) ∙ e))
hex_spelling (a ∷ b ∷ w) e =
    let p = word_pairs (a ∷ b ∷ w) e (omega arith) in
    rw e (digits_octets (a ∷ b ∷ w) p.all p.even)
