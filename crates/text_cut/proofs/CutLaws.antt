-- Laws of a text cut at a character: its first piece and the others, and how many there are; and what makes it the only such cut: the
-- pieces, joined by the character, are the text, and no piece has the character.
use Rattle.std.specs.Prelude.{◌≡◌, Bool, not, ◌&&◌, ltb, take, drop, get_or}
use Rattle.std.proofs.Math.Path.{refl, ap}
use Rattle.std.proofs.Common.{◌∙◌, add-zero, drop_of_length-le, drop-cons, add-one}
use Rattle.std.proofs.Math.Bool.{true, false}
use Rattle.std.proofs.lemmas.Bool.{false≢true}
use mathlib.Core.List.{List, [], ◌∷◌, ◌++◌}
use Prim.Native.Nat.{ℕ, suc, ◌+◌, ◌≤◌, ◌<◌}
use native.Mathlib.Omega.{arith}
use Rattle.std.proofs.Math.Dec.{leb-suc-suc}
use borrow.Author.Tests.{lt-ltb, eqb-true, eq-eqb}
use Rattle.std.proofs.Math.ListN.{length}
use Rattle.lists.specs.Choose.{choose}
use Rattle.lists.specs.First.{first}
use Rattle.lists.specs.Every.{every}
use Rattle.lists.specs.Bits.{bit, bit_le, count}
use Rattle.text_cut.specs.Cut.{is, into_first, cut_at}
use Rattle.text_cut.specs.CutLaws.{Counted}

-- the first piece goes up to the first c; the rest behind that one is cut
pub cut_first : (c : ℕ) (xs : List ℕ) → cut_at c xs ≡ take (first (is c) xs) xs ∷ choose (ltb (first (is c) xs) (length xs)) (cut_at c (drop (suc (first (is c) xs)) xs)) []
unfolding cut_at into_first first choose
cut_first c [] = refl
cut_first c (x ∷ xs) = go (is c x) (cut_first c xs)
  where
    go : (b : Bool) → cut_at c xs ≡ take (first (is c) xs) xs ∷ choose (ltb (first (is c) xs) (length xs)) (cut_at c (drop (suc (first (is c) xs)) xs)) []
        → choose b ([] ∷ cut_at c xs) (into_first x (cut_at c xs))
        ≡ take (choose b 0 (suc (first (is c) xs))) (x ∷ xs)
        ∷ choose (ltb (choose b 0 (suc (first (is c) xs))) (suc (length xs))) (cut_at c (drop (suc (choose b 0 (suc (first (is c) xs)))) (x ∷ xs))) []
    go true ih = rw (lt-ltb 0 (suc (length xs)) (omega arith))
    go false ih = rw (ih, leb-suc-suc)

module _ (c : ℕ) where
  into-length : (x : ℕ) (ps : List (List ℕ)) → 0 < length ps → length (into_first x ps) ≡ length ps
  unfolding into_first
  into-length x [] h = absurd (omega arith)
  into-length x (p ∷ ps) h = refl

  -- one piece more than c stands in the text
  pub cut_count : (xs : List ℕ) → length (cut_at c xs) ≡ suc (count (is c) xs)
  unfolding cut_at count choose
  cut_count [] = refl
  cut_count (x ∷ xs) = go (is c x) (cut_count xs)
    where
      go : (b : Bool) → length (cut_at c xs) ≡ suc (count (is c) xs) → length (choose b ([] ∷ cut_at c xs) (into_first x (cut_at c xs))) ≡ suc (bit b + count (is c) xs)
      go true ih = omega arith
      go false ih = into-length x (cut_at c xs) (omega arith) ∙ ih ∙ omega arith

  pub cut_some : (xs : List ℕ) → 0 < length (cut_at c xs)
  cut_some xs = omega (arith, cut_count xs)

  -- the pieces with one c between each two of them
  unfoldable pub joined : List (List ℕ) → List ℕ
  joined [] = []
  joined (p ∷ []) = p
  joined (p ∷ q ∷ ps) = p ++ c ∷ joined (q ∷ ps)

  joined-none : (ps : List (List ℕ)) → 0 < length ps → joined ([] ∷ ps) ≡ c ∷ joined ps
  unfolding joined
  joined-none [] h = absurd (omega arith)
  joined-none (p ∷ ps) h = refl

  joined-into : (x : ℕ) (ps : List (List ℕ)) → 0 < length ps → joined (into_first x ps) ≡ x ∷ joined ps
  unfolding joined into_first
  joined-into x [] h = absurd (omega arith)
  joined-into x (p ∷ []) h = refl
  joined-into x (p ∷ q ∷ ps) h = refl

  pub cut_joined : (xs : List ℕ) → joined (cut_at c xs) ≡ xs
  unfolding cut_at choose joined
  cut_joined [] = refl
  cut_joined (x ∷ xs) = go (is c x) refl (cut_joined xs)
    where
      go : (b : Bool) → is c x ≡ b → joined (cut_at c xs) ≡ xs → joined (choose b ([] ∷ cut_at c xs) (into_first x (cut_at c xs))) ≡ x ∷ xs
      go true e ih = joined-none (cut_at c xs) (cut_some xs) ∙ rw (ih, eqb-true x c e)
      go false e ih = joined-into x (cut_at c xs) (cut_some xs) ∙ rw ih

  -- c does not stand in the piece
  abbrev pub free : List ℕ → Bool
  free p = every (λ x. not (is c x)) p

  free-into : (x : ℕ) (ps : List (List ℕ)) → is c x ≡ false → every free ps ≡ true → every free (into_first x ps) ≡ true
  unfolding into_first every
  free-into x [] e h = rw e
  free-into x (p ∷ ps) e h = rw (e, h)

  pub cut_free : (xs : List ℕ) → every free (cut_at c xs) ≡ true
  unfolding cut_at choose every
  cut_free [] = refl
  cut_free (x ∷ xs) = go (is c x) refl (cut_free xs)
    where
      go : (b : Bool) → is c x ≡ b → every free (cut_at c xs) ≡ true → every free (choose b ([] ∷ cut_at c xs) (into_first x (cut_at c xs))) ≡ true
      go true e ih = ih
      go false e ih = free-into x (cut_at c xs) e ih

  -- so no other pieces than these do it
  cut_piece : (p : List ℕ) → free p ≡ true → cut_at c p ≡ p ∷ []
  unfolding cut_at choose every into_first
  cut_piece [] h = refl
  cut_piece (x ∷ p) h = go (is c x) refl (cut_piece p)
    where
      go : (b : Bool) → is c x ≡ b → (free p ≡ true → cut_at c p ≡ p ∷ []) → choose b ([] ∷ cut_at c p) (into_first x (cut_at c p)) ≡ (x ∷ p) ∷ []
      go true e ih = absurd (false≢true (rw e at h))
      go false e ih = rw (ih (rw e at h))

  cut_behind : (p xs : List ℕ) → free p ≡ true → cut_at c (p ++ c ∷ xs) ≡ p ∷ cut_at c xs
  unfolding cut_at choose every into_first
  cut_behind [] xs h = rw (eq-eqb c c refl)
  cut_behind (x ∷ p) xs h = go (is c x) refl (cut_behind p xs)
    where
      go : (b : Bool) → is c x ≡ b → (free p ≡ true → cut_at c (p ++ c ∷ xs) ≡ p ∷ cut_at c xs)
          → choose b ([] ∷ cut_at c (p ++ c ∷ xs)) (into_first x (cut_at c (p ++ c ∷ xs))) ≡ (x ∷ p) ∷ cut_at c xs
      go true e ih = absurd (false≢true (rw e at h))
      go false e ih = rw (ih (rw e at h))

  left_true : (a b : Bool) → a && b ≡ true → a ≡ true
  left_true true b h = refl
  left_true false b h = h

  right_true : (a b : Bool) → a && b ≡ true → b ≡ true
  right_true true b h = h
  right_true false b h = absurd (false≢true h)

  pub joined_cut : (ps : List (List ℕ)) → 0 < length ps → every free ps ≡ true → cut_at c (joined ps) ≡ ps
  unfolding joined every
  joined_cut [] h f = absurd (omega arith)
  joined_cut (p ∷ []) h f = cut_piece p (left_true (free p) true f)
  joined_cut (p ∷ q ∷ ps) h f =
      cut_behind p (joined (q ∷ ps)) (left_true (free p) (every free (q ∷ ps)) f)
      ∙ ap (λ r. p ∷ r) (joined_cut (q ∷ ps) (omega arith) (right_true (free p) (every free (q ∷ ps)) f))

pub counted_none : {A : Type 0} {p : A → Bool} {l : List A} → Counted p l 0 1
counted_none {A} {p} {l} = record { small = omega arith; is = omega arith }

module _ {A : Type 0} {p : A → Bool} {l : List A} {i n : ℕ} (w : Counted p l i n) where
  counted-more : (d : A) (b : Bool) → p (get_or l i d) ≡ b → i < length l → Counted p l (i + 1) (n + bit b)
  unfolding count
  counted-more d b e h =
      let f : n + (bit b + count p (drop (suc i) l)) ≡ suc (count p l) = rw (drop-cons l i d h, e) at w.is in
      record { small = omega (arith, w.small, bit_le b); is = rw (add-one i) (omega (arith, f)) }

  pub counted_hit : (d : A) → p (get_or l i d) ≡ true → i < length l → Counted p l (i + 1) (n + 1)
  counted_hit d e h = counted-more d true e h

  pub counted_pass : (d : A) → p (get_or l i d) ≡ false → i < length l → Counted p l (i + 1) n
  counted_pass d e h = rw add-zero at (counted-more d false e h)

  pub counted_all : length l ≤ i → n ≡ suc (count p l)
  unfolding count
  counted_all h = let f : n + 0 ≡ suc (count p l) = rw (drop_of_length-le l h) at w.is in omega (arith, f)
