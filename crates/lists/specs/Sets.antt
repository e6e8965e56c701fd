-- Laws of `sets` (a run of stores) and `part`, for elements of any kind: the definition's interpreter runs on octets and on marks alike.
-- `sets xs at ys` of lib.Seq is `ys` written over `xs` from index `at` on, one store after the other, where a store past the end changes
-- nothing. The laws rest on those of one store.
use Rattle.std.specs.Prelude.{◌≡◌, refl, List, [], ◌∷◌, ◌++◌, ℕ, zero, suc, ◌+◌, ◌-◌, ◌≤◌, ◌<◌, min, length, take, drop, get_or, set}
use Rattle.std.proofs.Common.{sym, ap, ◌∙◌, append_assoc, append-nil, add-suc, suc-add, add-zero, zero-add, not-suc-le-zero, arith, length-set, length-append, length-drop, length-take, take-append-drop, drop_of_length-le, get_or-set_same, get_or-set_other, set-set, length-take-le, take_all, get_or-drop, get_or-take, drop-cons, drop-drop, take-add, take-take, ext_get_or}
use Rattle.std.proofs.lemmas.List.Edits.{sets, sets-eq}
use Rattle.std.proofs.Math.Seq.{length-sets, set_out, take-nil}
use Rattle.std.proofs.lemmas.List.{set_comm, set-append_left}
use borrow.Rule.Slice.PartMut.{mid_of, put_mid, Post-is}

-- the `n` elements of `xs` from index `from` on, or as many as there are
abbrev pub part : {A : Type 0} → List A → ℕ → ℕ → List A
part xs from n = take n (drop from xs)

module _ {A : Type 0} where
  -- two runs that follow one another are one run
  pub sets-append : (xs : List A) (at : ℕ) (ys zs : List A) → sets xs at (ys ++ zs) ≡ sets (sets xs at ys) (at + length ys) zs
  sets-append xs at [] zs = rw add-zero
  sets-append xs at (y ∷ ys) zs = rw (sets-append (set xs at y) (suc at) ys zs, add-suc, suc-add)

  -- a run past the end stores nothing
  pub sets-out : (xs : List A) (at : ℕ) (ys : List A) → length xs ≤ at → sets xs at ys ≡ xs
  sets-out xs at [] h = refl
  sets-out xs at (y ∷ ys) h = sets-out (set xs at y) (suc at) ys (rw length-set (omega arith)) ∙ set_out xs at y h

  -- an element before the place, or after it, stays
  pub sets-before : (d : A) (xs : List A) (at : ℕ) (ys : List A) (i : ℕ) → i < at → get_or (sets xs at ys) i d ≡ get_or xs i d
  sets-before d xs at [] i h = refl
  sets-before d xs at (y ∷ ys) i h = sets-before d (set xs at y) (suc at) ys i (omega arith) ∙ get_or-set_other xs at i y d (λ e. omega arith)

  pub sets-after : (d : A) (xs : List A) (at : ℕ) (ys : List A) (i : ℕ) → at + length ys ≤ i → get_or (sets xs at ys) i d ≡ get_or xs i d
  sets-after d xs at [] i h = refl
  sets-after d xs at (y ∷ ys) i h = sets-after d (set xs at y) (suc at) ys i (omega arith) ∙ get_or-set_other xs at i y d (λ e. omega arith)

  -- an element of the place is what was written
  pub sets_inside : (d : A) (xs : List A) (at : ℕ) (ys : List A) (k : ℕ) → at + length ys ≤ length xs → k < length ys → get_or (sets xs at ys) (at + k) d ≡ get_or ys k d
  sets_inside d xs at [] k h l = absurd (not-suc-le-zero l)
  sets_inside d xs at (y ∷ ys) zero h l = rw add-zero (sets-before d (set xs at y) (suc at) ys at (omega arith) ∙ get_or-set_same xs at y d (omega arith))
  sets_inside d xs at (y ∷ ys) (suc k) h l = rw (add-suc, ← suc-add) (sets_inside d (set xs at y) (suc at) ys k (rw length-set (omega arith)) (omega arith))

  -- a store before the place, and a run, in either order
  pub sets-set : (xs : List A) (at : ℕ) (ys : List A) (i : ℕ) (v : A) → i < at → sets (set xs i v) at ys ≡ set (sets xs at ys) i v
  sets-set xs at [] i v h = refl
  sets-set xs at (y ∷ ys) i v h =
      ap (λ (l : List A). sets l (suc at) ys) (set_comm xs i at v y (λ e. omega arith)) ∙ sets-set (set xs at y) (suc at) ys i v (omega arith)

  -- two places that lie apart may be written in either order
  pub sets_comm : (xs : List A) (at : ℕ) (ys : List A) (to : ℕ) (zs : List A) → at + length ys ≤ to → sets (sets xs at ys) to zs ≡ sets (sets xs to zs) at ys
  sets_comm xs at [] to zs h = refl
  sets_comm xs at (y ∷ ys) to zs h =
      sets_comm (set xs at y) (suc at) ys to zs (omega arith) ∙ ap (λ (l : List A). sets l (suc at) ys) (sets-set xs to zs at y (omega arith))

  -- what is written over what was written is all that stays
  pub sets_over : (xs : List A) (at : ℕ) (ys zs : List A) → length ys ≡ length zs → sets (sets xs at ys) at zs ≡ sets xs at zs
  sets_over xs at [] zs h = refl
  sets_over xs at (y ∷ ys) [] h = absurd (omega arith)
  sets_over xs at (y ∷ ys) (z ∷ zs) h =
      ap (λ (l : List A). sets l (suc at) zs) (sym (sets-set (set xs at y) (suc at) ys at z (omega arith)) ∙ ap (λ (l : List A). sets l (suc at) ys) (set-set xs at y z))
      ∙ sets_over (set xs at z) (suc at) ys zs (omega arith)

  -- ---- in a list that is made of two

  pub set_append_right : (xs ys : List A) (i : ℕ) (a : A) → set (xs ++ ys) (length xs + i) a ≡ xs ++ set ys i a
  set_append_right [] ys i a = rw zero-add
  set_append_right (x ∷ xs) ys i a = rw (suc-add (length xs) i) (ap (λ (r : List A). x ∷ r) (set_append_right xs ys i a))

  pub sets_append_right : (vs xs ys : List A) (i : ℕ) → sets (xs ++ ys) (length xs + i) vs ≡ xs ++ sets ys i vs
  sets_append_right [] xs ys i = refl
  sets_append_right (v ∷ vs) xs ys i =
      ap (λ (l : List A). sets l (suc (length xs + i)) vs) (set_append_right xs ys i v)
      ∙ ap (λ (n : ℕ). sets (xs ++ set ys i v) n vs) (sym (add-suc (length xs) i))
      ∙ sets_append_right vs xs (set ys i v) (suc i)

  pub sets_append_left : (vs xs ys : List A) (i : ℕ) → i + length vs ≤ length xs → sets (xs ++ ys) i vs ≡ sets xs i vs ++ ys
  sets_append_left [] xs ys i h = refl
  sets_append_left (v ∷ vs) xs ys i h =
      ap (λ (l : List A). sets l (suc i) vs) (set-append_left xs ys i v (omega arith))
      ∙ sets_append_left vs (set xs i v) ys (suc i) (omega (arith, length-set xs i v))

  -- a list, cut at a part
  pub cut_at : (b w : ℕ) (xs : List A) → take b xs ++ part xs b w ++ drop (b + w) xs ≡ xs
  cut_at b w xs =
      append_assoc (take b xs) (part xs b w) (drop (b + w) xs)
      ∙ ap (λ (r : List A). take b xs ++ r) (ap (λ (r : List A). part xs b w ++ r) (sym (drop-drop w b xs)) ∙ take-append-drop w (drop b xs))
      ∙ take-append-drop b xs

  -- to store in a part is to store in the whole
  pub store : (b w : ℕ) (xs vs : List A) (i : ℕ) → b + w ≤ length xs → i + length vs ≤ w → take b xs ++ sets (part xs b w) i vs ++ drop (b + w) xs ≡ sets xs (b + i) vs
  store b w xs vs i h g =
      let x = take b xs in
      let y = part xs b w in
      let z = drop (b + w) xs in
      let lx : length x ≡ b = length-take b xs ∙ omega arith in
      let ly : length y ≡ w = length-take w (drop b xs) ∙ omega (arith, length-drop b xs) in
      ap (λ (r : List A). r ++ z) (sym (sets_append_right vs x y i) ∙ ap (λ (n : ℕ). sets (x ++ y) (n + i) vs) lx)
      ∙ sym (sets_append_left vs (x ++ y) z (b + i) (omega (arith, length-append x y)))
      ∙ ap (λ (r : List A). sets r (b + i) vs) (cut_at b w xs)

  -- ---- part

  pub part_length : (xs : List A) (from n : ℕ) → from + n ≤ length xs → length (part xs from n) ≡ n
  part_length xs from n h = length-take-le n (drop from xs) (rw length-drop (omega arith))

  pub part_at : (d : A) (xs : List A) (from n k : ℕ) → k < n → get_or (part xs from n) k d ≡ get_or xs (from + k) d
  part_at d xs from n k h = rw (get_or-take, get_or-drop)

  -- a part before what was written, or after it, stays
  pub part-before : (d : A) (xs : List A) (at : ℕ) (ys : List A) (from n : ℕ) → from + n ≤ at → from + n ≤ length xs → part (sets xs at ys) from n ≡ part xs from n
  part-before d xs at ys from n h l =
      let e : length (part (sets xs at ys) from n) ≡ n = part_length (sets xs at ys) from n (rw length-sets l) in
      ext_get_or d _ _ (e ∙ sym (part_length xs from n l))
      (λ i k. let m : i < n = rw e at k in part_at d (sets xs at ys) from n i m ∙ sets-before d xs at ys (from + i) (omega arith) ∙ sym (part_at d xs from n i m))

  pub part-after : (d : A) (xs : List A) (at : ℕ) (ys : List A) (from n : ℕ) → at + length ys ≤ from → from + n ≤ length xs → part (sets xs at ys) from n ≡ part xs from n
  part-after d xs at ys from n h l =
      let e : length (part (sets xs at ys) from n) ≡ n = part_length (sets xs at ys) from n (rw length-sets l) in
      ext_get_or d _ _ (e ∙ sym (part_length xs from n l))
      (λ i k. let m : i < n = rw e at k in part_at d (sets xs at ys) from n i m ∙ sets-after d xs at ys (from + i) (omega arith) ∙ sym (part_at d xs from n i m))

  -- the part that was written is what was written
  pub part_same : (d : A) (xs : List A) (at : ℕ) (ys : List A) → at + length ys ≤ length xs → part (sets xs at ys) at (length ys) ≡ ys
  part_same d xs at ys l =
      let e : length (part (sets xs at ys) at (length ys)) ≡ length ys = part_length (sets xs at ys) at (length ys) (rw length-sets l) in
      ext_get_or d _ _ e
      (λ i k. let m : i < length ys = rw e at k in part_at d (sets xs at ys) at (length ys) i m ∙ sets_inside d xs at ys i l m)

  -- ---- a part of a slice that was lent, `&mut s[at..end]`: what the borrow checker says of the whole when the part is back, and of
  -- the part as it goes
  pub put_sets : (xs : List A) (at end : ℕ) (ys : List A) → at ≤ end → end ≤ length xs → length ys ≡ end - at → put_mid at (end - at) xs ys ≡ sets xs at ys
  put_sets xs at end ys h l e =
      let f : at + length ys ≡ end = omega arith in
      ap (λ (r : List A). take at xs ++ (ys ++ r)) (Post-is at end xs h) ∙ sym (append_assoc (take at xs) ys (drop end xs))
      ∙ sym (rw f at (sets-eq ys xs at (omega arith)))

  pub mid_part : (xs : List A) (at n : ℕ) → mid_of at (at + n - at) xs ≡ part xs at n
  mid_part xs at n = let e : at + n - at ≡ n = omega arith in rw e

  -- the part `&s[..n]`, where n is cut to the length
  pub take_least : (n : ℕ) (xs : List A) → take (min n (length xs)) xs ≡ take n xs
  take_least zero xs = let e : min 0 (length xs) ≡ 0 = omega arith in rw e
  take_least (suc n) [] = take-nil (min (suc n) 0)
  take_least (suc n) (x ∷ xs) = let e : min (suc n) (suc (length xs)) ≡ suc (min n (length xs)) = omega arith in rw e (ap (λ (r : List A). x ∷ r) (take_least n xs))

  -- the part `&s[n..]`
  pub tail-part : (n : ℕ) (xs : List A) → part xs n (length xs - n) ≡ drop n xs
  tail-part n xs = take_all (length xs - n) (drop n xs) (rw length-drop (omega arith))

  -- a list of two, the first as long as the first w of another
  pub take_split : (w : ℕ) (l y r : List A) → length y ≡ length (take w l) → length r ≡ length (drop w l) → take w (y ++ r) ≡ y
  take_split zero l [] r e f = refl
  take_split zero l (a ∷ y) r e f = absurd (omega arith)
  take_split (suc w) [] [] [] e f = refl
  take_split (suc w) [] [] (b ∷ r) e f = absurd (omega arith)
  take_split (suc w) [] (a ∷ y) r e f = absurd (omega arith)
  take_split (suc w) (x ∷ l) [] r e f = absurd (omega arith)
  take_split (suc w) (x ∷ l) (a ∷ y) r e f = ap (λ (z : List A). a ∷ z) (take_split w l y r (omega arith) f)

  pub drop_split : (w : ℕ) (l y r : List A) → length y ≡ length (take w l) → length r ≡ length (drop w l) → drop w (y ++ r) ≡ r
  drop_split zero l [] r e f = refl
  drop_split zero l (a ∷ y) r e f = absurd (omega arith)
  drop_split (suc w) [] [] [] e f = refl
  drop_split (suc w) [] [] (b ∷ r) e f = absurd (omega arith)
  drop_split (suc w) [] (a ∷ y) r e f = absurd (omega arith)
  drop_split (suc w) (x ∷ l) [] r e f = absurd (omega arith)
  drop_split (suc w) (x ∷ l) (a ∷ y) r e f = drop_split w l y r (omega arith) f

  -- a list written over one that is as long
  pub sets-whole : (l vs : List A) → length l ≡ length vs → sets l 0 vs ≡ vs
  sets-whole l vs e =
      let h : length l ≤ length vs = omega arith in
      sets-eq vs l 0 (omega arith) ∙ rw (zero-add (length vs), drop_of_length-le l h, append-nil vs) refl

  -- ---- a run that is written in pieces which may overlap

  -- what is written over a shorter run is all that stays
  pub sets_hide : (xs : List A) (at : ℕ) (ys zs : List A) → length ys ≤ length zs → sets (sets xs at ys) at zs ≡ sets xs at zs
  sets_hide xs at [] zs h = refl
  sets_hide xs at (y ∷ ys) [] h = absurd (omega arith)
  sets_hide xs at (y ∷ ys) (z ∷ zs) h =
      ap (λ (l : List A). sets l (suc at) zs) (sym (sets-set (set xs at y) (suc at) ys at z (omega arith)) ∙ ap (λ (l : List A). sets l (suc at) ys) (set-set xs at y z))
      ∙ sets_hide (set xs at z) (suc at) ys zs (omega arith)

  part_split : (xs : List A) (from a b : ℕ) → part xs from (a + b) ≡ part xs from a ++ part xs (from + a) b
  part_split xs from a b = take-add a b (drop from xs) ∙ ap (λ (r : List A). take a (drop from xs) ++ take b r) (drop-drop a from xs)

  -- a part is written from its place k on, over a part of it that reaches k and not beyond: the whole is written
  pub written_over : (l xs : List A) (at from w k e : ℕ) → k ≤ w → w ≤ k + e → from + (k + e) ≤ length xs
      → sets (sets l at (part xs from w)) (at + k) (part xs (from + k) e) ≡ sets l at (part xs from (k + e))
  written_over l xs at from w k e h g r =
      let a = part xs from k in
      let b = part xs (from + k) (w - k) in
      let c = part xs (from + k) e in
      let lk : length a ≡ k = part_length xs from k (omega arith) in
      let lb : length b ≡ w - k = part_length xs (from + k) (w - k) (omega arith) in
      let lc : length c ≡ e = part_length xs (from + k) e (omega arith) in
      let sw : k + (w - k) ≡ w = omega arith in
      let pw : part xs from w ≡ a ++ b = rw sw at (part_split xs from k (w - k)) in
      let ab : sets l at (a ++ b) ≡ sets (sets l at a) (at + k) b = rw lk at (sets-append l at a b) in
      let ac : sets l at (a ++ c) ≡ sets (sets l at a) (at + k) c = rw lk at (sets-append l at a c) in
      ap (λ (p : List A). sets (sets l at p) (at + k) c) pw
      ∙ ap (λ (p : List A). sets p (at + k) c) ab
      ∙ sets_hide (sets l at a) (at + k) b c (omega arith)
      ∙ sym ac
      ∙ ap (sets l at) (sym (part_split xs from k e))

-- The loop that writes `vs` over `l₀` from index `at` on, one element a turn, of which i are written. Its invariant: with the rest written
-- too, it is the whole run. Its start, its turn, and its end, where nothing is left to write or no place.
pub record Writing {A : Type 0} (l₀ : List A) (at : ℕ) (vs : List A) (i : ℕ) (l : List A) : Type 0 where
  pub long : length l ≡ length l₀
  pub is : sets l (at + i) (drop i vs) ≡ sets l₀ at vs

pub writing_none : {A : Type 0} {l : List A} {at : ℕ} {vs : List A} → Writing l at vs 0 l
writing_none {A} {l} {at} {vs} = record { long = refl; is = rw add-zero }

module _ {A : Type 0} {l₀ l vs : List A} {at i : ℕ} (w : Writing l₀ at vs i l) where
  pub writing_more : (d v : A) → get_or vs i d ≡ v → i < length vs → Writing l₀ at vs (i + 1) (set l (at + i) v)
  writing_more d v e h =
      let f : at + (i + 1) ≡ suc (at + i) = omega arith in
      let g : i + 1 ≡ suc i = omega arith in
      let r : sets (set l (at + i) (get_or vs i d)) (suc (at + i)) (drop (suc i) vs) ≡ sets l₀ at vs = rw (drop-cons vs i d h) at w.is in
      record { long = length-set l (at + i) v ∙ w.long; is = rw (f, g) (rw e at r) }

  pub writing_end : min (length l₀ - at) (length vs) ≤ i → l ≡ sets l₀ at vs
  writing_end h = sym (stop (drop i vs) (rw (length-drop, w.long) (omega arith))) ∙ w.is
    where
      stop : (ys : List A) → min (length l - (at + i)) (length ys) ≡ 0 → sets l (at + i) ys ≡ l
      stop [] h = refl
      stop (y ∷ ys) h = sets-out l (at + i) (y ∷ ys) (omega arith)

-- so many of a run were written at once
writing_at : {A : Type 0} (l : List A) (at : ℕ) (vs : List A) (m : ℕ) → m ≤ length vs → Writing l at vs m (sets l at (take m vs))
writing_at l at vs m h =
    let e : length (take m vs) ≡ m = length-take-le m vs h in
    record { long = length-sets l at (take m vs); is = sym (rw e at (sets-append l at (take m vs) (drop m vs))) ∙ ap (sets l at) (take-append-drop m vs) }

least_of : (m n a b : ℕ) → m ≡ min n (min a b) → (m ≤ n) × (m ≤ min n b) × (min a (min n b) ≤ m)
least_of m n a b e = (omega arith, omega arith, omega arith)

-- what is copied as far as both lists reach is all that is copied
module _ {A : Type 0} (l xs : List A) (at from n m : ℕ) (e : m ≡ min n (min (length l - at) (length xs - from))) where
  reached : length (part xs from n) ≡ min n (length xs - from)
  reached = length-take n (drop from xs) ∙ ap (min n) (length-drop from xs)

  pub copied_all : sets l at (part xs from m) ≡ sets l at (part xs from n)
  copied_all =
      let (low, within, end) = least_of m n (length l - at) (length xs - from) e in
      ap (sets l at) (sym (take-take m n (drop from xs) low)) ∙ writing_end (writing_at l at (part xs from n) m (rw reached within)) (rw reached end)

  pub copied_none : m ≡ 0 → l ≡ sets l at (part xs from n)
  copied_none z = rw z at copied_all

  -- the last eight are copied over the whole eights
  pub copied_eight : (w : ℕ) (l₁ l₂ : List A) → 8 ≤ m → w ≤ m → m < w + 8 → l₁ ≡ sets l at (part xs from w) → l₂ ≡ sets l₁ (at + (m - 8)) (part xs (from + (m - 8)) 8) → l₂ ≡ sets l at (part xs from n)
  copied_eight w l₁ l₂ h g k e₁ e₂ =
      let sum : m - 8 + 8 ≡ m = omega arith in
      let far : from + m ≤ length xs = omega arith in
      rw e₁ at e₂
      ∙ rw sum at (written_over l xs at from w (m - 8) 8 (omega arith) (omega arith) (rw sum far))
      ∙ copied_all
