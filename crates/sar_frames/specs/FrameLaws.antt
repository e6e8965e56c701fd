-- Laws of the frames: the stretches of a stream one by one, and the frames as they are written.
-- They rest on the count (CutLaws.antt) and on the laws of `sets` and `part`.
use Rattle.std.specs.Prelude.{◌≡◌, List, [], ◌∷◌, ◌++◌, map, take}
use Rattle.std.proofs.Math.Path.{refl, sym, ap}
use Rattle.std.proofs.Common.{◌∙◌, zero-add, drop_of_length-le, drop-drop, length-take-le}
use Prim.Native.Nat.{ℕ, zero, suc, ◌+◌, ◌-◌, ◌*◌, ◌≤◌, ◌<◌, min}
use Rattle.std.proofs.Math.Nat.{suc-mul, zero-mul, sub-zero}
use native.Mathlib.Omega.{arith}
use Rattle.std.proofs.Math.ListN.{length, drop, length-drop}
use Rattle.std.proofs.lemmas.List.{take_at, drop_at}
use Rattle.std.proofs.lemmas.List.Edits.{sets}
use Rattle.octets.specs.Octets.{part, le16}
use Rattle.octets.specs.Sets.{sets-append, take_least}
use Rattle.sar_cut.specs.Cutting.{ceil, frame_count, stream, piece_at, pieces_from, pieces, payloads, frame, joined, frames_of}
use Rattle.sar_cut.proofs.CutLaws.{split}
use Rattle.sar_cut.proofs.CutLaws.{ceil_zero, ceil-more}

module _ {A : Type 0} (m : ℕ) where
  -- stretch k+1 is stretch k of what follows the first
  pieces_shift : (xs : List A) (k c : ℕ) → pieces_from m xs (suc k) c ≡ pieces_from m (drop m xs) k c
  unfolding pieces_from piece_at
  pieces_shift xs k zero = refl
  pieces_shift xs k (suc c) =
      let e : suc k * m ≡ m + k * m = omega (arith, suc-mul k m) in
      let f : part xs (suc k * m) m ≡ part (drop m xs) (k * m) m = ap (take m) (ap (λ (n : ℕ). drop n xs) e ∙ sym (drop-drop (k * m) m xs)) in
      rw (f, pieces_shift xs (suc k) c)

  pub pieces_nil : (xs : List A) → 0 < m → length xs ≡ 0 → pieces m xs ≡ []
  unfolding pieces pieces_from
  pieces_nil xs p h = rw (h, ceil_zero m p)

  pub pieces_more : (xs : List A) → 0 < m → 0 < length xs → pieces m xs ≡ take m xs ∷ pieces m (drop m xs)
  unfolding pieces pieces_from piece_at
  pieces_more xs p h = rw (ceil-more (length xs) m p h, zero-mul m, pieces_shift xs 0 (ceil (length xs - m) m), ← length-drop m xs)

  pub pieces-count : (xs : List A) → length (pieces m xs) ≡ ceil (length xs) m
  unfolding pieces pieces_from
  pieces-count xs = go 0 (ceil (length xs) m)
    where
      go : (k c : ℕ) → length (pieces_from m xs k c) ≡ c
      go k zero = refl
      go k (suc c) = ap suc (go (suc k) c)

-- ---- what is written

pub frame-length : (cid : ℕ) (p : List ℕ) → length (frame cid p) ≡ 4 + length p
unfolding frame
frame-length cid p = omega arith

-- a frame is written by its two numbers and its payload
pub frame-sets : (out : List ℕ) (at cid : ℕ) (p : List ℕ) → sets (sets (sets out at (le16 (length p))) (at + 2) (le16 cid)) (at + 4) p ≡ sets out at (frame cid p)
unfolding frame
frame-sets out at cid p =
    let e : at + 2 + 2 ≡ at + 4 = omega arith in
    sym (sets-append out at (le16 (length p)) (le16 cid ++ p) ∙ sets-append (sets out at (le16 (length p))) (at + 2) (le16 cid) p
    ∙ ap (λ (k : ℕ). sets (sets (sets out at (le16 (length p))) (at + 2) (le16 cid)) k p) e)

-- the first frame is written by its three numbers and the job's first octets
pub first-sets : (out : List ℕ) (cid l : ℕ) (p : List ℕ)
    → sets (sets (sets (sets out 0 (le16 (length p + 2))) 2 (le16 cid)) 4 (le16 l)) 6 p ≡ sets out 0 (frame cid (le16 l ++ p))
first-sets out cid l p =
    let e : length p + 2 ≡ length (le16 l ++ p) = omega arith in
    sym (sets-append (sets (sets out 0 (le16 (length p + 2))) 2 (le16 cid)) 4 (le16 l) p) ∙ ap (λ (x : ℕ). sets (sets (sets out 0 (le16 x)) 2 (le16 cid)) 4 (le16 l ++ p)) e ∙ frame-sets out 0 cid (le16 l ++ p)

-- the frames of a stream, or of what is left of it
unfoldable pub framed : ℕ → ℕ → List ℕ → List ℕ
framed m cid xs = joined (map (frame cid) (pieces m xs))

module _ (m cid : ℕ) where
  pub framed_nil : (xs : List ℕ) → 0 < m → length xs ≡ 0 → framed m cid xs ≡ []
  unfolding framed joined
  framed_nil xs p h = rw (pieces_nil m xs p h)

  pub framed-more : (xs : List ℕ) → 0 < m → 0 < length xs → framed m cid xs ≡ frame cid (take m xs) ++ framed m cid (drop m xs)
  unfolding framed joined
  framed-more xs p h = rw (pieces_more m xs p h)

  -- a job's frames: the first, and those of the rest
  pub framed-first : (sdu : List ℕ) → 2 ≤ m → frames_of cid m sdu ≡ frame cid (le16 (length sdu) ++ take (m - 2) sdu) ++ framed m cid (drop (m - 2) sdu)
  unfolding frames_of payloads stream framed
  framed-first sdu h =
      let e : m ≡ suc (suc (m - 2)) = omega arith in
      framed-more (stream sdu) (omega arith) (omega arith)
      ∙ ap (λ (k : ℕ). frame cid (take k (le16 (length sdu) ++ sdu)) ++ framed m cid (drop k (le16 (length sdu) ++ sdu))) e

-- a part of at most m octets, and what follows it
least_part : (xs : List ℕ) (from m : ℕ) → part xs from (min (length xs - from) m) ≡ take m (drop from xs)
least_part xs from m = let e : min (length xs - from) m ≡ min m (length (drop from xs)) = rw length-drop (omega arith) in rw e (take_least m (drop from xs))

least_drop : (xs : List ℕ) (from m : ℕ) → drop (from + min (length xs - from) m) xs ≡ drop m (drop from xs)
least_drop xs from m = split m (length xs - from)
    (λ l. let e : min (length xs - from) m ≡ m = omega arith in rw e (sym (drop-drop m from xs)))
    (λ l. let e : min (length xs - from) m ≡ length xs - from = omega arith in
    drop_of_length-le xs {i = from + min (length xs - from) m} (rw e (omega arith)) ∙ sym (drop-drop m from xs ∙ drop_of_length-le xs {i = from + m} (omega arith)))

-- a job's frames: the first, and those of the rest, by the octets that each takes of the job
pub framed-start : (m cid : ℕ) (sdu : List ℕ) (k : ℕ) → 2 ≤ m → k ≡ min (length sdu) (m - 2)
    → frames_of cid m sdu ≡ frame cid (le16 (length sdu) ++ take k sdu) ++ framed m cid (drop k sdu)
framed-start m cid sdu k h e =
    let t : take k sdu ≡ take (m - 2) sdu = rw e (rw sub-zero at (least_part sdu 0 (m - 2))) in
    let d : drop k sdu ≡ drop (m - 2) sdu = rw e (rw (sub-zero, zero-add) at (least_drop sdu 0 (m - 2))) in
    rw (t, d) (framed-first m cid sdu h)

pub framed_turn : (m cid : ℕ) (sdu : List ℕ) (from k : ℕ) → 0 < m → from < length sdu → k ≡ min (length sdu - from) m
    → framed m cid (drop from sdu) ≡ frame cid (part sdu from k) ++ framed m cid (drop (from + k) sdu)
framed_turn m cid sdu from k p h e =
    let t : part sdu from k ≡ take m (drop from sdu) = rw e (least_part sdu from m) in
    let d : drop (from + k) sdu ≡ drop m (drop from sdu) = rw e (least_drop sdu from m) in
    rw (t, d) (framed-more m cid (drop from sdu) p (rw length-drop (omega arith)))

-- and how many: one, and those of the rest
pub count-first : (m l k : ℕ) → 2 ≤ m → k ≡ min l (m - 2) → frame_count l m ≡ suc (ceil (l - k) m)
unfolding frame_count
count-first m l k h e =
    let f : l + 2 - m ≡ l - k = omega arith in
    ceil-more (l + 2) m (omega arith) (omega arith) ∙ ap (λ (x : ℕ). suc (ceil x m)) f

-- ---- the loop that writes the frames of what is left of a job, `rest`, at `at`. Its invariant: with the rest written too, it is all
-- frames. Its start behind the first frame, its turn, and its end.
pub record Framing (m cid : ℕ) (sdu out₀ rest : List ℕ) (at : ℕ) (out : List ℕ) : Type 0 where
  pub is : sets out at (framed m cid rest) ≡ sets out₀ 0 (frames_of cid m sdu)

pub framing-first : (m cid : ℕ) (sdu out₀ : List ℕ) (k : ℕ) (out : List ℕ) → 2 ≤ m → k ≡ min (length sdu) (m - 2)
    → out ≡ sets out₀ 0 (frame cid (le16 (length sdu) ++ take k sdu)) → Framing m cid sdu out₀ (drop k sdu) (k + 6) out
framing-first m cid sdu out₀ k out h e o =
    let q : length (take k sdu) ≡ k = length-take-le k sdu (omega arith) in
    let f = le16 (length sdu) ++ take k sdu in
    let g : 0 + length (frame cid f) ≡ k + 6 = rw frame-length (omega arith) in
    record { is = rw o (sym (rw (framed-start m cid sdu k h e, ← g) (sets-append out₀ 0 (frame cid f) (framed m cid (drop k sdu))))) }

module _ {m cid : ℕ} {sdu out₀ rest : List ℕ} {at : ℕ} {out : List ℕ} (w : Framing m cid sdu out₀ rest at out) where
  pub framing-more : (p rest' out' : List ℕ) → 0 < m → 0 < length rest → rest ≡ p ++ rest' → length p ≡ min m (length rest)
      → out' ≡ sets out at (frame cid p) → Framing m cid sdu out₀ rest' (at + (length p + 4)) out'
  framing-more p rest' out' h l r e o =
      let k = length p in
      let t : part rest 0 k ≡ p = rw r (take_at p rest' k refl) in
      let d : drop (0 + k) rest ≡ rest' = rw (zero-add, r) (drop_at p rest' k refl) in
      let turn : framed m cid rest ≡ frame cid p ++ framed m cid rest' = rw (t, d) at (framed_turn m cid rest 0 k h l (omega arith)) in
      let g : at + length (frame cid p) ≡ at + (k + 4) = rw frame-length (omega arith) in
      record { is = rw (o, ← g) (sym (sets-append out at (frame cid p) (framed m cid rest'))) ∙ rw turn at w.is }

  pub framing-end : 0 < m → length rest ≡ 0 → out ≡ sets out₀ 0 (frames_of cid m sdu)
  framing-end h z = rw (framed_nil m cid rest h z) at w.is
