-- THE FRAMES OF A JOB, and the bench table's counts. They rest on the count and on the stretches taken one by one (CutLaws.antt, FrameLaws.antt).
use Rattle.std.specs.Prelude.{◌≡◌, refl, List, [], ◌∷◌, ℕ, zero, suc, ◌+◌, ◌-◌, ◌*◌, ◌/◌, ◌≤◌, ◌<◌, length, take, drop}
use Rattle.std.proofs.Common.{sym, ap, ◌∙◌, not-suc-le-zero, arith, length-append, length-drop, take-append-drop}
use Rattle.sar_cut.specs.Cutting.{ceil, frame_count, frames_length, stream, piece_at, pieces_from, pieces, payloads, AllWithin, joined, frames_of}
use Rattle.sar_cut.proofs.CutLaws.{ceil_zero, ceil-more, payloads-within}
use Rattle.sar_frames.specs.FrameLaws.{pieces_nil, pieces_more, pieces-count, framed, framed_nil, framed-more, frame-length}

-- the stretches, joined, are the whole
pieces_whole : {A : Type 0} (f m : ℕ) (xs : List A) → 0 < m → length xs ≤ f → joined (pieces m xs) ≡ xs
unfolding joined
pieces_whole zero m [] p h = rw (pieces_nil m [] p refl)
pieces_whole zero m (x ∷ xs) p h = absurd (not-suc-le-zero h)
pieces_whole (suc f) m [] p h = rw (pieces_nil m [] p refl)
pieces_whole (suc f) m (x ∷ xs) p h =
    rw (pieces_more m (x ∷ xs) p (omega arith), pieces_whole f m (drop m (x ∷ xs)) p (rw length-drop (omega arith))) (take-append-drop m (x ∷ xs))

framed-length : (f m cid : ℕ) (xs : List ℕ) → 0 < m → length xs ≤ f → length (framed m cid xs) ≡ length xs + 4 * ceil (length xs) m
framed-length zero m cid [] p h = rw (framed_nil m cid [] p refl, ceil_zero m p)
framed-length zero m cid (x ∷ xs) p h = absurd (not-suc-le-zero h)
framed-length (suc f) m cid [] p h = rw (framed_nil m cid [] p refl, ceil_zero m p)
framed-length (suc f) m cid (x ∷ xs) p h =
    let r : length (framed m cid (drop m (x ∷ xs))) ≡ length (drop m (x ∷ xs)) + 4 * ceil (length (drop m (x ∷ xs))) m =
    framed-length f m cid (drop m (x ∷ xs)) p (rw length-drop (omega arith)) in
    let t : length (take m (x ∷ xs)) + length (drop m (x ∷ xs)) ≡ length (x ∷ xs) =
    sym (length-append (take m (x ∷ xs)) (drop m (x ∷ xs))) ∙ ap length (take-append-drop m (x ∷ xs)) in
    rw (framed-more m cid (x ∷ xs) p (omega arith), length-append, frame-length, r, ceil-more (length (x ∷ xs)) m p (omega arith), ← length-drop m (x ∷ xs)) (omega arith)

-- For every MPS but 0: the payloads joined are the stream, none is above the MPS, they are n, and L+2+4n octets are written.
pub record Cut (mps cid : ℕ) (sdu : List ℕ) : Type 0 where
  pub whole : joined (payloads mps sdu) ≡ stream sdu
  pub small : AllWithin mps (payloads mps sdu)
  pub count : length (payloads mps sdu) ≡ frame_count (length sdu) mps
  pub octets : length (frames_of cid mps sdu) ≡ frames_length (length sdu) mps

pub cut : (mps cid : ℕ) (sdu : List ℕ) → 0 < mps → Cut mps cid sdu
unfolding payloads frames_of framed stream frame_count frames_length
cut mps cid sdu p =
    let e : length (stream sdu) ≡ length sdu + 2 = omega arith in
    record {
      whole = pieces_whole (length sdu + 2) mps (stream sdu) p (omega arith);
      small = payloads-within mps mps sdu (omega arith);
      count = pieces-count mps (stream sdu) ∙ ap (λ (x : ℕ). ceil x mps) e;
      octets = framed-length (length sdu + 2) mps cid (stream sdu) p (omega arith) ∙ ap (λ (x : ℕ). x + 4 * ceil x mps) e;
    }

-- BENCH: with MPS 23, every job of that many octets takes that many frames; the one of none has a payload of 00 00
pub record Bench (count : ℕ → ℕ) (alone : List (List ℕ)) : Type 0 where
  pub none : count 0 ≡ 1
  pub its_payload : alone ≡ (0 ∷ 0 ∷ []) ∷ []
  pub full : count 21 ≡ 1
  pub next : count 22 ≡ 2
  pub two : count 44 ≡ 2
  pub three : count 45 ≡ 3
  pub most : count 65533 ≡ 2850

pub bench : (job : ℕ → List ℕ) → ((l : ℕ) → length (job l) ≡ l) → Bench (λ (l : ℕ). length (payloads 23 (job l))) (payloads 23 [])
unfolding frame_count ceil payloads pieces pieces_from piece_at stream
bench job e = record { none = at 0; its_payload = refl; full = at 21; next = at 22; two = at 44; three = at 45; most = at 65533 }
  where
    at : (l : ℕ) → length (payloads 23 (job l)) ≡ (l + 2 + 22) / 23
    at l = (cut 23 0 (job l) (omega arith)).count ∙ ap (λ (x : ℕ). frame_count x 23) (e l)
