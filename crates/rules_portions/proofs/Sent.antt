-- The octets that the definition's send writes are the frames of the SDU, as crate sar_cut cuts it. Rests on the frames of a job taken one by one (crate
-- sar_frames: framed-start, framed_turn, count-first).
use Rattle.std.specs.Prelude.{◌≡◌, refl, List, [], take, drop}
use Rattle.std.proofs.Math.Path.{sym}
use Rattle.std.proofs.Common.{◌∙◌, length-drop, length-take-le}
use Prim.Native.Nat.{ℕ, zero, suc, ◌+◌, ◌-◌, ◌*◌, ◌≤◌, ◌<◌, min}
use native.Mathlib.Omega.{arith}
use Rattle.std.proofs.Math.ListN.{length}
use Rattle.octets.specs.Octets.{part}
use Rattle.octets.specs.Sets.{part_length}
use Rattle.sar_cut.specs.Cutting.{ceil, frame_count, frames_length, frame, frames_of}
use Rattle.sar_cut.proofs.CutLaws.{ceil_zero, ceil-more}
use Rattle.sar_frames.specs.FrameLaws.{framed, framed_nil, framed-start, framed_turn, count-first}
use Rattle.definition.specs.Mem.{size, sizes, fill, fills}
use Rattle.definition.specs.Ending.{itself}
use Rattle.definition.specs.Frames.{later_frames, frames}

-- a count of no stretches is that of nothing, and one more that of something
none_left : (x m : ℕ) → 0 < m → 0 ≡ ceil x m → x ≡ 0
none_left zero m p e = refl
none_left (suc x) m p e = let f = ceil-more (suc x) m p (omega arith) in absurd (omega arith)

some_left : (x m n : ℕ) → 0 < m → suc n ≡ ceil x m → 0 < x
some_left zero m n p e = let f = ceil_zero m p in absurd (omega arith)
some_left (suc x) m n p e = omega arith

module _ (cid m : ℕ) (sdu room : List ℕ) (p : 0 < m) where
  -- a frame behind the first, and how many follow it
  rest : (from n : ℕ) → suc n ≡ ceil (length sdu - from) m → n ≡ ceil (length sdu - (from + min m (length sdu - from))) m
  rest from n e =
      let h = some_left (length sdu - from) m n p e in
      let f = ceil-more (length sdu - from) m p h in
      let g : length sdu - from - m ≡ length sdu - (from + min m (length sdu - from)) = omega arith in
      rw (← g) (omega arith)

  later_octets : (n from : ℕ) → n ≡ ceil (length sdu - from) m → fills itself sdu room (later_frames cid m (length sdu) n from) ≡ framed m cid (drop from sdu)
  unfolding later_frames fills fill frame
  later_octets zero from e = sym (framed_nil m cid (drop from sdu) p (length-drop from sdu ∙ none_left (length sdu - from) m p e))
  later_octets (suc n) from e =
      let k = min m (length sdu - from) in
      let h = some_left (length sdu - from) m n p e in
      let q : length (part sdu from k) ≡ k = part_length sdu from k (omega arith) in
      sym (framed_turn m cid sdu from k p (omega arith) (omega arith) ∙ rw (q, later_octets n (from + k) (rest from n e)))

  later-sizes : (n from : ℕ) → n ≡ ceil (length sdu - from) m → sizes (later_frames cid m (length sdu) n from) ≡ length sdu - from + 4 * n
  unfolding later_frames sizes size
  later-sizes zero from e = let f = none_left (length sdu - from) m p e in omega arith
  later-sizes (suc n) from e =
      let h = some_left (length sdu - from) m n p e in
      let f = later-sizes n (from + min m (length sdu - from)) (rest from n e) in
      omega arith

pub frames-sizes : (cid m : ℕ) (sdu : List ℕ) → 2 ≤ m → (n : ℕ) → n ≡ frame_count (length sdu) m → sizes (frames cid m (length sdu) n) ≡ frames_length (length sdu) m
unfolding frames frames_length sizes size
frames-sizes cid m sdu w n count =
    let k = min (length sdu) (m - 2) in
    let g = count-first m (length sdu) k w refl in
    let f = later-sizes cid m sdu [] (omega arith) (n - 1) k (omega arith) in
    omega arith

pub frames_octets : (cid m : ℕ) (sdu room : List ℕ) → 2 ≤ m → (n : ℕ) → n ≡ frame_count (length sdu) m → fills itself sdu room (frames cid m (length sdu) n) ≡ frames_of cid m sdu
unfolding frames fills fill frame
frames_octets cid m sdu room w n count =
    let k = min (length sdu) (m - 2) in
    let q : length (take k sdu) ≡ k = length-take-le k sdu (omega arith) in
    let e : suc (suc k) ≡ k + 2 = omega arith in
    let f : n - 1 ≡ ceil (length sdu - k) m = (let g = count-first m (length sdu) k w refl in omega arith) in
    sym (framed-start m cid sdu k w refl ∙ rw (q, e, later_octets cid m sdu room (omega arith) (n - 1) k f))
