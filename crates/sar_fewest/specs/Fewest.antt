-- FEWEST FRAMES: what is said of how a job is cut (document 02 (x)). "No list of K-frames with payloads within that MPS, whose payloads joined are the length octets and then the SDU, has
-- fewer frames than ours." The theorem is in Theorems.antt, for every SDU and every MPS but 0; an MPS of at least 23 and an SDU of at most 65,533 octets are those that a send takes.
use Rattle.std.specs.Prelude.{◌≡◌, List, [], ◌∷◌, ℕ, ◌≤◌, ◌<◌, length}
use Rattle.sar_cut.specs.Cutting.{stream, payloads, AllWithin, joined}

-- A list of payloads that carries a job. It is any list: some may be empty, the first may hold less than the length octets, and it may be cut anywhere.
pub record Carries (mps : ℕ) (sdu : List ℕ) (ps : List (List ℕ)) : Type 0 where
  pub within : AllWithin mps ps
  pub whole : joined ps ≡ stream sdu

-- Each payload but the last, each that another follows, is full.
abbrev pub FullButLast : (mps : ℕ) → List (List ℕ) → Type 0
FullButLast mps [] = Unit {0}
FullButLast mps (p ∷ ps) = (0 < length ps → length p ≡ mps) × FullButLast mps ps

-- Ours carries the job; no list that does has fewer; and of those that have as few, ours is the one, and the only one, in which each payload but the last is full.
pub record Fewest (mps : ℕ) (sdu : List ℕ) : Type 0 where
  pub ours : Carries mps sdu (payloads mps sdu)
  pub fewest : (ps : List (List ℕ)) → Carries mps sdu ps → length (payloads mps sdu) ≤ length ps
  pub full : FullButLast mps (payloads mps sdu)
  pub only : (ps : List (List ℕ)) → Carries mps sdu ps → length ps ≡ length (payloads mps sdu) → FullButLast mps ps → ps ≡ payloads mps sdu
