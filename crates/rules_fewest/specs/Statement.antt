-- FEWEST FRAMES, of what is sent: what is said of it (document 02 (x)). "Every frame costs air time and one credit." No list of payloads that carries the SDU to slot i's peer (`Carries`, crate
-- sar_fewest) has fewer members than a send gives out frames and takes credits. "This holds for the portioned sender of (i) too." The theorems are in Theorems.antt.
use Rattle.std.specs.Prelude.{◌≡◌, false, List, map, ℕ, ◌-◌, ◌≤◌, length, take}
use Rattle.sar_cut.specs.Cutting.{payloads, frame, joined}
use Rattle.sar_fewest.specs.Fewest.{Carries}
use Rattle.definition.specs.Table.{is_open}
use Rattle.definition.specs.Calls.{Window, sends}
use Rattle.definition.specs.Run.{State, lent, outcome, after}
use Rattle.rules_portions.specs.Statement.{slot_in, job_in, Delivery}

-- our frames of an SDU for the peer of slot i, as that stands in s
abbrev pub our_frames : State → (i : ℕ) (sdu : List ℕ) → List (List ℕ)
our_frames s i sdu = map (frame (slot_in s i).peer.cid) (payloads (slot_in s i).peer.mps sdu)

-- n is the least: no list that carries the SDU to that peer has fewer members
abbrev pub Least : State → (i : ℕ) (sdu : List ℕ) (n : ℕ) → Type 0
Least s i sdu n = (ps : List (List ℕ)) → Carries (slot_in s i).peer.mps sdu ps → n ≤ length ps

-- A SEND that is answered with n frames. (One is so answered only for a peer's MPS of at least 23 and an SDU of at most 65,533 octets.)
pub record SentFewest (s : State) (i : ℕ) (sdu : List ℕ) (v : Window) (n : ℕ) : Type 0 where
  pub octets : take (outcome s (sends i sdu v)).octets (lent v (after s (sends i sdu v)).memory) ≡ joined (our_frames s i sdu)
  pub count : length (our_frames s i sdu) ≡ n
  pub credits : (slot_in (after s (sends i sdu v)) i).peer.credits ≡ (slot_in s i).peer.credits - n
  pub fewest : Least s i sdu n
  pub told : n ≤ 65535  -- so two octets of an answer tell it

-- A JOB HANDED OVER IN PORTIONS. It was started with n frames on slot i, as that stood in s, and n is the least from then on; d are portions of it, and fs the frames that they gave out. Once it is closed
-- these are our frames of the whole job, n of them. (Which they are before its last, and how many are set aside: `SameFrames` of crate rules_portions.)
pub record GivenFewest (s : State) (i : ℕ) (sdu : List ℕ) (n : ℕ) {s₁ s' : State} {b₁ b' : List ℕ} {fs : List (List ℕ)} (d : Delivery i sdu s₁ b₁ s' b' fs) : Type 0 where
  pub frames : is_open (job_in s' i) ≡ false → fs ≡ our_frames s i sdu
  pub count : is_open (job_in s' i) ≡ false → length fs ≡ n
  pub fewest : Least s i sdu n
