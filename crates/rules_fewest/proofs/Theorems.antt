-- FEWEST FRAMES, of what is sent: the theorems. What they say is on the page Statement.antt. They rest on the theorem over lists of payloads (crate sar_fewest), on what an answer of n frames tells,
-- and on the same frames of a job in portions (crate rules_portions).
use Rattle.std.specs.Prelude.{◌≡◌, false, List, ℕ, ◌-◌, ◌*◌, ◌≤◌, length}
use Rattle.std.proofs.Common.{sym, ◌∙◌, mul-le-mul_left, arith, ltb-false}
use Rattle.std.proofs.Math.Path.{ap}
use Rattle.std.proofs.lemmas.List.{length-map}
use Rattle.codes.specs.Limits.{size_least}
use Rattle.sar_cut.specs.Cutting.{frame_count, payloads, frame, frames_of, longest_job}
use Rattle.sar_cut.proofs.CutLaws.{count-holds}
use Rattle.sar_frames.specs.Theorems.{cut}
use Rattle.sar_fewest.proofs.Theorems.{fewest}
use Rattle.channel.specs.declared.Answer.TheVariants.{Frames}
use Rattle.channel.specs.declared.Slot.{Slot}
use Rattle.definition.specs.Table.{is_open}
use Rattle.definition.specs.Calls.{Window, sends, jobs, bare, serve, decide}
use Rattle.definition.specs.Run.{State, lent, outcome, after}
use Rattle.rules_portions.specs.Statement.{slot_in, job_in, starting, Delivery, frames_from}
use Rattle.rules_portions.proofs.Answered.{send_sends, start_starts}
use Rattle.rules_portions.proofs.Theorems.{sent_octets_lem, sent-slot, frames_all, same-frames}
use Rattle.rules_fewest.specs.Statement.{our_frames, Least, SentFewest, GivenFewest}

-- ---- from the count that an answer tells

module _ (s : State) (i : ℕ) (sdu : List ℕ) (n : ℕ) (wide : size_least ≤ (slot_in s i).peer.mps) (count : n ≡ frame_count (length sdu) (slot_in s i).peer.mps) where
  counted : length (our_frames s i sdu) ≡ n
  counted = length-map (payloads (slot_in s i).peer.mps sdu) (frame (slot_in s i).peer.cid) ∙ (cut (slot_in s i).peer.mps 0 sdu (omega arith)).count ∙ sym count

  least : Least s i sdu n
  least ps c =
      let f = (fewest (slot_in s i).peer.mps sdu (omega arith)).fewest ps c in
      let k = (cut (slot_in s i).peer.mps 0 sdu (omega arith)).count in
      omega arith

-- so few that two octets of an answer tell them
few : (l mps n : ℕ) → l ≤ longest_job → size_least ≤ mps → n ≡ frame_count l mps → n ≤ 65535
few l mps n short wide count =
    let c = count-holds l mps (omega arith) in
    let q = c.needed in
    let p : (frame_count l mps - 1) * 1 ≤ (frame_count l mps - 1) * mps = mul-le-mul_left (frame_count l mps - 1) (omega arith) in
    omega arith

-- A SEND
pub sent_fewest : (s : State) (i : ℕ) (sdu : List ℕ) (v : Window) (link n : ℕ) → (outcome s (sends i sdu v)).answer ≡ Frames link n → SentFewest s i sdu v n
unfolding decide bare jobs frames_of
sent_fewest s i sdu v link n a =
    let z = (send_sends s.table i (length sdu) (length (lent v s.memory)) link n a).allowed in
    record { octets = sent_octets_lem s i sdu v link n a; count = counted s i sdu n z.wide z.frames; credits = ap (λ (x : Slot). x.peer.credits) (sent-slot s i sdu v link n a); fewest = least s i sdu n z.wide z.frames; told = few (length sdu) (slot_in s i).peer.mps n z.short z.wide z.frames }

-- A JOB HANDED OVER IN PORTIONS
module _ (s : State) (i : ℕ) (sdu : List ℕ) (w : Window) (link n : ℕ) (a : (outcome s (starting i (length sdu) w)).answer ≡ Frames link n) where
  abbrev s₁ : State
  s₁ = after s (starting i (length sdu) w)

  module _ {s' : State} {b' : List ℕ} {fs : List (List ℕ)} (d : Delivery i sdu s₁ (lent w s₁.memory) s' b' fs) where
    all_given : is_open (job_in s' i) ≡ false → length fs ≡ n
    all_given shut =
        let none = ltb-false 0 (job_in s' i).aside shut in
        let e = (same-frames s i sdu w link n a d).aside in
        omega arith

    pub given_fewest : GivenFewest s i sdu n d
    unfolding decide bare jobs serve
    given_fewest =
        let z = (start_starts s.table i (length sdu) (length (lent w s.memory)) link n a).allowed in
        let cid = (slot_in s i).peer.cid in
        let mps = (slot_in s i).peer.mps in
        record {
          frames = λ shut. (same-frames s i sdu w link n a d).first ∙ ap (frames_from cid mps sdu 0) (all_given shut ∙ z.frames) ∙ frames_all cid mps sdu;
          count = all_given;
          fewest = least s i sdu n z.wide z.frames;
        }
