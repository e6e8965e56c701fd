-- Exact rejoining at the table (F), the receiving side: the frames of a job, as they come to a slot with other calls between them, leave that job
-- waiting there; a take then hands it out (Taking.antt). Rests on what one frame comes to (Join.antt) and on the jobs of a part (Waiting.antt).
use Rattle.std.specs.Prelude.{◌≡◌, true, ℕ, suc, ◌+◌, ◌-◌, ◌*◌, ◌≤◌, ◌<◌, take}
use mathlib.Core.List.{List, [], ◌∷◌, ◌++◌}
use Rattle.std.proofs.Math.ListN.{length}
use Rattle.octets.specs.Octets.{part, u16_at}
use Rattle.credit.specs.Account.{received}
use Rattle.sar_cut.specs.Cutting.{AllWithin}
use Rattle.sar_join.specs.Joining.{idle, join_step}
use Rattle.channel.specs.declared.Slot.{Slot}
use Rattle.channel.specs.declared.Table.{Table}
use Rattle.definition.specs.Mem.{Move, moves}
use Rattle.definition.specs.Table.{place_of, width, slot_at, is_connected, with_account, count_received, cid_of}
use Rattle.definition.specs.Outcome.{Outcome}
use Rattle.definition.specs.Calls.{Call, jobs}
use Rattle.definition.specs.Calls as Calls
use Rattle.definition.specs.Run.{State, after}
use Rattle.definition.specs.Frames.{joined}
use Rattle.rules.specs.Run.{Fits}
use Rattle.rules_portions.specs.Statement.{uncounted}
use Rattle.rules_jobs.specs.Waiting.{job_of}

-- ---- a slot's part of the room, and the jobs that wait in it

abbrev pub part_of : State → ℕ → List ℕ
part_of s i = part s.room (i * width s.table) (width s.table)

-- Job k of slot i, the oldest first.
abbrev pub job_at : State → ℕ → ℕ → List ℕ
job_at s i k = job_of (place_of s.table) (slot_at s.table i).queue (part_of s i) k

-- a call that changes slot i alone: the slot and its part after it
pub record Becomes (s : State) (a : Call) (i : ℕ) (y : Slot) (ms : List Move) : Type 0 where
  pub slot : slot_at (after s a).table i ≡ y
  pub room : part_of (after s a) i ≡ moves (λ x. x) (jobs s.table a) (part_of s i) ms

-- ---- a frame that comes to a Connected slot of its link, with a credit left

abbrev pub framing : (link i : ℕ) → List ℕ → Call
framing link i payload = Calls.frame link (cid_of i) payload

-- what the call is left to
abbrev pub Step-of : Table → (i : ℕ) → List ℕ → (k : ℕ) → Outcome
Step-of t i head k =
    let x = slot_at t i in
    joined t i (count_received (with_account (received x.account 1) x)) k (join_step x.mtu x.mps t.d x.assembly x.queue.count (length head + k) (u16_at head 0))

-- The receiver as document 01 asks it: Connected, on this link, with n credits and a free queue place.
pub record Receiver (s : State) (i link n : ℕ) : Type 0 where
  pub used : i < s.table.n
  pub on : is_connected (slot_at s.table i).state ≡ true
  pub own : (slot_at s.table i).link ≡ link
  pub credits : n ≤ (slot_at s.table i).account.credits
  pub place : (slot_at s.table i).queue.count < s.table.d

-- An assembly is open in its slot i: `done` stands in the place for assembly, of a job of `want` octets; these payloads are to come, none longer than our MPS; c jobs wait,
-- and are these.
pub record Open (s : State) (i link : ℕ) (ps : List (List ℕ)) (done : List ℕ) (want c : ℕ) (jobs : ℕ → List ℕ) : Type 0 where
  pub receiver : Receiver s i link (length ps)
  pub fits : AllWithin (slot_at s.table i).mps ps
  pub count : (slot_at s.table i).queue.count ≡ c
  pub assembly : (slot_at s.table i).assembly ≡ record { have = length done; want = want }
  pub there : take (length done) (part_of s i) ≡ done
  pub olds : (k : ℕ) → k < c → job_at s i k ≡ jobs k

-- The job sdu waits behind the c that waited, which are still these; no assembly is open.
pub record Rejoined (s : State) (i : ℕ) (sdu : List ℕ) (c : ℕ) (jobs : ℕ → List ℕ) : Type 0 where
  pub used : i < s.table.n
  pub on : is_connected (slot_at s.table i).state ≡ true
  pub count : (slot_at s.table i).queue.count ≡ suc c
  pub assembly : (slot_at s.table i).assembly ≡ idle
  pub whole : job_at s i c ≡ sdu
  pub olds : (k : ℕ) → k < c → job_at s i k ≡ jobs k

-- ---- the frames of a job, as they come

-- What is left of a job, in the payloads that carry it: all but the last leave some of it.
pub data Rest : List ℕ → List (List ℕ) → Type 0 where
  last : (p : List ℕ) → Rest p (p ∷ [])
  more : (p : List ℕ) {rest : List ℕ} {ps : List (List ℕ)} → 0 < length rest → Rest rest ps → Rest (p ++ rest) (p ∷ ps)

-- A call between two frames that leaves that slot, and its part of the room, unchanged; but for what is counted of it, as by a send that is refused by 14 between them.
pub record Unchanged (s s' : State) (i : ℕ) : Type 0 where
  pub slot : uncounted (slot_at s'.table i) ≡ uncounted (slot_at s.table i)
  pub room : part_of s' i ≡ part_of s i

-- From state s to state s' these payloads come, in this order, to slot i on its link; and other calls, that leave the slot unchanged (but for its tallies).
pub data Arrives (i link : ℕ) : List (List ℕ) → State → State → Type 0 where
  all : {s : State} → Arrives i link [] s s
  between : {ps : List (List ℕ)} {s s' : State} (a : Call) → Fits a → Unchanged s (after s a) i → Arrives i link ps (after s a) s' → Arrives i link ps s s'
  comes : {ps : List (List ℕ)} {s s' : State} (p : List ℕ) → Arrives i link ps (after s (framing link i p)) s' → Arrives i link (p ∷ ps) s s'
