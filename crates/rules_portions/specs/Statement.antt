-- A JOB HANDED OVER IN PORTIONS: what is said of it (document 02 (i)). "The same frames, demand 3 and (x) are promised where each open job has a buffer of its
-- own, which every portion gets as that job's last call left it; the caller sees to that. Cutting the portions elsewhere gives the same frames as one
-- send." The theorems are in Theorems.antt, for a start that was answered with n frames in s and left s₁ and, in its buffer, b₁; what they say is here, over calls and runs of the definition (Calls.antt, Run.antt).
use Rattle.std.specs.Prelude.{◌≡◌, Bool, true, false, List, [], ◌∷◌, ◌++◌, ℕ, zero, suc, ◌+◌, ◌-◌, ◌*◌, ◌≤◌, ◌<◌, length, get_or, take, None, Ok, Some}
use Rattle.lists.specs.Choose.{choose}
use Rattle.octets.specs.Octets.{part, le16}
use Rattle.sar_cut.specs.Cutting.{frames_length, frame, joined, frame_at, frames_of}
use Rattle.channel.specs.Limits.{frame_head}
use Rattle.channel.specs.declared.Answer.TheVariants.{Frames, Portion}
use Rattle.channel.specs.declared.ChannelState.TheVariants.{Disconnecting}
use Rattle.channel.specs.declared.OpenJob.{OpenJob}
use Rattle.channel.specs.declared.Slot.{Slot}
use Rattle.channel.specs.declared.Table.{Table}
use Rattle.definition.specs.Slots.{with_peer_credits, with_job, with_tallies, no_job, no_tallies, count_sent, left}
use Rattle.definition.specs.Table.{slot_at, is_connected, is_open}
use Rattle.definition.specs.Outcome.{verdict}
use Rattle.definition.specs.Portions.{buffer_size, begun}
use Rattle.definition.specs.Calls.{Window, Call, sends, portions, plain, starts, cancels}
use Rattle.definition.specs.Run.{State, lent, nowhere, outcome, after}

-- ---- the calls of one job, on slot i

abbrev pub slot_in : State → ℕ → Slot
slot_in s i = slot_at s.table i

abbrev pub job_in : State → ℕ → OpenJob
job_in s i = (slot_in s i).job

-- its start, with the length alone, and its cancel
abbrev pub starting : (i l : ℕ) → Window → Call
starting i l w = plain (starts i l) w nowhere

abbrev pub cancelling : ℕ → Call
cancelling i = plain (cancels i) nowhere nowhere

-- A portion: the next c octets of what was not yet taken, or as many as there are. So what a call did not take is given again, and c may be 0.
abbrev pub portion_of : State → (i : ℕ) (sdu : List ℕ) → Window → (c : ℕ) → Call
portion_of s i sdu w c = portions i (part sdu (job_in s i).taken c) w

-- what it leaves in the buffer
abbrev pub buffer_left : State → (i : ℕ) (sdu : List ℕ) → Window → (c : ℕ) → List ℕ
buffer_left s i sdu w c = lent w (after s (portion_of s i sdu w c)).memory

-- ---- the caller's part

-- The job's last call left s, and b in its buffer; its next portion comes in u, lent w. Between them any calls may come, on this slot too, and the caller may
-- write: as long as the job is open still, to the same peer, and the buffer that is lent, wherever it stands and however long it is beyond what the job needs, has the frame that is
-- being filled as it was left. (What stands behind that makes no difference, nor does anything where no frame is begun.) The buffer is what the
-- caller sees to: job, CID and MPS stay in every run while the slot is Connected and no start, portion or cancel comes on it (`handed_on` of crate rules_steps, Between.antt).
pub record HandedOn (i : ℕ) (s : State) (b : List ℕ) (u : State) (w : Window) : Type 0 where
  pub job : job_in u i ≡ job_in s i
  pub cid : (slot_in u i).peer.cid ≡ (slot_in s i).peer.cid
  pub mps : (slot_in u i).peer.mps ≡ (slot_in s i).peer.mps
  pub size : buffer_size (slot_in s i).peer.mps (job_in s i).length ≤ length (lent w u.memory)
  pub frame : 0 < (job_in s i).filled → take (frame_head + (job_in s i).filled) (lent w u.memory) ≡ take (frame_head + (job_in s i).filled) b

-- The portions of a job, cut anywhere: from s, with b in the buffer, to s' and b'. `fs` are the frames that were given out, in order: each is what a
-- portion that reports a full frame gives out of the buffer's start.
pub data Delivery (i : ℕ) (sdu : List ℕ) : (s : State) (b : List ℕ) (s' : State) (b' : List ℕ) → List (List ℕ) → Type 0 where
  rest : {s : State} {b : List ℕ} → Delivery i sdu s b s b []
  portion : {s u s' : State} {b b' : List ℕ} {fs : List (List ℕ)} (w : Window) (c link taken : ℕ) (full : Bool) → HandedOn i s b u w
      → (outcome u (portion_of u i sdu w c)).answer ≡ Portion link taken full
      → Delivery i sdu (after u (portion_of u i sdu w c)) (buffer_left u i sdu w c) s' b' fs
      → Delivery i sdu s b s' b' (choose full (take (outcome u (portion_of u i sdu w c)).octets (buffer_left u i sdu w c) ∷ []) [] ++ fs)

-- A slot, but for what is counted of it.
abbrev pub uncounted : Slot → Slot
uncounted x = with_tallies no_tallies x

-- No other call changed the slot between, but for its tallies: a frame that is refused by 10 may come. (What the calls of a job add to the tallies: crate rules_tallies.)
unfoldable pub Alone : {i : ℕ} {sdu : List ℕ} {s s' : State} {b b' : List ℕ} {fs : List (List ℕ)} → Delivery i sdu s b s' b' fs → Type 0
Alone rest = Unit {0}
Alone {i} {sdu} {s} (portion {u = u} w c link taken full h a d) = (uncounted (slot_in u i) ≡ uncounted (slot_in s i)) × Alone d

-- Nor did another call count there: at each portion its tallies are what the job's call before it left.
unfoldable pub Silent : {i : ℕ} {sdu : List ℕ} {s s' : State} {b b' : List ℕ} {fs : List (List ℕ)} → Delivery i sdu s b s' b' fs → Type 0
Silent rest = Unit {0}
Silent {i} {sdu} {s} (portion {u = u} w c link taken full h a d) = ((slot_in u i).tallies ≡ (slot_in s i).tallies) × Silent d

-- how many portions there were, and how many of an octet or more
unfoldable pub calls : {i : ℕ} {sdu : List ℕ} {s s' : State} {b b' : List ℕ} {fs : List (List ℕ)} → Delivery i sdu s b s' b' fs → ℕ
calls rest = 0
calls (portion w c link taken full h a d) = suc (calls d)

unfoldable pub somes : {i : ℕ} {sdu : List ℕ} {s s' : State} {b b' : List ℕ} {fs : List (List ℕ)} → Delivery i sdu s b s' b' fs → ℕ
somes rest = 0
somes (portion w zero link taken full h a d) = somes d
somes (portion w (suc c) link taken full h a d) = suc (somes d)

-- ---- a portion that comes

-- The first refusals let a call on slot i through, and the slot is Connected.
pub record Admits (t : Table) (i : ℕ) : Type 0 where
  pub passes : verdict t None None None (Some i) ≡ Ok tt
  pub on : is_connected (slot_at t i).state ≡ true

-- It is answered 0, and where it has an octet or more (of a job that has any) it takes at least one.
pub record Goes (u : State) (i : ℕ) (sdu : List ℕ) (w : Window) (c : ℕ) : Type 0 where
  pub taken : ℕ
  pub full : Bool
  pub answered : (outcome u (portion_of u i sdu w c)).answer ≡ Portion (slot_in u i).link taken full
  pub some : 0 < c → 0 < length sdu → 0 < taken

-- ---- what is said of a start

-- A START ANSWERS AS A SEND: the same n, with any buffer that is long enough; and a send as the start, with any output that suffices. Of the slot a start changes
-- the peer's credits, n fewer, the job, and the frames sent, n more: it is then as the send leaves it, but for the job.
pub record AsSend (s : State) (i : ℕ) (sdu : List ℕ) : Type 0 where
  pub starts : (w v : Window) (link n : ℕ) → (outcome s (sends i sdu v)).answer ≡ Frames link n → buffer_size (slot_in s i).peer.mps (length sdu) ≤ length (lent w s.memory)
      → (outcome s (starting i (length sdu) w)).answer ≡ Frames link n
  pub sends : (w v : Window) (link n : ℕ) → (outcome s (starting i (length sdu) w)).answer ≡ Frames link n → frames_length (length sdu) (slot_in s i).peer.mps ≤ length (lent v s.memory)
      → (outcome s (sends i sdu v)).answer ≡ Frames link n
  pub slot : (w : Window) (link n : ℕ) → (outcome s (starting i (length sdu) w)).answer ≡ Frames link n
      → slot_in (after s (starting i (length sdu) w)) i ≡ with_job (begun (length sdu) n) (count_sent n (with_peer_credits ((slot_in s i).peer.credits - n) (slot_in s i)))

-- ---- what is said of portions. A job of n frames was started on slot i, as it stood in s; d are portions of it.

-- Frames k, k+1, .. of a job, c of them (crate sar_cut, `frame_at`).
unfoldable pub frames_from : (cid mps : ℕ) (sdu : List ℕ) (k c : ℕ) → List (List ℕ)
frames_from cid mps sdu k zero = []
frames_from cid mps sdu k (suc c) = frame_at cid mps sdu k ∷ frames_from cid mps sdu (suc k) c

module _ (s : State) (i : ℕ) (sdu : List ℕ) (n : ℕ) {s₁ s' : State} {b₁ b' : List ℕ} {fs : List (List ℕ)} (d : Delivery i sdu s₁ b₁ s' b' fs) where
  -- THE SAME FRAMES
  pub record SameFrames : Type 0 where
    -- at any moment the frames given out are the job's first, whatever octets follow, and each has used one credit of those set aside
    pub first : fs ≡ frames_from (slot_in s i).peer.cid (slot_in s i).peer.mps sdu 0 (length fs)
    pub aside : (job_in s' i).aside + length fs ≡ n
    -- once the job is closed, they are all its frames: one after the other, what one send from s gives out at its output's start
    pub whole : is_open (job_in s' i) ≡ false → joined fs ≡ frames_of (slot_in s i).peer.cid (slot_in s i).peer.mps sdu
    pub octets : is_open (job_in s' i) ≡ false → (v : Window) (link : ℕ) → (outcome s (sends i sdu v)).answer ≡ Frames link n
        → joined fs ≡ take (outcome s (sends i sdu v)).octets (lent v (after s (sends i sdu v)).memory)
    -- and with no other call on it the slot is then, but for its tallies, as that send leaves it (no job was open before: all its numbers were 0)
    pub slot : is_open (job_in s' i) ≡ false → Alone d → job_in s i ≡ no_job → (v : Window) (link : ℕ) → (outcome s (sends i sdu v)).answer ≡ Frames link n
        → uncounted (slot_in s' i) ≡ uncounted (slot_in (after s (sends i sdu v)) i)

  -- ITS OWN OCTETS: frame k is a header and the k-th stretch of the job's length and octets. So whatever the buffer and the memory had before, no octet of another
  -- job or link is in it. This needs the caller's part; demand 3 on memory (crate isolation) doesn't, as an octet that a call doesn't write keeps its mark.
  abbrev pub OwnOctets : Type 0
  OwnOctets = (k : ℕ) → k < length fs → get_or fs k [] ≡ frame (slot_in s i).peer.cid (part (le16 (length sdu) ++ sdu) (k * (slot_in s i).peer.mps) (slot_in s i).peer.mps)

  -- THE TALLIES. Portions count nothing: a start has counted what the send counts. So where no other call counts on the slot either, its tallies stay; and with no other call on it at all
  -- the slot of a closed job is as the send leaves it, tallies too.
  pub record Tallied : Type 0 where
    pub stay : Silent d → (slot_in s' i).tallies ≡ (slot_in s₁ i).tallies
    pub slot : is_open (job_in s' i) ≡ false → Alone d → Silent d → job_in s i ≡ no_job → (v : Window) (link : ℕ) → (outcome s (sends i sdu v)).answer ≡ Frames link n
        → slot_in s' i ≡ slot_in (after s (sends i sdu v)) i

  -- CREDITS. With no other call on the slot, portions change, but for its tallies, its job alone: what is left of the peer's credits, what is set aside and the frames given out are
  -- together the credits before the start.
  pub record Credits : Type 0 where
    pub slot : Alone d → uncounted (slot_in s' i) ≡ uncounted (with_job (job_in s' i) (with_peer_credits ((slot_in s i).peer.credits - n) (slot_in s i)))
    pub sum : Alone d → (slot_in s' i).peer.credits + (job_in s' i).aside + length fs ≡ (slot_in s i).peer.credits

  -- A CANCEL that is answered 0, in u, where the job is as d left it
  pub record Cancelled (u : State) : Type 0 where
    -- before the first frame: exactly n credits come back, and nothing that was counted is taken back; with no other call on the slot it is, but for its tallies, the slot before the start
    pub before : fs ≡ [] → slot_in (after u (cancelling i)) i ≡ with_job no_job (with_peer_credits ((slot_in u i).peer.credits + n) (slot_in u i))
    pub undone : fs ≡ [] → Alone d → uncounted (slot_in u i) ≡ uncounted (slot_in s' i) → job_in s i ≡ no_job → uncounted (slot_in (after u (cancelling i)) i) ≡ uncounted (slot_in s i)
    -- later: it leaves Connected, and none comes back
    pub later : 0 < length fs → slot_in (after u (cancelling i)) i ≡ left (Disconnecting false) (slot_in u i)

  -- IT ENDS
  pub record Ends : Type 0 where
    -- an open job of one octet or more lacks some; so at most L portions of one octet or more close it, however they are cut; and one portion closes a job of 0 octets
    pub lacks : is_open (job_in s' i) ≡ true → 0 < length sdu → (job_in s' i).taken < length sdu
    pub ends : 0 < length sdu → length sdu ≤ somes d → is_open (job_in s' i) ≡ false
    pub empty : length sdu ≡ 0 → 0 < calls d → is_open (job_in s' i) ≡ false
    -- and there is no state in which it is stuck
    pub goes : (u : State) (w : Window) → HandedOn i s' b' u w → Admits u.table i → is_open (job_in s' i) ≡ true → (c : ℕ) → Goes u i sdu w c
