-- Jobs handed over in portions: start, portion, cancel. Document 02 (i). "The sender states the SDU length first, gets n credits set aside, then gives
-- octets in portions of its choosing and takes frames as they fill." The frame that is being filled stands in a buffer that the caller lends for the
-- whole job; the table has the numbers alone. None of these sees a job octet: a portion comes as the number of its octets.
use Rattle.std.specs.Prelude.{Bool, false, ◌&&◌, ◌||◌, not, List, [], ◌∷◌, ℕ, ◌+◌, ◌-◌, min, eqb, ltb, None, Some, Result, Ok, Err}
use Rattle.codes.specs.declared.Refusal.TheVariants.{NoRoom, NotFound, ChannelClosed, JobOpen, WrongLength}
use Rattle.sar_cut.specs.declared.Framed.{Framed}
use Rattle.sar_cut.specs.Cutting.{frames_length, plan_send}
use Rattle.channel.specs.Limits.{frame_head}
use Rattle.channel.specs.declared.Answer.TheVariants.{Done, Frames, Portion}
use Rattle.channel.specs.declared.ChannelState.TheVariants.{Disconnecting}
use Rattle.channel.specs.declared.OpenJob.{OpenJob}
use Rattle.channel.specs.declared.Slot.{Slot}
use Rattle.channel.specs.declared.Table.{Table}
use Rattle.definition.specs.Mem.{Fill, given, job}
use Rattle.definition.specs.States.{is_connected}
use Rattle.definition.specs.Slots.{with_peer_credits, with_job, no_job, count_sent}
use Rattle.definition.specs.Table.{when◌then◌else◌, slot_at, is_open}
use Rattle.definition.specs.Outcome.{Outcome, change, filling, refuse, leaving, gate}
use Rattle.definition.specs.Frames.{header, first_header, unsent}
use Rattle.codes.specs.declared.Refusal.{Refusal}

-- ---- an open job. Its stream is the two octets of its length, then its own, as sar_cut has it; its frames are that stream's stretches.

-- The stream's octets that are in frames given out.
abbrev pub given_out : OpenJob → ℕ
given_out j = j.taken + 2 - j.filled

-- "the lesser of MPS and L+2": the octets of a job's longest payload
abbrev pub longest : (mps l : ℕ) → ℕ
longest mps l = min mps (l + 2)

-- "a buffer .. of 4 octets more"
abbrev pub buffer_size : (mps l : ℕ) → ℕ
buffer_size mps l = frame_head + longest mps l

-- The payload of the frame that is being filled, once it is full: MPS octets, or what is left of the stream.
abbrev pub frame_size : (mps : ℕ) → OpenJob → ℕ
frame_size mps j = min mps (j.length + 2 - given_out j)

-- ---- start

-- A job of l octets is open, n credits set aside for it: of its first frame the two octets of its length stand in the buffer.
abbrev pub begun : (l n : ℕ) → OpenJob
begun l n = record { length = l; taken = 0; filled = 2; aside = n }

-- What the plan of a send comes to for a start. "3 also for that buffer too short, last at the start". Its frames are counted at once, and no portion or cancel counts again or takes back.
unfoldable pub start_planned : Table → (slot : ℕ) → Slot → (l size : ℕ) → Result Framed Refusal → Outcome
start_planned t s x l size (Err r) = unsent t s x r
start_planned t s x l size (Ok framed) =
    let mps = x.peer.mps in
    when ltb size (buffer_size mps l) then refuse t NoRoom
    else filling t s (with_job (begun l framed.n) (count_sent framed.n (with_peer_credits (x.peer.credits - framed.n) x))) (Frames x.link framed.n) 0 (given (first_header x.peer.cid (longest mps l) l) ∷ []) 0

-- 11, 24, then a send's 12, 23, 20, 14: its plan, for an output that suffices. Behind the first refusals:
abbrev pub start_on : Table → (slot l size : ℕ) → Outcome
start_on t s l size =
    let x = slot_at t s in
    when not (is_connected x.state) then refuse t ChannelClosed
    else when is_open x.job then refuse t JobOpen
    else start_planned t s x l size (plan_send l x.peer.mtu x.peer.mps x.peer.credits (frames_length l x.peer.mps))

unfoldable pub start_job : Table → (slot l size : ℕ) → Outcome
start_job t s l size = gate t None None None (Some s) (start_on t s l size)

-- ---- portion: "A portion call stops where a frame fills, and reports that and the octets taken"

-- The octets that it takes, of so many that are given.
abbrev pub taking : (mps : ℕ) → OpenJob → (count : ℕ) → ℕ
taking mps j count = min count (frame_size mps j - j.filled)

-- Is the frame full then?
abbrev pub full_with : (mps : ℕ) → OpenJob → (count : ℕ) → Bool
full_with mps j count = eqb (j.filled + taking mps j count) (frame_size mps j)

-- The job after it. A frame that is given out uses one of the credits set aside. "The last frame closes the job": where the stream is out, or no credit is left.
abbrev pub filled_by : (mps : ℕ) → OpenJob → (count : ℕ) → OpenJob
filled_by mps j count =
    let taken = j.taken + taking mps j count in
    when not (full_with mps j count) then record { length = j.length; taken = taken; filled = j.filled + taking mps j count; aside = j.aside }
    else when eqb (given_out j + frame_size mps j) (j.length + 2) || eqb j.aside 1 then no_job
    else record { length = j.length; taken = taken; filled = 0; aside = j.aside - 1 }

-- Does a frame begin with this portion? Its header comes with its first octet, or with a frame that is given out empty.
abbrev pub begins : (mps : ℕ) → OpenJob → (count : ℕ) → Bool
begins mps j count = eqb j.filled 0 && (ltb 0 (taking mps j count) || full_with mps j count)

-- Where the portion's octets go: with the header, to the buffer's start; else behind those that stand there.
abbrev pub filled_from : (mps : ℕ) → OpenJob → (count : ℕ) → ℕ
filled_from mps j count = when begins mps j count then 0 else frame_head + j.filled

abbrev pub filled_with : (cid mps : ℕ) → OpenJob → (count : ℕ) → List Fill
filled_with cid mps j count =
    when begins mps j count then given (header cid (frame_size mps j)) ∷ job 0 (taking mps j count) ∷ []
    else job 0 (taking mps j count) ∷ []

-- The octets that are given out, from the buffer's start: the frame, where it is full.
abbrev pub frame_out : (mps : ℕ) → OpenJob → (count : ℕ) → ℕ
frame_out mps j count = when full_with mps j count then frame_head + frame_size mps j else 0

abbrev pub portioned : Table → (slot : ℕ) → Slot → (count : ℕ) → Outcome
portioned t s x count =
    let mps = x.peer.mps in
    filling t s (with_job (filled_by mps x.job count) x)
    (Portion x.link (taking mps x.job count) (full_with mps x.job count))
    (filled_from mps x.job count) (filled_with x.peer.cid mps x.job count) (frame_out mps x.job count)

-- 11; "8 for a portion or cancel with no job open, after 11"; "3 .. before 25 in a portion", the buffer held to the job; "25 WrongLength, for more octets
-- than stated, comes last and changes nothing". Behind the first refusals:
abbrev pub portion_on : Table → (slot count size : ℕ) → Outcome
portion_on t s count size =
    let x = slot_at t s in
    when not (is_connected x.state) then refuse t ChannelClosed
    else when not (is_open x.job) then refuse t NotFound
    else when ltb size (buffer_size x.peer.mps x.job.length) then refuse t NoRoom
    else when ltb (x.job.length - x.job.taken) count then refuse t WrongLength
    else portioned t s x count

unfoldable pub give_portion : Table → (slot count size : ℕ) → Outcome
give_portion t s count size = gate t None None None (Some s) (portion_on t s count size)

-- ---- cancel: "Cancelling before the first frame is given out returns the credits; later it turns Connected into Disconnecting"

abbrev pub returned : Slot → Slot
returned x = with_job no_job (with_peer_credits (x.peer.credits + x.job.aside) x)

abbrev pub cancel_on : Table → (slot : ℕ) → Outcome
cancel_on t s =
    let x = slot_at t s in
    when not (is_connected x.state) then refuse t ChannelClosed
    else when not (is_open x.job) then refuse t NotFound
    else when eqb (given_out x.job) 0 then change t s (returned x) [] Done []
    else leaving t s x (Disconnecting false) Done

unfoldable pub cancel_job : Table → (room slot : ℕ) → Outcome
cancel_job t room s = gate t (Some room) None None (Some s) (cancel_on t s)
