-- Frames in, jobs out: frame in, send, take. Document 01, 'Cutting, joining, credits'. None of these sees a job octet: a frame comes
-- as its length octets (`head`) and the number of its job octets, a send as the number of octets of its SDU.
use Rattle.std.specs.Prelude.{Bool, false, ◌||◌, not, List, [], ◌∷◌, ◌++◌, ℕ, zero, suc, ◌+◌, ◌-◌, ◌*◌, min, eqb, ltb, length, get_or, set, drop, None, Option, Some, Result, Ok, Err}
use Rattle.octets.specs.Octets.{le16, u16_at}
use Rattle.codes.specs.declared.Refusal.{Refusal}
use Rattle.codes.specs.declared.Refusal.TheVariants.{InvalidChannelId, NotFound, OutOfMemory, ChannelClosed, InsufficientSpace, QueueFull, JobOpen}
use Rattle.credit.specs.Account.{received, granted, grant_of}
use Rattle.sar_join.specs.declared.Assembly.{Assembly}
use Rattle.sar_join.specs.declared.Joined.{Joined}
use Rattle.sar_join.specs.declared.Joined.TheVariants as Joined
use Rattle.sar_join.specs.Joining.{is_idle, idle, assembled, place, queue_at, join_step}
use Rattle.sar_cut.specs.declared.Framed.{Framed}
use Rattle.sar_cut.specs.Cutting.{plan_send}
use Rattle.signal_write.specs.Writer.{encode_of}
use Rattle.signal_forms.specs.declared.LeCreditFlowInd.{LeCreditFlowInd}
use Rattle.signal_forms.specs.declared.Signal.TheVariants as Signal
use Rattle.channel.specs.declared.Answer.TheVariants.{Done, Refused, Frames, Job}
use Rattle.channel.specs.declared.ChannelState.{ChannelState}
use Rattle.channel.specs.declared.ChannelState.TheVariants.{Disconnecting}
use Rattle.channel.specs.declared.Queue.{Queue}
use Rattle.channel.specs.declared.Slot.{Slot}
use Rattle.channel.specs.declared.Table.{Table}
use Rattle.definition.specs.Mem.{Fill, zeros, given, job, held, Move, put}
use Rattle.definition.specs.States.{is_disconnected, is_connecting, is_peer_connecting, is_connected, is_connect_failed}
use Rattle.definition.specs.Slots.{with_account, with_peer_credits, with_assembly, with_queue, count_sent, count_received, count_blocked_send, count_blocked_receive, blocks}
use Rattle.definition.specs.Table.{when◌then◌else◌, place_of, width, slot_at, is_open, cid_of, is_cid, slot_of, next_id, spent}
use Rattle.definition.specs.Outcome.{Outcome, change, handout, refuse, done, unassembled, leaving, gate}

-- ---- frame in

-- One more job waits. (It stands at `queue_at`, crate sar_join: behind the assembly place and the jobs that wait.)
abbrev pub queued : ℕ → Queue → Queue
queued len q = record { count = q.count + 1; lens = set q.lens q.count len }

-- In a slot's part, of places of that size, with that assembly and `queued` jobs waiting: a finished job at its place's start, what stood in
-- the assembly place, then this frame's octets. The assembly place of a joined job is zeroed; a first frame that is complete never touches it.
abbrev pub finish_moves : (size : ℕ) → Assembly → (queued count : ℕ) → List Move
finish_moves size a queued count =
    when is_idle a then put (queue_at size queued) (job 0 count) ∷ []
    else put (queue_at size queued) (held 0 a.have) ∷ put (queue_at size queued + a.have) (job 0 count) ∷ unassembled size ∷ []

-- What the join step (crate sar_join) moves there. (A refusal moves nothing by itself: the slot leaves Connected, which zeroes the assembly place.)
abbrev pub join_moves : (size : ℕ) → Assembly → (queued count : ℕ) → Result Joined Refusal → List Move
join_moves size a queued count (Err r) = []
join_moves size a queued count (Ok (Joined.Assembling b)) = put (assembled a) (job 0 count) ∷ []
join_moves size a queued count (Ok (Joined.Finished len)) = finish_moves size a queued count
join_moves size a queued count (Ok Joined.Dropped) = unassembled size ∷ []

abbrev pub moved : Table → Slot → (count : ℕ) → Result Joined Refusal → List Move
moved t x count j = join_moves (place_of t) x.assembly x.queue.count count j

abbrev pub finishing : Table → Slot → (count : ℕ) → List Move
finishing t x count = finish_moves (place_of t) x.assembly x.queue.count count

-- What the join step decided, for slot s as x, whose credit is used.
unfoldable pub joined : Table → (slot : ℕ) → Slot → (count : ℕ) → Result Joined Refusal → Outcome
joined t s x count (Err r) = leaving t s x (Disconnecting false) (Refused r)
joined t s x count (Ok (Joined.Assembling a)) = change t s (with_assembly a x) (moved t x count (Ok (Joined.Assembling a))) Done []
joined t s x count (Ok (Joined.Finished len)) = change t s (with_queue (queued len x.queue) (with_assembly idle x)) (moved t x count (Ok (Joined.Finished len))) Done []
joined t s x count (Ok Joined.Dropped) = change t s (with_assembly idle x) (moved t x count (Ok Joined.Dropped)) (Refused QueueFull) []

-- What the join step is told of a frame and of the slot that it comes to.
pub record Arrival : Type 0 where
  pub mtu : ℕ
  pub mps : ℕ
  pub depth : ℕ  -- D
  pub assembly : Assembly
  pub queued : ℕ  -- the jobs that wait
  pub payload : ℕ  -- how many octets came
  pub said : ℕ  -- what the length octets say

abbrev pub step_of : Arrival → Result Joined Refusal
step_of a = join_step a.mtu a.mps a.depth a.assembly a.queued a.payload a.said

abbrev pub arriving : Table → Slot → (head : List ℕ) (count : ℕ) → Arrival
arriving t x head count =
    record { mtu = x.mtu; mps = x.mps; depth = t.d; assembly = x.assembly; queued = x.queue.count; payload = length head + count; said = u16_at head 0 }

-- "Frame in (CID, payload): 7; not Connected: dropped, answer 0; another link's slot 8; no credit 10; one credit used." A frame longer than our MPS "gives 9 right
-- after the credit is used" (document 02): the join step's first test. A refusal by 10 is counted, and so is a frame whose credit is used.

-- Behind the first refusals.
abbrev pub admitted : Table → (link cid : ℕ) (head : List ℕ) (count : ℕ) → Outcome
admitted t link cid head count =
    let s = slot_of cid in
    let x = slot_at t s in
    when not (is_cid t cid) then refuse t InvalidChannelId
    else when not (is_connected x.state) then done t
    else when not (eqb x.link link) then refuse t NotFound
    else when eqb x.account.credits 0 then change t s (count_blocked_receive x) [] (Refused OutOfMemory) []
    else joined t s (count_received (with_account (received x.account 1) x)) count (step_of (arriving t x head count))

unfoldable pub dispatch : Table → (room link cid : ℕ) (head : List ℕ) (count : ℕ) → Outcome
dispatch t room link cid head count = gate t (Some room) None (Some link) None (admitted t link cid head count)

-- ---- send

-- The header of a K-frame: the payload's length, the channel (Core Vol 3 Part A 3.4.1). That of a job's first frame, and the SDU's length (3.4.2).
abbrev pub header : (cid p : ℕ) → List ℕ
header cid p = le16 p ++ le16 cid

abbrev pub first_header : (cid p l : ℕ) → List ℕ
first_header cid p l = le16 p ++ le16 cid ++ le16 l

-- The frames after the first: "the rest MPS each". n of them, from job octet `from` on, of l in all. Each is a header and its payload.
unfoldable pub later_frames : (cid mps l n from : ℕ) → List Fill
later_frames cid mps l zero from = []
later_frames cid mps l (suc n) from =
    let p = min mps (l - from) in
    given (header cid p) ∷ job from p ∷ later_frames cid mps l n (from + p)

-- "The first frame carries the SDU length and min(L, MPS-2) octets"
unfoldable pub frames : (cid mps l n : ℕ) → List Fill
frames cid mps l n =
    let p = min l (mps - 2) in
    given (first_header cid (p + 2) l) ∷ job 0 p ∷ later_frames cid mps l (n - 1) p

-- A send or a start that its plan refuses: "a refusal by 14 .. counts as blocked, and row[] 14 .. change[s] that tally" (document 02).
abbrev pub unsent : Table → (slot : ℕ) → Slot → Refusal → Outcome
unsent t s x r =
    when blocks r then change t s (count_blocked_send x) [] (Refused r) []
    else refuse t r

-- "On success peer credits fall by n." "A send adds n when its credits are taken".
unfoldable pub planned : Table → (slot : ℕ) → Slot → (l : ℕ) → Result Framed Refusal → Outcome
planned t s x l (Err r) = unsent t s x r
planned t s x l (Ok framed) = change t s (count_sent framed.n (with_peer_credits (x.peer.credits - framed.n) x)) [] (Frames x.link framed.n) (frames x.peer.cid x.peer.mps l framed.n)

-- "Send order: 11, 12, 23, 20, 14, 3", and 24, "for a second send while a job is open, comes after 11" (document 02). Of these 12 to 3 are the plan's (crate sar_cut). Behind the first refusals:
abbrev pub sent_on : Table → (slot l out : ℕ) → Outcome
sent_on t s l out =
    let x = slot_at t s in
    when not (is_connected x.state) then refuse t ChannelClosed
    else when is_open x.job then refuse t JobOpen
    else planned t s x l (plan_send l x.peer.mtu x.peer.mps x.peer.credits out)

unfoldable pub send : Table → (slot l out : ℕ) → Outcome
send t s l out = gate t None None None (Some s) (sent_on t s l out)

-- ---- take

-- "a take moves later jobs up one place"
abbrev pub shifted : Queue → Queue
shifted q = record { count = q.count - 1; lens = drop 1 q.lens ++ (0 ∷ []) }

-- Later places move up, and the last that was occupied is zeroed: in the part of a slot with so many jobs, in places of that size.
abbrev pub upwards : (size count : ℕ) → List Move
upwards size count = put (place size 1) (held (place size 2) ((count - 1) * size)) ∷ put (place size count) (zeros size) ∷ []

abbrev pub moving_up : Table → Slot → List Move
moving_up t x = upwards (place_of t) x.queue.count

-- Where slot s's oldest job stands in the room: in its place 1.
abbrev pub oldest_at : Table → (slot : ℕ) → ℕ
oldest_at t s = s * width t + place (place_of t) 1

-- How many octets it has.
abbrev pub oldest : Slot → ℕ
oldest x = get_or x.queue.lens 0 0

-- The oldest job is handed out, whole; x is the slot with its account as it is left.
abbrev pub handing : Table → (slot : ℕ) → Slot → List Fill → Outcome
handing t s x signal = handout t s (with_queue (shifted x.queue) x) (moving_up t x) (Job x.link (oldest x)) signal (held (oldest_at t s) (oldest x) ∷ [])

-- "Connected only: Every(k) grants all received when received ≥ k, MinThreshold(t) when credits < t, never 0 credits."
unfoldable pub grant_in : Slot → Option ℕ
grant_in x = when is_connected x.state then grant_of x.account else None

-- The signal that grants n credits to slot s's peer (Core Vol 3 Part A 4.24).
abbrev pub crediting : (slot n : ℕ) → LeCreditFlowInd
crediting s n = record { cid = cid_of s; credits = n }

unfoldable pub taken : Table → (slot : ℕ) → Slot → Option ℕ → Outcome
taken t s x None = handing t s x []
taken t s x (Some n) = handing (spent t) s (with_account (granted x.account n) x) (given (encode_of (next_id t) (Signal.LeCreditFlowInd (crediting s n))) ∷ [])

-- Row 11: "taking when free, connecting, pending or failed"
abbrev pub closed : ChannelState → Bool
closed k = is_disconnected k || (is_connecting k || (is_peer_connecting k || is_connect_failed k))

-- "no job waiting is reported as such .. and writes and grants nothing"; "A buffer shorter than the job should now be refused and the job kept for the next
-- call, with no credits granted .. 12 then stands after 11" (document 02). Behind the first refusals:
abbrev pub taken_on : Table → (slot size : ℕ) → Outcome
taken_on t s size =
    let x = slot_at t s in
    when closed x.state then refuse t ChannelClosed
    else when eqb x.queue.count 0 then done t
    else when ltb size (oldest x) then refuse t InsufficientSpace
    else taken t s x (grant_in x)

unfoldable pub receive : Table → (room signal slot size : ℕ) → Outcome
receive t room signal s size = gate t (Some room) (Some signal) None (Some s) (taken_on t s size)
