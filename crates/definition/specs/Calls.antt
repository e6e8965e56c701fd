-- All calls, and what is job and what is public in each (document 01, 'Slots': "Job octets are the SDU octets handed to a send, and a
-- frame's payload but for the two length octets of a frame that arrives with no assembly open"; document 02: a portion's octets, for its frame
-- buffer "counts as that link's sent job", and "portion lengths [are] public").
use Rattle.std.specs.Prelude.{Bool, false, ◌&&◌, not, List, [], ◌∷◌, ℕ, eqb, length, take, drop, Option}
use Rattle.lists.specs.Choose.{choose}
use Rattle.signal_forms.specs.declared.Signal.{Signal}
use Rattle.sar_join.specs.Joining.{is_idle}
use Rattle.channel.specs.declared.ChannelState.{ChannelState}
use Rattle.channel.specs.declared.ChannelState.TheVariants.{Disconnected, Connecting, PeerConnecting, Connected, ConnectFailed, PeerDisconnecting, Disconnecting}
use Rattle.channel.specs.declared.L2capChannelConfig.{L2capChannelConfig}
use Rattle.channel.specs.declared.Slot.{Slot}
use Rattle.channel.specs.declared.Table.{Table}
use Rattle.channel.specs.declared.Answer.TheVariants.{Done}
use Rattle.definition.specs.Mem.{given}
use Rattle.definition.specs.Table.{slot_at, is_cid, slot_of}
use Rattle.definition.specs.Outcome.{Outcome, still}
use Rattle.definition.specs.Pending.{next_pending, reject_all_pending, accept_pending, reject_read, drop_pending}
use Rattle.definition.specs.Opening.{create, opened, give_up}
use Rattle.definition.specs.Closing.{inc_ref, dec_ref, disconnect, disconnect_by_cid, disconnected, next_disconnect}
use Rattle.definition.specs.Signals.{signalled}
use Rattle.definition.specs.Frames.{dispatch, send, receive}
use Rattle.definition.specs.Portions.{start_job, give_portion, cancel_job}
use Rattle.definition.specs.Asking.{register_spsm, attention, query, send_signal}
use Rattle.codes.specs.declared.LeCreditConnResultCode.{LeCreditConnResultCode}

-- The part of the caller's memory that a call is lent: `size` octets from `from` on.
pub record Window : Type 0 where
  pub from : ℕ
  pub size : ℕ

-- The calls that carry no job octets in. (A take carries some out.)
pub data Request : Type 0 where
  register : (spsm : ℕ) → Request
  signals : (link : ℕ) (listening central : Bool) (pdu : List ℕ) → Request
  pends : (link : ℕ) (up : Bool) → Request
  rejects_all : (link : ℕ) → Request
  accepts : (slot : ℕ) → L2capChannelConfig → Request
  rejects : (slot : ℕ) → Option LeCreditConnResultCode → Request  -- a result code, or a number that is none
  drops : (slot : ℕ) → Request
  creates : (link spsm : ℕ) → L2capChannelConfig → Request
  opens : (slot link : ℕ) (up : Bool) → Request
  gives : (slot : ℕ) → Request
  holds : (slot : ℕ) → Request
  releases : (slot : ℕ) → Request
  leaves : (slot : ℕ) → Request
  leaves_cid : (cid : ℕ) → Request
  announces : Request
  takes : (slot : ℕ) → Request
  starts : (slot length : ℕ) → Request  -- its output is the job's frame buffer
  cancels : (slot : ℕ) → Request
  attends : Request
  asks : (of : Slot → ℕ) (slot : ℕ) → Request
  sends_signal : (link : ℕ) → Signal → Request
  writes : (octets : List ℕ) → Request  -- no call: the caller writes into its own memory

pub data Call : Type 0 where
  frame : (link cid : ℕ) (payload : List ℕ) → Call
  sends : (slot : ℕ) (sdu : List ℕ) (out : Window) → Call
  portions : (slot : ℕ) (octets : List ℕ) (out : Window) → Call  -- the job's frame buffer
  down : (link : ℕ) → Call
  plain : Request → (out job : Window) → Call  -- the signal buffer, and a take's job buffer

-- ---- what is job, what is public

-- Is an assembly open in the slot that the CID names?
abbrev pub joining : Table → (cid : ℕ) → Bool
joining t cid = is_cid t cid && not (is_idle (slot_at t (slot_of cid)).assembly)

-- The length octets of a frame: its first two, where no assembly is open.
abbrev pub head_of : Table → (cid : ℕ) (payload : List ℕ) → List ℕ
head_of t cid payload = choose (joining t cid) [] (take 2 payload)

-- The job octets of a call.
unfoldable pub jobs : Table → Call → List ℕ
jobs t (frame link cid payload) = choose (joining t cid) payload (drop 2 payload)
jobs t (sends s sdu out) = sdu
jobs t (portions s octets out) = octets
jobs t (down link) = []
jobs t (plain r out job) = []

-- The call with its job octets taken out.
unfoldable pub bare : Table → Call → Call
bare t (frame link cid payload) = frame link cid (head_of t cid payload)
bare t (sends s sdu out) = sends s [] out
bare t (portions s octets out) = portions s [] out
bare t (down link) = down link
bare t (plain r out job) = plain r out job

-- Frame in, from its payload.
abbrev pub frame_in : Table → (room link cid : ℕ) (payload : List ℕ) → Outcome
frame_in t room link cid payload = dispatch t room link cid (head_of t cid payload) (length (jobs t (frame link cid payload)))

-- ---- whose they are

-- Who has a slot: nobody, or a link.
pub data Holder : Type 0 where
  nobody : Holder
  by : ℕ → Holder

abbrev pub holder_in : ChannelState → ℕ → Holder
holder_in Disconnected l = nobody
holder_in (Connecting i) l = by l
holder_in (PeerConnecting i) l = by l
holder_in Connected l = by l
holder_in (ConnectFailed c) l = by l
holder_in (PeerDisconnecting i) l = by l
holder_in (Disconnecting a) l = by l

abbrev pub holder : Slot → Holder
holder x = holder_in x.state x.link

abbrev pub is_by : ℕ → Holder → Bool
is_by k nobody = false
is_by k (by l) = eqb k l

-- The link that the frame came on; the link of the slot that is sent on, or whose job a portion is.
unfoldable pub carrier : Table → Call → Holder
carrier t (frame link cid payload) = by link
carrier t (sends s sdu out) = holder (slot_at t s)
carrier t (portions s octets out) = holder (slot_at t s)
carrier t (down link) = nobody
carrier t (plain r out job) = nobody

-- Whose slot a request takes a job from: a take alone does.
abbrev pub taken_from : Table → Request → Holder
taken_from t (register spsm) = nobody
taken_from t (signals link listening central pdu) = nobody
taken_from t (pends link up) = nobody
taken_from t (rejects_all link) = nobody
taken_from t (accepts s c) = nobody
taken_from t (rejects s result) = nobody
taken_from t (drops s) = nobody
taken_from t (creates link spsm c) = nobody
taken_from t (opens s link up) = nobody
taken_from t (gives s) = nobody
taken_from t (holds s) = nobody
taken_from t (releases s) = nobody
taken_from t (leaves s) = nobody
taken_from t (leaves_cid cid) = nobody
taken_from t announces = nobody
taken_from t (takes s) = holder (slot_at t s)
taken_from t (starts s l) = nobody
taken_from t (cancels s) = nobody
taken_from t attends = nobody
taken_from t (asks of s) = nobody
taken_from t (sends_signal link s) = nobody
taken_from t (writes octets) = nobody

-- Whose frames a call writes to its output: a send and a portion do.
abbrev pub frames_out : Table → Call → Holder
frames_out t (frame link cid payload) = nobody
frames_out t (sends s sdu out) = holder (slot_at t s)
frames_out t (portions s octets out) = holder (slot_at t s)
frames_out t (down link) = nobody
frames_out t (plain r out job) = nobody

-- Whose job it writes to its job buffer: a take alone does.
abbrev pub job_out : Table → Call → Holder
job_out t (frame link cid payload) = nobody
job_out t (sends s sdu out) = nobody
job_out t (portions s octets out) = nobody
job_out t (down link) = nobody
job_out t (plain r out job) = taken_from t r

-- ---- all calls. `count` is the number of job octets, `room` the room's length, `out` and `job` those of the lent buffers.

unfoldable pub serve : Table → Request → (room out job : ℕ) → Outcome
serve t (register spsm) room out job = register_spsm t spsm
serve t (signals link listening central pdu) room out job = signalled t room out link listening central pdu
serve t (pends link up) room out job = next_pending t link up
serve t (rejects_all link) room out job = reject_all_pending t room out link
serve t (accepts s c) room out job = accept_pending t out s c
serve t (rejects s result) room out job = reject_read t room out s result
serve t (drops s) room out job = drop_pending t room s
serve t (creates link spsm c) room out job = create t out link spsm c
serve t (opens s link up) room out job = opened t room s link up
serve t (gives s) room out job = give_up t room s
serve t (holds s) room out job = inc_ref t s
serve t (releases s) room out job = dec_ref t room s
serve t (leaves s) room out job = disconnect t room s
serve t (leaves_cid cid) room out job = disconnect_by_cid t room cid
serve t announces room out job = next_disconnect t room out
serve t (takes s) room out job = receive t room out s job
serve t (starts s l) room out job = start_job t s l out
serve t (cancels s) room out job = cancel_job t room s
serve t attends room out job = attention t
serve t (asks of s) room out job = query of t s
serve t (sends_signal link s) room out job = send_signal t out link s
serve t (writes octets) room out job = still t Done (given octets ∷ [])

unfoldable pub decide : Table → Call → (count room out job : ℕ) → Outcome
decide t (frame link cid head) count room out job = dispatch t room link cid head count
decide t (sends s sdu w) count room out job = send t s count out
decide t (portions s octets w) count room out job = give_portion t s count out
decide t (down link) count room out job = disconnected t room link
decide t (plain r w v) count room out job = serve t r room out job
