-- WHAT AN ANSWER HANGS ON, two laws. What a call that names a link answers, writes and leaves hangs on that link's own slots and on the free
-- ones alone; what a call that names a slot does, on that slot alone. Each says: two tables that agree there, and may differ in all other
-- slots, are told apart by no such call, nor by what it leaves of those slots. Of every call, with every size, on every table that has its N
-- slots; so of every call of every run. Proved in Linked.antt and Named.antt.
use Rattle.std.specs.Prelude.{◌≡◌, Bool, List, ℕ, ◌+◌, ◌<◌, length, Option}
use Rattle.channel.specs.Limits.{cid_base}
use Rattle.channel.specs.declared.ChannelState.{ChannelState}
use Rattle.channel.specs.declared.ChannelState.TheVariants.{Disconnected, Connected}
use Rattle.channel.specs.declared.L2capChannelConfig.{L2capChannelConfig}
use Rattle.channel.specs.declared.Slot.{Slot}
use Rattle.channel.specs.declared.Table.{Table}
use Rattle.definition.specs.Table.{slot_at, well_formed}
use Rattle.definition.specs.Outcome.{Outcome}
use Rattle.definition.specs.Calls.{Window, Call, frame, sends, portions, plain, accepts, rejects, drops, opens, gives, holds, releases, leaves, leaves_cid, takes, starts, cancels, asks, by, jobs, bare, decide}
use Rattle.definition.specs.Apart.{called_by}
use Rattle.definition.specs.Forms.{Fit}
use Rattle.rules_slots.specs.Words.{Free, Of}
use Rattle.codes.specs.declared.LeCreditConnResultCode.{LeCreditConnResultCode}

-- What a call comes to on a table; room, out and job are the sizes of what it is lent.
abbrev pub called : Table → Call → (room out job : ℕ) → Outcome
called t c room out job = decide t (bare t c) (length (jobs t c)) room out job

-- Two outcomes are the same: the answer, what is moved in the room, what is written to the signal buffer, frame output or job's frame buffer and
-- from where on, how many octets are given out there, what is written to the job buffer, and the identifier that comes next. (Moved and written are octets, and places of the call's job and of the slot's own part of the room:
-- Mem.antt of crate definition.)
pub record Same (o p : Outcome) : Type 0 where
  pub answer : o.answer ≡ p.answer
  pub parts : o.parts ≡ p.parts
  pub at : o.at ≡ p.at
  pub out : o.out ≡ p.out
  pub octets : o.octets ≡ p.octets
  pub job : o.job ≡ p.job
  pub identifier : o.table.identifier ≡ p.table.identifier

-- Two tables of the same sizes, with the same next identifier. Both are well formed, or neither (then every call answers 1).
pub record Alike (t u : Table) : Type 0 where
  pub n : u.n ≡ t.n
  pub d : u.d ≡ t.d
  pub m : u.m ≡ t.m
  pub identifier : u.identifier ≡ t.identifier
  pub formed : well_formed u ≡ well_formed t

-- ---- 1. A call that names a link

-- Two slots are the same to link l: they are equal, or neither of them is link l's or free (each is another link's, or kept by a hold).
pub data SameTo (l : ℕ) (x : Slot) : Slot → Type 0 where
  equal : SameTo l x x
  others : {y : Slot} → ¬ Of l x → ¬ Free x → ¬ Of l y → ¬ Free y → SameTo l x y

-- Two tables are the same to link l.
pub record Seen (l : ℕ) (t u : Table) : Type 0 where
  pub sizes : Alike t u
  pub spsms : u.spsms ≡ t.spsms
  pub slots : (i : ℕ) → i < t.n → SameTo l (slot_at t i) (slot_at u i)

-- Two slots are both in this state, or neither is.
abbrev pub BothIn : ChannelState → Slot → Slot → Type 0
BothIn k x y = (x.state ≡ k → y.state ≡ k) × (y.state ≡ k → x.state ≡ k)

-- The exceptions, and all that they give away of a slot that is neither link l's nor free: a frame, whether the slot that its CID names is
-- Connected ("not Connected: dropped, answer 0; another link's slot 8"); an opened query, whether the slot that it names is Disconnected
-- ("slot free → 18; another link's → 8"). In no other call is there any: 0x06 and 0x07 answer alike whatever another's slot is.
pub record Exceptions (c : Call) (t u : Table) : Type 0 where
  pub framed : {l cid : ℕ} {payload : List ℕ} → c ≡ frame l cid payload → (i : ℕ) → i < t.n → cid ≡ cid_base + i → BothIn Connected (slot_at t i) (slot_at u i)
  pub queried : {s l : ℕ} {up : Bool} {out tray : Window} → c ≡ plain (opens s l up) out tray → s < t.n → BothIn Disconnected (slot_at t s) (slot_at u s)

-- The two outcomes are the same, and the tables that they leave are so to link l again. (`called_by`, crate definition: the link that a call
-- names. That the sizes and SPSMs stay is in Change.antt.)
abbrev pub LinkLaw : Type 0
LinkLaw =
    (l : ℕ) (t u : Table) → Fit t → Fit u → Seen l t u → (c : Call) → called_by c ≡ by l → Exceptions c t u → (room out job : ℕ)
    → Same (called t c room out job) (called u c room out job)
    × ((i : ℕ) → i < t.n → SameTo l (slot_at (called t c room out job).table i) (slot_at (called u c room out job).table i))

-- ---- 2. A call that names a slot, by its number or by its CID

pub data Names (s : ℕ) : Call → Type 0 where
  accepting : {c : L2capChannelConfig} {out tray : Window} → Names s (plain (accepts s c) out tray)
  rejecting : {result : Option LeCreditConnResultCode} {out tray : Window} → Names s (plain (rejects s result) out tray)
  dropping : {out tray : Window} → Names s (plain (drops s) out tray)
  querying : {l : ℕ} {up : Bool} {out tray : Window} → Names s (plain (opens s l up) out tray)
  giving : {out tray : Window} → Names s (plain (gives s) out tray)
  holding : {out tray : Window} → Names s (plain (holds s) out tray)
  releasing : {out tray : Window} → Names s (plain (releases s) out tray)
  leaving : {out tray : Window} → Names s (plain (leaves s) out tray)
  leaving_cid : {cid : ℕ} {out tray : Window} → cid ≡ cid_base + s → Names s (plain (leaves_cid cid) out tray)
  taking : {out tray : Window} → Names s (plain (takes s) out tray)
  asking : {of : Slot → ℕ} {out tray : Window} → Names s (plain (asks of s) out tray)
  sending : {sdu : List ℕ} {out : Window} → Names s (sends s sdu out)
  starting : {l : ℕ} {out tray : Window} → Names s (plain (starts s l) out tray)
  portioning : {octets : List ℕ} {out : Window} → Names s (portions s octets out)
  cancelling : {out tray : Window} → Names s (plain (cancels s) out tray)
  framing : {l cid : ℕ} {payload : List ℕ} → cid ≡ cid_base + s → Names s (frame l cid payload)

-- The two outcomes are the same, and so is the slot that they leave. (No other slot changes: Change.antt.)
abbrev pub SlotLaw : Type 0
SlotLaw =
    (s : ℕ) (t u : Table) → Fit t → Fit u → Alike t u → s < t.n → slot_at u s ≡ slot_at t s → (c : Call) → Names s c → (room out job : ℕ)
    → Same (called t c room out job) (called u c room out job) × (slot_at (called u c room out job).table s ≡ slot_at (called t c room out job).table s)
