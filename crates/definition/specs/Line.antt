-- What a worked line is (Worked.antt): a table of two slots, a call, and what the call answers and leaves. The expected side is written
-- with records and octets of its own, from document 01 and its readings; of the definition's functions it uses none.
use Rattle.std.specs.Prelude.{◌≡◌, List, [], ◌∷◌, ◌++◌, map, ℕ, ◌-◌, length, take, drop, replicate, set, None, Some}
use Rattle.octets.specs.Octets.{le16}
use Rattle.codes.specs.Codes.{refusal_number}
use Rattle.codes.specs.declared.LeCreditConnResultCode.{LeCreditConnResultCode}
use Rattle.credit.specs.declared.CreditFlowControl.{CreditFlowControl}
use Rattle.credit.specs.declared.CreditFlowPolicy.TheVariants.{Every, MinThreshold}
use Rattle.sar_join.specs.declared.Assembly.{Assembly}
use Rattle.channel.specs.declared.Answer.{Answer}
use Rattle.channel.specs.declared.Answer.TheVariants.{Done, Refused, At, Link, Opened, Due, Frames, Job, Attention, Number, Event, Portion}
use Rattle.channel.specs.declared.ChannelState.{ChannelState}
use Rattle.channel.specs.declared.ChannelState.TheVariants.{Disconnected, Connecting, PeerConnecting, Connected, ConnectFailed, PeerDisconnecting, Disconnecting}
use Rattle.channel.specs.declared.L2capChannelConfig.{L2capChannelConfig}
use Rattle.channel.specs.declared.Peer.{Peer}
use Rattle.channel.specs.declared.Queue.{Queue}
use Rattle.channel.specs.declared.Slot.{Slot}
use Rattle.channel.specs.declared.Table.{Table}
use Rattle.channel.specs.declared.Tallies.{Tallies}
use Rattle.definition.specs.Slots.{no_job}
use Rattle.definition.specs.Calls.{Window, Call, Request, plain}
use Rattle.definition.specs.Run.{State, outcome, after}

-- ---- what a line shows: the refusal's number, or the answer that comes with a 0; the table, the room and the caller's memory after it

pub data Told : Type 0 where
  refused : (number : ℕ) → Told
  answered : Answer → Told

abbrev pub told : Answer → Told
told Done = answered Done
told (Refused r) = refused (refusal_number r)
told (At s) = answered (At s)
told (Link l) = answered (Link l)
told Opened = answered Opened
told (Due l s) = answered (Due l s)
told (Frames l n) = answered (Frames l n)
told (Job l n) = answered (Job l n)
told (Attention set count lowest) = answered (Attention set count lowest)
told (Number n) = answered (Number n)
told (Event min max latency timeout) = answered (Event min max latency timeout)
told (Portion l taken full) = answered (Portion l taken full)

pub record Shown : Type 0 where
  pub answer : Told
  pub table : Table
  pub room : List ℕ
  pub memory : List ℕ

-- ---- where a line starts

-- N 2, D 2, M 29: places of 23 octets, three a slot. What stands in the list past slot 1 is no slot of the table.
abbrev pub three : (x y past : Slot) → Table
three x y past = record { slots = x ∷ y ∷ past ∷ []; n = 2; d = 2; m = 29; identifier = 5; spsms = set (replicate 32 0) 16 1 }

-- Every octet of a place is the place's mark, so that whatever is zeroed or moved shows: 1, 2 and 3 in slot 0, 4, 5 and 6 in slot 1.
abbrev pub place : ℕ → List ℕ
place mark = replicate 23 mark

-- a place whose first octets are these
abbrev pub begins : List ℕ → ℕ → List ℕ
begins xs mark = xs ++ replicate (23 - length xs) mark

abbrev pub room : List ℕ
room = place 1 ++ place 2 ++ place 3 ++ place 4 ++ place 5 ++ place 6

-- the signal buffer, or a send's output, of 18 octets, and a job buffer of 4 behind it
abbrev pub window : (from size : ℕ) → Window
window from size = record { from = from; size = size }

abbrev pub start : Table → State
start t = record { table = t; room = room; memory = replicate 22 9 }

-- ---- what is expected, in words: what no word names stays as it was

abbrev pub Change : Type 0
Change = Shown → Shown

infixl 75 ◌&◌
abbrev pub ◌&◌ : Change → Change → Change
(f & g) s = g (f s)

-- refused, by the paper's number
abbrev pub no : ℕ → Change
no n s = record { answer = refused n; table = s.table; room = s.room; memory = s.memory }

abbrev pub yes : Answer → Change
yes a s = record { answer = answered a; table = s.table; room = s.room; memory = s.memory }

-- slots 0 and 1 are then these
abbrev pub slots : Slot → Slot → Change
slots x y s =
    let t = s.table in
    record {
      answer = s.answer;
      table = record { slots = x ∷ y ∷ drop 2 t.slots; n = t.n; d = t.d; m = t.m; identifier = t.identifier; spsms = t.spsms };
      room = s.room;
      memory = s.memory;
    }

-- the next identifier is then this
abbrev pub next : ℕ → Change
next id s =
    let t = s.table in
    record { answer = s.answer; table = record { slots = t.slots; n = t.n; d = t.d; m = t.m; identifier = id; spsms = t.spsms }; room = s.room; memory = s.memory }

-- slot 0's, or slot 1's, three places are then these
abbrev pub part0 : (a b c : List ℕ) → Change
part0 a b c s = record { answer = s.answer; table = s.table; room = a ++ b ++ c ++ drop 69 s.room; memory = s.memory }

abbrev pub part1 : (a b c : List ℕ) → Change
part1 a b c s = record { answer = s.answer; table = s.table; room = take 69 s.room ++ a ++ b ++ c; memory = s.memory }

-- freed: all three places are zeros
abbrev pub wiped0 : Change
wiped0 = part0 (place 0) (place 0) (place 0)

abbrev pub wiped1 : Change
wiped1 = part1 (place 0) (place 0) (place 0)

-- no longer Connected: the assembly place is
abbrev pub cleared0 : Change
cleared0 = part0 (place 0) (place 2) (place 3)

abbrev pub cleared1 : Change
cleared1 = part1 (place 0) (place 5) (place 6)

-- octets written at the start of the signal buffer or output
abbrev pub writes : List ℕ → Change
writes xs s = record { answer = s.answer; table = s.table; room = s.room; memory = xs ++ drop (length xs) s.memory }

-- a job handed out to the job buffer
abbrev pub hands : List ℕ → Change
hands xs s = record { answer = s.answer; table = s.table; room = s.room; memory = take 18 s.memory ++ xs ++ drop (length xs) (drop 18 s.memory) }

-- ---- a line

pub record Line : Type 0 where
  pub does : Shown
  pub due : Shown

infix 70 ◌⊢◌⇒◌
abbrev pub ◌⊢◌⇒◌ : Table → Call → Change → Line
t ⊢ c ⇒ e =
    record {
      does = record { answer = told (outcome (start t) c).answer; table = (after (start t) c).table; room = (after (start t) c).room; memory = (after (start t) c).memory };
      due = e (record { answer = answered Done; table = t; room = room; memory = replicate 22 9 });
    }

abbrev pub Hold : List Line → Type 0
Hold ls = map (λ (l : Line). l.does) ls ≡ map (λ (l : Line). l.due) ls

-- lines of an answer alone
abbrev pub Agree : List (Told × Told) → Type 0
Agree ls = map (λ (l : Told × Told). l.0) ls ≡ map (λ (l : Told × Told). l.1) ls

-- a call with the two buffers lent
abbrev pub ask : Request → Call
ask r = plain r (window 0 18) (window 18 4)

-- ---- slots. Both links' peers use CID 0x40, with MTU 30 and MPS 23.

abbrev pub peer : (credits : ℕ) → Peer
peer n = record { cid = 0x40; mps = 23; mtu = 30; credits = n }

-- .. or with that MTU and MPS, and 3 credits
abbrev pub peer_of : (mtu mps : ℕ) → Peer
peer_of mtu mps = record { cid = 0x40; mps = mps; mtu = mtu; credits = 3 }

abbrev pub nobody : Peer
nobody = record { cid = 0; mps = 0; mtu = 0; credits = 0 }

abbrev pub every : (k held received : ℕ) → CreditFlowControl
every k held received = record { policy = Every k; credits = held; received = received }

abbrev pub threshold : (t held received : ℕ) → CreditFlowControl
threshold t held received = record { policy = MinThreshold t; credits = held; received = received }

-- no assembly open, or `have` octets of a job of `want`
abbrev pub idle : Assembly
idle = record { have = 0; want = 0 }

abbrev pub partly : (have want : ℕ) → Assembly
partly have want = record { have = have; want = want }

-- the lengths of the jobs that wait
abbrev pub none : Queue
none = record { count = 0; lens = replicate 4 0 }

abbrev pub one : ℕ → Queue
one a = record { count = 1; lens = a ∷ 0 ∷ 0 ∷ 0 ∷ [] }

abbrev pub both : (a b : ℕ) → Queue
both a b = record { count = 2; lens = a ∷ b ∷ 0 ∷ 0 ∷ [] }

-- nothing counted; or these: frames sent and blocked sends, frames received and blocked receives
abbrev pub tallied : (sent blockedSends received blockedReceives : ℕ) → Tallies
tallied s b r c = record { sends = record { frames = s; blocked = b }; receives = record { frames = r; blocked = c } }

abbrev pub untold : Tallies
untold = tallied 0 0 0 0

-- freed, but for its holds
abbrev pub free : (hold : ℕ) → Slot
free h = record { state = Disconnected; link = 0; spsm = 0; mps = 0; mtu = 0; account = every 1 0 0; hold = h; peer = nobody; assembly = idle; queue = none; job = no_job; tallies = untold }

-- what the peer asked for: SPSM 0x80, with 3 credits
abbrev pub wish : ChannelState → (link hold : ℕ) → Peer → Slot
wish k l h p = record { state = k; link = l; spsm = 0x80; mps = 0; mtu = 0; account = every 1 0 0; hold = h; peer = p; assembly = idle; queue = none; job = no_job; tallies = untold }

-- .. and that waits for an answer
abbrev pub asked : (link id hold : ℕ) → Slot
asked l id h = wish (PeerConnecting id) l h (peer 3)

-- our own attempt, for SPSM 0x81, with the default numbers: waiting, refused, granted
abbrev pub attempt : ChannelState → (link hold : ℕ) → Peer → Slot
attempt k l h p = record { state = k; link = l; spsm = 0x81; mps = 25; mtu = 23; account = every 1 2 0; hold = h; peer = p; assembly = idle; queue = none; job = no_job; tallies = untold }

abbrev pub ours : (link id hold : ℕ) → Slot
ours l id h = attempt (Connecting id) l h nobody

abbrev pub failed : (link : ℕ) → LeCreditConnResultCode → (hold : ℕ) → Slot
failed l code h = attempt (ConnectFailed code) l h nobody

abbrev pub granted : (link hold : ℕ) → Slot
granted l h = attempt Connected l h (peer 3)

-- What a channel has counted; one that our side has left, nothing.
abbrev pub counts : ChannelState → Tallies
counts Disconnected = tallied 7 5 3 2
counts (Connecting i) = tallied 7 5 3 2
counts (PeerConnecting i) = tallied 7 5 3 2
counts Connected = tallied 7 5 3 2
counts (ConnectFailed c) = tallied 7 5 3 2
counts (PeerDisconnecting i) = tallied 7 5 3 2
counts (Disconnecting a) = untold

-- a channel that is or was Connected
abbrev pub channel : ChannelState → (link hold : ℕ) → CreditFlowControl → Peer → Assembly → Queue → Slot
channel k l h a p s q = record { state = k; link = l; spsm = 0x80; mps = 25; mtu = 23; account = a; hold = h; peer = p; assembly = s; queue = q; job = no_job; tallies = counts k }

-- .. with 3 credits on each side, and nothing received
abbrev pub quiet : ChannelState → (link hold : ℕ) → Slot
quiet k l h = channel k l h (every 1 3 0) (peer 3) idle none

abbrev pub connected : (link hold : ℕ) → Slot
connected l h = quiet Connected l h

-- a slot with another MPS of ours
abbrev pub narrow : (mps : ℕ) → Slot → Slot
narrow mps x = record { state = x.state; link = x.link; spsm = x.spsm; mps = mps; mtu = x.mtu; account = x.account; hold = x.hold; peer = x.peer; assembly = x.assembly; queue = x.queue; job = x.job; tallies = x.tallies }

-- a slot that has counted these
abbrev pub telling : Tallies → Slot → Slot
telling y x = record { state = x.state; link = x.link; spsm = x.spsm; mps = x.mps; mtu = x.mtu; account = x.account; hold = x.hold; peer = x.peer; assembly = x.assembly; queue = x.queue; job = x.job; tallies = y }

-- Past N stands a channel of link 1 in which everything waits.
abbrev pub two : Slot → Slot → Table
two x y = three x y (channel Connected 1 1 (every 1 3 0) (peer 65535) (partly 1 2) (one 1))

-- the table with another next identifier, and with these SPSMs registered
abbrev pub counting : ℕ → Table → Table
counting id t = record { slots = t.slots; n = t.n; d = t.d; m = t.m; identifier = id; spsms = t.spsms }

abbrev pub knowing : List ℕ → Table → Table
knowing bits t = record { slots = t.slots; n = t.n; d = t.d; m = t.m; identifier = t.identifier; spsms = bits }

-- ---- what is asked for

abbrev pub usual : L2capChannelConfig
usual = record { mtu = None; mps = None; policy = Every 1; credits = None }

abbrev pub sized : (mtu mps : ℕ) → L2capChannelConfig
sized mtu mps = record { mtu = Some mtu; mps = Some mps; policy = MinThreshold 2; credits = Some 7 }

-- ---- signals that come, and replies

-- 0x14: 3 credits, with that MTU and MPS; with MTU 30 and MPS 23
abbrev pub request_of : (mtu mps id spsm scid : ℕ) → List ℕ
request_of mtu mps id spsm scid = 0x14 ∷ id ∷ 10 ∷ 0 ∷ le16 spsm ++ le16 scid ++ (mtu ∷ 0 ∷ mps ∷ 0 ∷ 3 ∷ 0 ∷ [])

abbrev pub request : (id spsm scid : ℕ) → List ℕ
request id spsm scid = request_of 30 23 id spsm scid

-- 0x15: CID 0x40, 3 credits, with that MTU and MPS; with MTU 30 and MPS 23
abbrev pub response_of : (mtu mps id result : ℕ) → List ℕ
response_of mtu mps id result = 0x15 ∷ id ∷ 10 ∷ 0 ∷ 0x40 ∷ 0 ∷ mtu ∷ 0 ∷ mps ∷ 0 ∷ 3 ∷ 0 ∷ result ∷ 0 ∷ []

abbrev pub response : (id result : ℕ) → List ℕ
response id result = response_of 30 23 id result

-- 0x16
abbrev pub credits : (cid n : ℕ) → List ℕ
credits cid n = 0x16 ∷ 7 ∷ 4 ∷ 0 ∷ cid ∷ 0 ∷ le16 n

-- 0x06 and 0x07: DCID, SCID
abbrev pub leaving : (id dcid scid : ℕ) → List ℕ
leaving id dcid scid = 0x06 ∷ id ∷ 4 ∷ 0 ∷ dcid ∷ 0 ∷ scid ∷ 0 ∷ []

abbrev pub gone : (dcid scid : ℕ) → List ℕ
gone dcid scid = 0x07 ∷ 7 ∷ 4 ∷ 0 ∷ dcid ∷ 0 ∷ scid ∷ 0 ∷ []

-- 0x12
abbrev pub parameters : (min max latency timeout : ℕ) → List ℕ
parameters min max latency timeout = 0x12 ∷ 7 ∷ 8 ∷ 0 ∷ le16 min ++ le16 max ++ le16 latency ++ le16 timeout

-- a reject reply, and a response that refuses: zeros before the result
abbrev pub reject : (id reason : ℕ) → List ℕ
reject id reason = 6 ∷ 0 ∷ 5 ∷ 0 ∷ 0x01 ∷ id ∷ 2 ∷ 0 ∷ reason ∷ 0 ∷ []

abbrev pub refusal : (id result : ℕ) → List ℕ
refusal id result = 14 ∷ 0 ∷ 5 ∷ 0 ∷ 0x15 ∷ id ∷ 10 ∷ 0 ∷ replicate 8 0 ++ (result ∷ 0 ∷ [])
