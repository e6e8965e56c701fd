-- What a call may do to one slot and to that slot's part of the room, and to all of them: the few kinds of change from which every
-- rule follows. Rests on nothing but the definition's own words.
use Rattle.std.specs.Prelude.{◌≡◌, Bool, true, false, ◌&&◌, not, List, [], ◌∷◌, ℕ, ◌+◌, ◌-◌, ◌≤◌, ◌<◌, eqb, length, Some}
use Rattle.credit.specs.declared.CreditFlowControl.{CreditFlowControl}
use Rattle.credit.specs.Account.{received, granted, grant_of, credit_sum}
use Rattle.sar_join.specs.declared.Assembly.{Assembly}
use Rattle.sar_join.specs.Joining.{idle}
use Rattle.sar_cut.specs.Cutting.{frame_count}
use Rattle.signal_write.specs.Writer.{encode_of}
use Rattle.signal_forms.specs.declared.Signal.{Signal}
use Rattle.channel.specs.Limits.{credits_most}
use Rattle.channel.specs.declared.Answer.{Answer}
use Rattle.channel.specs.declared.ChannelState.{ChannelState}
use Rattle.channel.specs.declared.ChannelState.TheVariants.{PeerDisconnecting, Disconnecting}
use Rattle.channel.specs.declared.OpenJob.{OpenJob}
use Rattle.channel.specs.declared.Peer.{Peer}
use Rattle.channel.specs.declared.Queue.{Queue}
use Rattle.channel.specs.declared.Slot.{Slot}
use Rattle.channel.specs.declared.Table.{Table}
use Rattle.channel.specs.declared.Tallies.{Tallies}
use Rattle.definition.specs.Mem.{Fill, given, zeros, job, Move, put, wipe}
use Rattle.definition.specs.Table.{place_of, fresh, live, is_disconnected, is_peer_connecting, is_connected, with_hold, no_job, no_tallies, count_sent, count_received, count_blocked_send, count_blocked_receive, tallies_left, next_id, spent}
use Rattle.definition.specs.Outcome.{Outcome}
use Rattle.definition.specs.Numbers.{answer_number}
use Rattle.definition.specs.Frames.{queued, finishing, shifted, moving_up}
use Rattle.definition.specs.Portions.{filled_by}
use Rattle.definition.specs.Portions as Portions
use Rattle.rules.specs.Tests.{begun, Least, counting}

-- ---- the credit account: untouched, one credit used by a frame, or a grant of what the policy says

pub data Accounting (a : CreditFlowControl) : CreditFlowControl → Type 0 where
  same : Accounting a a
  use_one : (a.credits ≡ 0 → ⊥) → Accounting a (received a 1)
  grant : {n : ℕ} → grant_of a ≡ Some n → Accounting a (granted a n)

-- ---- jobs: what becomes of the assembly, of the waiting jobs and of their places. k is the number of job octets that the call brings.

pub data Jobs (t : Table) (k : ℕ) (x : Slot) : Assembly → Queue → List Move → Type 0 where
  keep : Jobs t k x x.assembly x.queue []
  leave : Jobs t k x idle x.queue (put 0 (zeros (place_of t)) ∷ [])
  grow : {a : Assembly} → begun x.state ≡ true → a.have ≡ x.assembly.have + k → a.have < a.want → a.want ≤ x.mtu
      → Jobs t k x a x.queue (put x.assembly.have (job 0 k) ∷ [])
  finish : {len : ℕ} → begun x.state ≡ true → len ≡ x.assembly.have + k → len ≤ x.mtu → x.queue.count < t.d
      → Jobs t k x idle (queued len x.queue) (finishing t x k)
  hand : begun x.state ≡ true → 0 < x.queue.count → Jobs t k x x.assembly (shifted x.queue) (moving_up t x)

-- ---- what we may send: the peer's numbers and the job that is handed over in portions, of a slot that is Connected or not

-- The peer's numbers, with so many credits.
abbrev pub with_credits : ℕ → Peer → Peer
with_credits n p = record { cid = p.cid; mps = p.mps; mtu = p.mtu; credits = n }

pub data Sending (x : Slot) : Bool → Peer → OpenJob → Type 0 where
  stay : Sending x (is_connected x.state) x.peer x.job
  off : {connected : Bool} → is_connected x.state ≡ false → Sending x connected x.peer x.job  -- nothing is open
  meet : {connected : Bool} {p : Peer} → is_connected x.state ≡ false → p.credits ≤ credits_most → Sending x connected p x.job  -- the peer answers
  shut : Sending x false x.peer no_job  -- Connected is left
  pay : (n : ℕ) → Sending x (is_connected x.state) (with_credits (x.peer.credits - n) x.peer) x.job
  gain : (n : ℕ) → x.peer.credits + x.job.aside + n ≤ credits_most → Sending x (is_connected x.state) (with_credits (x.peer.credits + n) x.peer) x.job
  begin : (l n : ℕ) → is_connected x.state ≡ true → 2 ≤ x.peer.mps → n ≡ frame_count l x.peer.mps → n ≤ x.peer.credits
      → Sending x (is_connected x.state) (with_credits (x.peer.credits - n) x.peer) (Portions.begun l n)
  portion : (count : ℕ) → is_connected x.state ≡ true → 0 < x.job.aside → count ≤ x.job.length - x.job.taken
      → Sending x (is_connected x.state) x.peer (filled_by x.peer.mps x.job count)
  cancel : Sending x (is_connected x.state) (with_credits (x.peer.credits + x.job.aside) x.peer) no_job

-- ---- what is counted, of a slot that comes to be in a state

pub data Counting (x : Slot) : ChannelState → Tallies → Type 0 where
  -- nothing; and what counted still does, or never did
  uncounted : {k : ChannelState} → (counting k ≡ false → counting x.state ≡ false) → Counting x k x.tallies
  -- our side leaves: reset; the peer leaves: not
  reset : {announced : Bool} (y : Tallies) → Counting x (Disconnecting announced) (tallies_left (Disconnecting announced) y)
  parted : {id : ℕ} → Counting x (PeerDisconnecting id) (tallies_left (PeerDisconnecting id) x.tallies)
  sent : (n : ℕ) → is_connected x.state ≡ true → Counting x x.state (count_sent n x).tallies
  arrived : is_connected x.state ≡ true → Counting x x.state (count_received x).tallies
  blocked_send : is_connected x.state ≡ true → Counting x x.state (count_blocked_send x).tallies
  blocked_receive : is_connected x.state ≡ true → Counting x x.state (count_blocked_receive x).tallies

-- ---- one slot: x becomes y

-- The connection goes on: not freed, our MTU the same, and once begun it stays so; its peer is not below the least, if it was not before.
pub record Goes (x y : Slot) : Type 0 where
  pub was : is_disconnected x.state ≡ false
  pub is : is_disconnected y.state ≡ false
  pub stays : begun x.state ≡ true → begun y.state ≡ true
  pub mtu : y.mtu ≡ x.mtu
  pub least : Least x → Least y
  pub counts : Counting x y.state y.tallies

-- A pending connection is accepted, with our numbers and a new account.
pub record Accepts (t : Table) (x y : Slot) : Type 0 where
  pub was : is_peer_connecting x.state ≡ true
  pub is : begun y.state ≡ true
  pub mtu : y.mtu ≤ place_of t
  pub sum : credit_sum y.account ≤ credits_most
  pub assembly : y.assembly ≡ x.assembly
  pub queue : y.queue ≡ x.queue
  pub peer : y.peer ≡ x.peer
  pub job : y.job ≡ x.job
  pub tallies : y.tallies ≡ x.tallies

-- A free slot is given to a new connection.
pub record Allocates (t : Table) (x y : Slot) : Type 0 where
  pub was : is_disconnected x.state ≡ true
  pub unheld : x.hold ≡ 0
  pub is : is_disconnected y.state ≡ false
  pub unbegun : begun y.state ≡ false
  pub mtu : y.mtu ≤ place_of t
  pub sum : credit_sum y.account ≤ credits_most
  pub assembly : y.assembly ≡ idle
  pub queue : y.queue ≡ (fresh 0).queue
  pub peer : y.peer.credits ≤ credits_most
  pub least : Least y
  pub job : y.job ≡ no_job
  pub tallies : y.tallies ≡ no_tallies

pub data Step (t : Table) (k : ℕ) (x : Slot) : Slot → List Move → Type 0 where
  hold : (h : ℕ) → Step t k x (with_hold h x) []
  go : {y : Slot} {ms : List Move} → Goes x y → Accounting x.account y.account → Jobs t k x y.assembly y.queue ms
      → Sending x (is_connected y.state) y.peer y.job → Step t k x y ms
  accept : {y : Slot} → Accepts t x y → Step t k x y []
  free : (h : ℕ) → Step t k x (fresh h) (wipe ∷ [])
  allocate : {y : Slot} → Allocates t x y → Step t k x y []

-- ---- all slots, each with the moves in its own part of the room

pub data Steps (t : Table) (k : ℕ) : List Slot → List Slot → List (List Move) → Type 0 where
  rest : {xs : List Slot} → Steps t k xs xs []
  next : {x y : Slot} {ms : List Move} {xs ys : List Slot} {mss : List (List Move)} → Step t k x y ms → Steps t k xs ys mss → Steps t k (x ∷ xs) (y ∷ ys) (ms ∷ mss)

-- ---- the identifier: kept, or used, and then what is written is nothing or one signal that carries it

pub data Numbered (t : Table) : ℕ → List Fill → Type 0 where
  kept : {out : List Fill} → Numbered t t.identifier out
  refused : Numbered t (spent t).identifier []
  told : (s : Signal) → Numbered t (spent t).identifier (given (encode_of (next_id t) s) ∷ [])

-- ---- the answer

-- none of the refusals 1, 2 and 20
abbrev pub passes : Answer → Bool
passes a = not (eqb (answer_number a) 1) && (not (eqb (answer_number a) 2) && not (eqb (answer_number a) 20))

-- ---- a call

pub record Stepped (t : Table) (k : ℕ) (o : Outcome) : Type 0 where
  pub answer : passes o.answer ≡ true
  pub n : o.table.n ≡ t.n
  pub d : o.table.d ≡ t.d
  pub m : o.table.m ≡ t.m
  pub long : length o.table.slots ≡ length t.slots
  pub identifier : Numbered t o.table.identifier o.out
  pub slots : Steps t k (live t) (live o.table) o.parts
