-- The words by which the statement says what is excepted (Statement.antt) are those in which the definition's laws are said (Calls.antt
-- of crate definition), asked of one link. By cases.
use Rattle.std.specs.Prelude.{◌≡◌, false, ◌&&◌, not, ℕ, eqb}
use Rattle.std.proofs.Math.Path.{refl}
use Rattle.channel.specs.declared.ChannelState.{ChannelState}
use Rattle.channel.specs.declared.ChannelState.TheVariants.{Disconnected, Connecting, PeerConnecting, Connected, ConnectFailed, PeerDisconnecting, Disconnecting}
use Rattle.channel.specs.declared.Table.{Table}
use Rattle.definition.specs.Table.{is_disconnected, slot_at}
use Rattle.definition.specs.Calls.{Call, frame, sends, portions, down, plain, Request, register, signals, pends, rejects_all, accepts, rejects, drops, creates, opens, gives, holds, releases, leaves, leaves_cid, announces, takes, starts, cancels, attends, asks, sends_signal, writes, joining, holder_in, holder, is_by}
use Rattle.definition.specs.Calls as Calls
use Rattle.definition.specs.Public.{Assembling}
use Rattle.definition.proofs.Public.{joins_assembling}
use Rattle.isolation.specs.Statement.{owns, assembling, jobs, carries, frames_out, taken_from, job_out}
use Rattle.lists.specs.Both.{false_unless}

held_by : (k l : ℕ) (q : ChannelState) → (not (is_disconnected q) && eqb k l) ≡ is_by k (holder_in q l)
held_by k l Disconnected = refl
held_by k l (Connecting i) = refl
held_by k l (PeerConnecting i) = refl
held_by k l Connected = refl
held_by k l (ConnectFailed c) = refl
held_by k l (PeerDisconnecting i) = refl
held_by k l (Disconnecting a) = refl

pub owns-is : (k : ℕ) (t : Table) (s : ℕ) → owns k t s ≡ is_by k (holder (slot_at t s))
owns-is k t s = held_by k (slot_at t s).link (slot_at t s).state

pub jobs-is : (t : Table) (c : Call) → jobs t c ≡ Calls.jobs t c
unfolding Calls.jobs
jobs-is t (frame link cid payload) = refl
jobs-is t (sends s sdu out) = refl
jobs-is t (portions s octets out) = refl
jobs-is t (down link) = refl
jobs-is t (plain r out job) = refl

module _ (k : ℕ) (t : Table) where
  pub carries-is : (c : Call) → carries k t c ≡ is_by k (Calls.carrier t c)
  unfolding Calls.carrier
  carries-is (frame link cid payload) = refl
  carries-is (sends s sdu out) = owns-is k t s
  carries-is (portions s octets out) = owns-is k t s
  carries-is (down link) = refl
  carries-is (plain r out job) = refl

  pub frames_out-is : (c : Call) → frames_out k t c ≡ is_by k (Calls.frames_out t c)
  frames_out-is (frame link cid payload) = refl
  frames_out-is (sends s sdu out) = owns-is k t s
  frames_out-is (portions s octets out) = owns-is k t s
  frames_out-is (down link) = refl
  frames_out-is (plain r out job) = refl

  taken_from-is : (r : Request) → taken_from k t r ≡ is_by k (Calls.taken_from t r)
  taken_from-is (register spsm) = refl
  taken_from-is (signals link listening central pdu) = refl
  taken_from-is (pends link up) = refl
  taken_from-is (rejects_all link) = refl
  taken_from-is (accepts s c) = refl
  taken_from-is (rejects s result) = refl
  taken_from-is (drops s) = refl
  taken_from-is (creates link spsm c) = refl
  taken_from-is (opens s link up) = refl
  taken_from-is (gives s) = refl
  taken_from-is (holds s) = refl
  taken_from-is (releases s) = refl
  taken_from-is (leaves s) = refl
  taken_from-is (leaves_cid cid) = refl
  taken_from-is announces = refl
  taken_from-is (takes s) = owns-is k t s
  taken_from-is (starts s l) = refl
  taken_from-is (cancels s) = refl
  taken_from-is attends = refl
  taken_from-is (asks of s) = refl
  taken_from-is (sends_signal link s) = refl
  taken_from-is (writes octets) = refl

  pub job_out-is : (c : Call) → job_out k t c ≡ is_by k (Calls.job_out t c)
  job_out-is (frame link cid payload) = refl
  job_out-is (sends s sdu out) = refl
  job_out-is (portions s octets out) = refl
  job_out-is (down link) = refl
  job_out-is (plain r out job) = taken_from-is r

-- an assembly that is not open by one word is not open by the other (Public.antt)
pub not-assembling : (t : Table) (cid : ℕ) → ¬ Assembling t cid → assembling t cid ≡ false
not-assembling t cid n = false_unless (joining t cid) (λ e. n (joins_assembling t cid e))
