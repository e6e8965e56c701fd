-- What is true of every slot of a table that a run reached, its part of the room apart.
use Rattle.std.specs.Prelude.{◌≡◌, Bool, true, false, List, [], ◌∷◌, ℕ, ◌+◌, ◌-◌, ◌^◌, ◌≤◌, ◌<◌, leb, length, take}
use Rattle.lists.specs.Every.{every}
use Rattle.credit.specs.Account.{credit_sum}
use Rattle.sar_join.specs.declared.Assembly.{Assembly}
use Rattle.sar_join.specs.Joining.{idle}
use Rattle.sar_cut.specs.Cutting.{ceil}
use Rattle.channel.specs.Limits.{depth_most, credits_most}
use Rattle.channel.specs.declared.ChannelState.{ChannelState}
use Rattle.channel.specs.declared.OpenJob.{OpenJob}
use Rattle.channel.specs.declared.Peer.{Peer}
use Rattle.channel.specs.declared.Queue.{Queue}
use Rattle.channel.specs.declared.Slot.{Slot}
use Rattle.channel.specs.declared.Tallies.{Tallies}
use Rattle.definition.specs.Table.{fresh, is_disconnected, is_connected, no_job, no_tallies}
use Rattle.definition.specs.Portions.{given_out}
use Rattle.rules.specs.Tests.{begun, Least, counting}

-- An assembly and a queue of at most d jobs, in places of p octets.
pub record Holding (d p : ℕ) (a : Assembly) (q : Queue) : Type 0 where
  pub count : q.count ≤ d
  pub lens : every (λ n. leb n p) (take q.count q.lens) ≡ true
  pub long : length q.lens ≡ depth_most
  pub have : a.have ≤ p
  pub want : a.want ≤ p
  -- where no assembly is open, no octet of one is there
  pub closed : a.want ≡ 0 → a.have ≡ 0

-- What we may send: the job that is handed over in portions, with the peer's numbers, in a slot that is Connected or not.
pub record Owing (connected : Bool) (p : Peer) (j : OpenJob) : Type 0 where
  -- "leaving Connected [closes the job]": only a Connected slot has one
  pub shut : connected ≡ false → j ≡ no_job
  -- where no credits are set aside nothing is left of a job
  pub closed : j.aside ≡ 0 → j ≡ no_job
  -- an open job's counts are within its length and its frame
  pub taken : 0 < j.aside → j.taken ≤ j.length
  pub filled : 0 < j.aside → (j.filled ≤ p.mps) × (j.filled ≤ j.taken + 2)
  -- a credit is set aside for each of its frames to come
  pub wide : 0 < j.aside → 0 < p.mps
  pub owed : 0 < j.aside → j.aside ≡ ceil (j.length + 2 - given_out j) p.mps
  pub sum : p.credits + j.aside ≤ credits_most

-- Jobs no longer than so many octets: those that wait, and the one that arrives.
pub record Within (most : ℕ) (a : Assembly) (q : Queue) : Type 0 where
  pub lens : every (λ n. leb n most) (take q.count q.lens) ≡ true
  pub want : a.want ≤ most

-- "at 64 bits": four numbers below 2^64.
pub record Below (y : Tallies) : Type 0 where
  pub sent : y.sends.frames < 2 ^ 64
  pub blocked_sends : y.sends.blocked < 2 ^ 64
  pub received : y.receives.frames < 2 ^ 64
  pub blocked_receives : y.receives.blocked < 2 ^ 64

-- What a slot in this state has counted: nothing, where it neither is Connected nor was left by its peer.
pub record Counted (k : ChannelState) (y : Tallies) : Type 0 where
  pub none : counting k ≡ false → y ≡ no_tallies
  pub below : Below y

pub record Sound (d p : ℕ) (x : Slot) : Type 0 where
  pub holding : Holding d p x.assembly x.queue
  pub mtu : x.mtu ≤ p
  -- what arrives and what waits is within our MTU
  pub within : Within x.mtu x.assembly x.queue
  pub sum : credit_sum x.account ≤ credits_most
  pub owing : Owing (is_connected x.state) x.peer x.job
  -- the peer of a connection that is asked for, or that stands, is not below the least
  pub least : Least x
  pub counted : Counted x.state x.tallies
  -- a Disconnected slot is as it was made, but for its holds
  pub free : is_disconnected x.state ≡ true → x ≡ fresh x.hold
  -- before a connection has begun there is no assembly and no job
  pub quiet : begun x.state ≡ false → (x.assembly ≡ idle) × (x.queue.count ≡ 0)

abbrev pub AllSound : ℕ → ℕ → List Slot → Type 0
AllSound d p [] = Unit {0}
AllSound d p (x ∷ xs) = Sound d p x × AllSound d p xs
