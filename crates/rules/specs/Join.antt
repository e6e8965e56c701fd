-- All that the rules need to know of crates sar_join and sar_cut: what the join step and the plan of a send may come to. The only file that names the
-- variants of their answers; it rests on `join_step` and `plan_send` alone.
use Rattle.std.specs.Prelude.{◌≡◌, true, ℕ, ◌+◌, ◌≤◌, ◌<◌, length, Result, Ok, Err}
use mathlib.Core.List.{List}
use Rattle.codes.specs.Limits.{size_least}
use Rattle.sar_join.specs.declared.Assembly.{Assembly}
use Rattle.sar_join.specs.declared.Joined.{Joined}
use Rattle.sar_join.specs.declared.Joined.TheVariants as Joined
use Rattle.sar_join.specs.Joining.{assembled, reached}
use Rattle.sar_cut.specs.declared.Framed.{Framed}
use Rattle.sar_cut.specs.Cutting.{frame_count, frames_length}
use Rattle.channel.specs.declared.Answer.TheVariants.{Refused}
use Rattle.channel.specs.declared.Slot.{Slot}
use Rattle.channel.specs.declared.Table.{Table}
use Rattle.definition.specs.Outcome.{Outcome}
use Rattle.definition.specs.Frames.{queued, frames}
use Rattle.rules.specs.Step.{passes}
use Rattle.codes.specs.declared.Refusal.{Refusal}

-- How a frame comes to a slot: with no length octets where an assembly is open, with both of them otherwise. k is the number of its job octets.
pub record Headed (a : Assembly) (head : List ℕ) (k : ℕ) : Type 0 where
  pub joins : (a.want ≡ 0 → ⊥) → length head ≡ 0
  pub opens : a.want ≡ 0 → 2 ≤ length head + k → length head ≡ 2

-- What a step may come to: a refusal other than 1, 2 and 20; an assembly grows by the frame's job octets and stays below what it wants; a finished job is all of
-- them, and there is a place for it. No job is above our MTU. What comes first goes where the assembly ends.
abbrev pub Joins : (mtu d : ℕ) → Assembly → (queued k : ℕ) → Result Joined Refusal → Type 0
Joins mtu d a q k (Err r) = passes (Refused r) ≡ true
Joins mtu d a q k (Ok (Joined.Assembling b)) = (b.have ≡ a.have + k) × (b.have < b.want) × (b.want ≤ mtu) × (assembled a ≡ a.have)
Joins mtu d a q k (Ok (Joined.Finished len)) = (len ≡ a.have + k) × (len ≤ mtu) × (q < d)
Joins mtu d a q k (Ok Joined.Dropped) = Unit {0}

-- A plan for a peer that is not below the least is refused by none of 1, 2 and 20.
abbrev pub Plans : Result Framed Refusal → Type 0
Plans (Err r) = passes (Refused r) ≡ true
Plans (Ok framed) = Unit {0}

-- ---- what a frame that fits comes to

-- With it `have` octets of a job of `want` are there, and q of d places are taken.
abbrev pub Reaches : (d q : ℕ) → Result Joined Refusal → (have want : ℕ) → Type 0
Reaches d q j have want = j ≡ reached d q want have

-- ---- what a send that is not refused comes to

-- (`size`: of the frame output)
pub record Sent (t : Table) (s : ℕ) (x : Slot) (l size n : ℕ) (o : Outcome) : Type 0 where
  pub wide : size_least ≤ x.peer.mps
  pub holds : frames_length l x.peer.mps ≤ size
  pub count : n ≡ frame_count l x.peer.mps
  pub out : o.out ≡ frames x.peer.cid x.peer.mps l n
