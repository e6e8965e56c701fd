-- A run of payloads on one slot: each makes the join step and leaves the slot's part of the room as it does, until one is refused.
use Rattle.std.specs.Prelude.{List, [], ◌∷◌, ◌++◌, ℕ, suc, length, Result, Ok, Err}
use Rattle.octets.specs.Octets.{part, u16_at}
use Rattle.codes.specs.declared.Refusal.{Refusal}
use Rattle.codes.specs.declared.Refusal.TheVariants as Refusal
use Rattle.sar_join.specs.declared.Assembly.{Assembly}
use Rattle.sar_join.specs.declared.Joined.{Joined}
use Rattle.sar_join.specs.declared.Joined.TheVariants.{Dropped, Finished, Assembling}
use Rattle.sar_join.specs.Joining.{idle, join_step, queue_at}
use Rattle.sar_join_room.specs.SarRoom.{join_part}

-- What the receiving side keeps: the open assembly, how many jobs wait, its part of the room, and the jobs that came whole, in their order.
pub record Side : Type 0 where
  pub assembly : Assembly
  pub queued : ℕ
  pub places : List ℕ
  pub jobs : List (List ℕ)

pub data Ran : Type 0 where
  ran : Side → Ran
  stopped : Refusal → Ran

-- what a step leaves: xs is the part of the room after it
unfoldable pub after : (place : ℕ) → Side → (xs : List ℕ) → Result Joined Refusal → Ran
after place s xs (Err r) = stopped r
after place s xs (Ok Dropped) = stopped Refusal.QueueFull
after place s xs (Ok (Assembling b)) = ran (record { assembly = b; queued = s.queued; places = xs; jobs = s.jobs })
after place s xs (Ok (Finished n)) =
    ran (record { assembly = idle; queued = suc s.queued; places = xs; jobs = s.jobs ++ (part xs (queue_at place s.queued) n ∷ []) })

unfoldable pub step_on : (mtu mps d place : ℕ) → Side → List ℕ → Ran
step_on mtu mps d place s p =
    let r = join_step mtu mps d s.assembly s.queued (length p) (u16_at p 0) in
    after place s (join_part place s.assembly s.queued r s.places p) r

-- one payload after the other
unfoldable pub run : (mtu mps d place : ℕ) → List (List ℕ) → Ran → Ran
run mtu mps d place [] s = s
run mtu mps d place (p ∷ ps) (stopped r) = stopped r
run mtu mps d place (p ∷ ps) (ran s) = run mtu mps d place ps (step_on mtu mps d place s p)
