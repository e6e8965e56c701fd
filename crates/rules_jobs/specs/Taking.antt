-- A take that answers a job hands out the oldest, whole, and leaves the others in their order; a buffer that is too short leaves all, and one of the slot's MTU
-- never is. So the job that was rejoined is the job taken (F). Rests on the jobs of a part (Waiting.antt).
use Rattle.std.specs.Prelude.{◌≡◌, true, [], ◌∷◌, ℕ, suc, ◌-◌, ◌≤◌, ◌<◌, length, set}
use Rattle.channel.specs.declared.Answer.TheVariants.{Job}
use Rattle.channel.specs.declared.Slot.{Slot}
use Rattle.channel.specs.declared.Table.{Table}
use Rattle.definition.specs.Mem.{held, fills, parts}
use Rattle.definition.specs.Table.{slot_at}
use Rattle.definition.specs.Outcome.{Outcome, only}
use Rattle.definition.specs.Calls.{Window, Call, plain, takes, jobs}
use Rattle.definition.specs.Run.{State, lent, outcome, after}
use Rattle.definition.specs.Numbers.{answer_number}
use Rattle.definition.specs.Frames.{shifted, moving_up, grant_in, taken, oldest_at, oldest}
use Rattle.rules.specs.Run.{Reached, Fits}
use Rattle.rules.specs.Tests.{begun}
use Rattle.rules_jobs.specs.Rejoin.{job_at}

-- ---- the call

-- a take of slot i, with signal buffer w and job buffer v
abbrev pub taking : ℕ → (w v : Window) → Call
taking i w v = plain (takes i) w v

-- how many octets a buffer has
abbrev pub sized : Window → State → ℕ
sized w s = length (lent w s.memory)

-- what it comes to, whatever is granted
pub record Hands (t : Table) (i : ℕ) (x : Slot) (o : Outcome) : Type 0 where
  pub slot : Slot
  pub queue : slot.queue ≡ shifted x.queue
  pub slots : o.table.slots ≡ set t.slots i slot
  pub parts : o.parts ≡ only i (moving_up t x)
  pub answer : o.answer ≡ Job x.link (oldest x)
  pub job : o.job ≡ held (oldest_at t i) (oldest x) ∷ []

-- ---- the tests of a take

-- A take passed them all.
pub record Passed (t : Table) (i size : ℕ) (o : Outcome) : Type 0 where
  pub used : i < t.n
  pub on : begun (slot_at t i).state ≡ true
  pub some : 0 < (slot_at t i).queue.count
  pub fits : oldest (slot_at t i) ≤ size
  pub is : o ≡ taken t i (slot_at t i) (grant_in (slot_at t i))

-- ---- THE LAW: a take that answers a job hands out the whole job

-- (a: the take; v: its job buffer)
pub record Taken (s : State) (a : Call) (v : Window) (i : ℕ) : Type 0 where
  -- its length is told, and the buffer holds it
  pub answer : (outcome s a).answer ≡ Job (slot_at s.table i).link (length (job_at s i 0))
  pub fits : length (job_at s i 0) ≤ sized v s
  pub octets : fills (λ x. x) (jobs s.table a) s.room (outcome s a).job ≡ job_at s i 0
  -- ".. in order of arrival": the others are one nearer
  pub count : (slot_at (after s a).table i).queue.count ≡ (slot_at s.table i).queue.count - 1
  pub others : (k : ℕ) → suc k < (slot_at s.table i).queue.count → job_at (after s a) i k ≡ job_at s i (suc k)

-- ---- jobs taken one after the other

-- From s to s' there are n takes from slot i that are not refused; and other calls, whatever they do, after which no fewer jobs wait there.
pub data HandsOut (i : ℕ) : ℕ → State → State → Type 0 where
  all : {s : State} → HandsOut i 0 s s
  between : {n : ℕ} {s s' : State} (a : Call) → Fits a → (slot_at s.table i).queue.count ≤ (slot_at (after s a).table i).queue.count → HandsOut i n (after s a) s' → HandsOut i n s s'
  handed : {n : ℕ} {s s' : State} (w v : Window) → answer_number (outcome s (taking i w v)).answer ≡ 0 → HandsOut i n (after s (taking i w v)) s' → HandsOut i (suc n) s s'

-- Then the job before which n waited is the oldest.
pub record First (s s' : State) (i n : ℕ) : Type 0 where
  pub reached : Reached s'
  pub some : 0 < (slot_at s'.table i).queue.count
  pub is : job_at s' i 0 ≡ job_at s i n
