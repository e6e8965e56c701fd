-- What a start and a portion leave alone: of a slot a start changes the peer's credits, what is counted of sends and the job, a portion the job; and what they give out is within the buffer.
use Rattle.std.specs.Prelude.{◌≡◌, refl, Bool, true, false, not, ℕ, ◌-◌, ◌≤◌, ltb, Result, Ok, Err}
use Rattle.std.proofs.Common.{arith, ltb-false}
use Rattle.lists.specs.Choose.{choose, if_cases}
use Rattle.sar_cut.specs.declared.Framed.{Framed}
use Rattle.sar_cut.specs.Cutting.{frames_length, plan_send}
use Rattle.channel.specs.declared.Slot.{Slot}
use Rattle.definition.specs.Table.{is_connected, is_open, with_job, blocks}
use Rattle.definition.specs.Portions.{buffer_size, full_with}
use Rattle.slot_work.specs.Work.{sending_as}
use Rattle.slot_portion.specs.Filled.{Filled}
use Rattle.slot_portion.specs.Starting.{start_planned_of, start_of}
use Rattle.slot_portion.specs.Giving.{portioned_of, portion_of}
use Rattle.codes.specs.declared.Refusal.{Refusal}

-- ---- a start

abbrev BegunAlone : Slot → Filled → Type 0
BegunAlone x w = w.slot ≡ with_job w.slot.job (sending_as w.slot x)

planned-alone : (x : Slot) (l size : ℕ) (p : Result Framed Refusal) → BegunAlone x (start_planned_of x l size p)
unfolding start_planned_of
planned-alone x l size (Err r) = if_cases (λ y. y ≡ with_job y.job (sending_as y x)) (blocks r) (λ _. refl) (λ _. refl)
planned-alone x l size (Ok framed) = if_cases (BegunAlone x) (ltb size (buffer_size x.peer.mps l)) (λ _. refl) (λ _. refl)

pub start-alone : (x : Slot) (l size : ℕ) → (start_of x l size).slot ≡ with_job (start_of x l size).slot.job (sending_as (start_of x l size).slot x)
unfolding start_of
start-alone x l size =
    if_cases (BegunAlone x) (not (is_connected x.state)) (λ _. refl)
    (λ _. if_cases (BegunAlone x) (is_open x.job) (λ _. refl)
    (λ _. planned-alone x l size (plan_send l x.peer.mtu x.peer.mps x.peer.credits (frames_length l x.peer.mps))))

abbrev NoneOut : Filled → Type 0
NoneOut w = w.octets ≡ 0

planned-none : (x : Slot) (l size : ℕ) (p : Result Framed Refusal) → NoneOut (start_planned_of x l size p)
unfolding start_planned_of
planned-none x l size (Err r) = refl
planned-none x l size (Ok framed) = if_cases NoneOut (ltb size (buffer_size x.peer.mps l)) (λ _. refl) (λ _. refl)

-- a start gives no octet out
pub start_none : (x : Slot) (l size : ℕ) → (start_of x l size).octets ≡ 0
unfolding start_of
start_none x l size =
    if_cases NoneOut (not (is_connected x.state)) (λ _. refl)
    (λ _. if_cases NoneOut (is_open x.job) (λ _. refl)
    (λ _. planned-none x l size (plan_send l x.peer.mtu x.peer.mps x.peer.credits (frames_length l x.peer.mps))))

-- ---- a portion

portioned-alone : (x : Slot) (count : ℕ) → (portioned_of x count).slot ≡ with_job (portioned_of x count).slot.job x
unfolding portioned_of
portioned-alone x count = refl

pub portion-alone : (x : Slot) (count size : ℕ) → (portion_of x count size).slot ≡ with_job (portion_of x count size).slot.job x
unfolding portion_of choose
portion-alone x count size =
    go (not (is_connected x.state)) (not (is_open x.job)) (ltb size (buffer_size x.peer.mps x.job.length)) (ltb (x.job.length - x.job.taken) count) refl refl refl refl
  where
    go : (a b c d : Bool) → not (is_connected x.state) ≡ a → not (is_open x.job) ≡ b → ltb size (buffer_size x.peer.mps x.job.length) ≡ c
        → ltb (x.job.length - x.job.taken) count ≡ d → (portion_of x count size).slot ≡ with_job (portion_of x count size).slot.job x
    go true b c d e f g h = rw e
    go false true c d e f g h = rw (e, f)
    go false false true d e f g h = rw (e, f, g)
    go false false false true e f g h = rw (e, f, g, h)
    go false false false false e f g h = rw (e, f, g, h) (portioned-alone x count)

abbrev OutWithin : ℕ → Filled → Type 0
OutWithin size w = w.octets ≤ size

-- the frame that it gives out stands in the buffer
pub portion-within : (x : Slot) (count size : ℕ) → (portion_of x count size).octets ≤ size
unfolding portion_of portioned_of
portion-within x count size =
    if_cases (OutWithin size) (not (is_connected x.state)) (λ _. omega arith)
    (λ _. if_cases (OutWithin size) (not (is_open x.job)) (λ _. omega arith)
    (λ _. if_cases (OutWithin size) (ltb size (buffer_size x.peer.mps x.job.length)) (λ _. omega arith)
    (λ e. if_cases (OutWithin size) (ltb (x.job.length - x.job.taken) count) (λ _. omega arith)
    (λ _. let h = ltb-false size (buffer_size x.peer.mps x.job.length) e in
    if_cases (λ (n : ℕ). n ≤ size) (full_with x.peer.mps x.job count) (λ _. omega (arith, h)) (λ _. omega arith)))))
