-- What a cancel makes of one slot and of that slot's part of the room: its tests are the definition's (`cancel_on` of Portions.antt). And that in a
-- table that passed refusal 1 the credits that return fit.
use Rattle.std.specs.Prelude.{◌≡◌, refl, true, false, not, List, [], ◌∷◌, ℕ, zero, suc, ◌+◌, ◌≤◌, ◌<◌, eqb, leb, get_or, take}
use Rattle.std.proofs.Common.{arith, get_or-take, leb-true}
use Rattle.lists.specs.Choose.{if_cases}
use Rattle.lists.specs.Both.{and_left, and_right}
use Rattle.lists.specs.Every.{every}
use Rattle.codes.specs.declared.Refusal.TheVariants.{NotFound, ChannelClosed}
use Rattle.credit.specs.Account.{credit_sum}
use Rattle.channel.specs.Limits.{credits_most}
use Rattle.channel.specs.declared.Answer.TheVariants.{Done, Refused}
use Rattle.channel.specs.declared.ChannelState.TheVariants.{Disconnecting}
use Rattle.channel.specs.declared.Slot.{Slot}
use Rattle.channel.specs.declared.Table.{Table}
use Rattle.definition.specs.Table.{when◌then◌else◌, place_of, gap, slot_at, live, is_connected, is_open, job_fits, sizes_fit, slot_fits, well_formed, left}
use Rattle.definition.specs.Outcome.{unassembled}
use Rattle.definition.specs.Portions.{given_out, returned}
use Rattle.slot_work.specs.Work.{Work, kept, becomes}

unfoldable pub cancel_of : (place : ℕ) → Slot → Work
cancel_of place x =
    when not (is_connected x.state) then kept x (Refused ChannelClosed)
    else when not (is_open x.job) then kept x (Refused NotFound)
    else when eqb (given_out x.job) 0 then becomes (returned x) [] Done
    else becomes (left (Disconnecting false) x) (unassembled place ∷ []) Done

-- it writes nothing to an output
pub cancel_quiet : (place : ℕ) (x : Slot) → (cancel_of place x).out ≡ []
unfolding cancel_of
cancel_quiet place x =
    if_cases P (not (is_connected x.state)) (λ _. refl) (λ _. if_cases P (not (is_open x.job)) (λ _. refl) (λ _. if_cases P (eqb (given_out x.job) 0) (λ _. refl) (λ _. refl)))
  where
    P : Work → Type 0
    P w = w.out ≡ []

-- ---- what returns fits

pub sum_of : (d place : ℕ) (x : Slot) → slot_fits d place x ≡ true → x.peer.credits + x.job.aside ≤ credits_most
unfolding slot_fits
sum_of d place x e =
    let e1 = and_right (leb x.queue.count d) _ e in
    let e2 = and_right (every (λ n. leb n place) (take x.queue.count x.queue.lens)) _ e1 in
    let e3 = and_right (leb x.assembly.have place) _ e2 in
    let e4 = and_right (leb x.assembly.want place) _ e3 in
    let e5 = and_right (leb x.mtu place) _ e4 in
    let e6 = and_right (leb (credit_sum x.account) credits_most) _ e5 in
    leb-true (x.peer.credits + x.job.aside) credits_most (and_right (job_fits x.peer.mps x.job) _ e6)

sum_among : (d place : ℕ) (xs : List Slot) → every (slot_fits d place) xs ≡ true → (i : ℕ) → (get_or xs i gap).peer.credits + (get_or xs i gap).job.aside ≤ credits_most
unfolding every
sum_among d place [] e i = omega arith
sum_among d place (x ∷ xs) e zero = sum_of d place x (and_left (slot_fits d place x) _ e)
sum_among d place (x ∷ xs) e (suc i) = sum_among d place xs (and_right (slot_fits d place x) _ e) i

pub sum_fits : (t : Table) (s : ℕ) → well_formed t ≡ true → s < t.n → (slot_at t s).peer.credits + (slot_at t s).job.aside ≤ credits_most
unfolding well_formed
sum_fits t s well h =
    let all : every (slot_fits t.d (place_of t)) (live t) ≡ true = and_right (sizes_fit t.n t.d t.m) _ well in
    rw (← get_or-take t.n t.slots s gap h) (sum_among t.d (place_of t) (live t) all s)
