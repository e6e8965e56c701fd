-- Every kind of step keeps what we may send as it has to be: a job only in a Connected slot, its counts within its length and its frame, and the
-- peer's credits with those set aside at most 65,535; and one credit set aside for each frame to come. Arithmetic, and the laws of the frame count.
use Rattle.std.specs.Prelude.{◌≡◌, refl, Bool, true, false, ◌||◌, ℕ, zero, suc, ◌+◌, ◌-◌, ◌≤◌, ◌<◌, min, eqb}
use Rattle.std.proofs.Common.{sym, ap, ◌∙◌, subst, arith, eqb-true}
use Rattle.std.proofs.lemmas.Bool.{false≢true, eqb-false, not-true, not-false}
use Rattle.lists.specs.Choose.{choose, choose_true, choose_false, if_cases}
use Rattle.sar_cut.specs.Cutting.{ceil, frame_count}
use Rattle.sar_cut.proofs.CutLaws.{ceil_zero, ceil-more, count-holds}
use Rattle.channel.specs.Limits.{credits_most}
use Rattle.channel.specs.declared.OpenJob.{OpenJob}
use Rattle.channel.specs.declared.Peer.{Peer}
use Rattle.channel.specs.declared.Slot.{Slot}
use Rattle.definition.specs.Table.{is_connected, no_job}
use Rattle.definition.specs.Portions.{given_out, frame_size, taking, full_with, filled_by}
use Rattle.rules.proofs.Tests.{or_left, or_right}
use Rattle.rules.specs.Step.{Sending, stay, off, meet, shut, pay, gain, begin, portion, cancel}
use Rattle.rules.specs.Sound.{Owing}

-- where no job is open
pub none_owing : (connected : Bool) (p : Peer) → p.credits ≤ credits_most → Owing connected p no_job
none_owing connected p h =
    record {
      shut = λ _. refl;
      closed = λ _. refl;
      taken = λ _. omega arith;
      filled = λ _. (omega arith, omega arith);
      wide = λ some. absurd (omega arith);
      owed = λ some. absurd (omega arith);
      sum = omega arith;
    }

-- ---- a portion

module _ (mps : ℕ) (j : OpenJob) (count : ℕ) (fits : count ≤ j.length - j.taken) where
  -- what it takes is within the job, and within the frame
  within-job : j.taken ≤ j.length → j.taken + taking mps j count ≤ j.length
  within-job h = omega arith

  within-frame : j.filled ≤ mps → j.filled + taking mps j count ≤ mps
  within-frame h = omega arith

-- the stream's octets that are not given out yet, and the frames that carry them: the last one, or one and those behind it
module _ (mps left : ℕ) (wide : 0 < mps) where
  -- where any frame is to come, some octet is
  some_left : 0 < ceil left mps → 0 < left
  some_left h = by left refl
    where
      by : (n : ℕ) → left ≡ n → 0 < left
      by zero e = let z : ceil left mps ≡ 0 = ap (λ (n : ℕ). ceil n mps) e ∙ ceil_zero mps wide in absurd (omega arith)
      by (suc n) e = omega arith

  last-left : 0 < ceil left mps → left ≤ mps → ceil left mps ≡ 1
  last-left h l =
      let z : left - mps ≡ 0 = omega arith in
      ceil-more left mps wide (some_left h) ∙ ap (λ (n : ℕ). suc (ceil n mps)) z ∙ ap suc (ceil_zero mps wide)

  more_left : 0 < ceil left mps → ceil left mps - 1 ≡ ceil (left - mps) mps
  more_left h = let e = ceil-more left mps wide (some_left h) in omega arith

-- what is out after a portion: as before, or with the frame that was filled
same_out : (taken filled k : ℕ) → taken + k + 2 - (filled + k) ≡ taken + 2 - filled
same_out taken filled k = omega arith

back : (n k : ℕ) → k ≤ n → n - k + k ≡ n
back n k h = omega arith

-- (out: what was given out before)
module _ (mps l out : ℕ) where
  whole-mps : (out + min mps (l + 2 - out) ≡ l + 2 → ⊥) → 0 < l + 2 - out → min mps (l + 2 - out) ≡ mps
  whole-mps short some = omega arith

  moved_out : (taken filled k : ℕ) → out + filled ≡ taken + 2 → filled + k ≡ mps → l + 2 - (taken + k + 2 - 0) ≡ l + 2 - out - mps
  moved_out taken filled k e w = omega arith

  next-out : (taken filled k : ℕ) → out + filled ≡ taken + 2 → filled + k ≡ min mps (l + 2 - out) → (out + min mps (l + 2 - out) ≡ l + 2 → ⊥) → 0 < l + 2 - out
      → l + 2 - (taken + k + 2 - 0) ≡ l + 2 - out - mps
  next-out taken filled k e whole short some = moved_out taken filled k e (whole ∙ whole-mps short some)

module _ (connected : Bool) (p : Peer) (j : OpenJob) (count : ℕ) (some : 0 < j.aside) (fits : count ≤ j.length - j.taken) (o : Owing connected p j) where
  abbrev mps : ℕ
  mps = p.mps

  abbrev left : ℕ
  left = j.length + 2 - given_out j

  abbrev full : Bool
  full = full_with mps j count

  abbrev ends : Bool
  ends = eqb (given_out j + frame_size mps j) (j.length + 2)

  come : 0 < ceil left mps
  come = let e = o.owed some in omega arith

  -- the frame that is full carries the stream's last octets: the last credit is used
  last_credit : ends ≡ true → j.aside ≡ 1
  last_credit e =
      let z = eqb-true (given_out j + frame_size mps j) (j.length + 2) e in
      o.owed some ∙ last-left mps left (o.wide some) come (let y = some_left mps left (o.wide some) come in omega arith)

  -- "one a frame given out": a frame that a portion fills uses one of the credits set aside, and a portion that fills none uses none
  pub portion_aside : (filled_by mps j count).aside + choose full 1 0 ≡ j.aside
  portion_aside =
      if_cases (λ (k : OpenJob). k.aside + choose full 1 0 ≡ j.aside) _ (λ e. rw (choose_false {A = ℕ} full 1 0 (not-true full e)) (omega arith))
      (λ e. rw (choose_true {A = ℕ} full 1 0 (not-false full e))
      (if_cases (λ (k : OpenJob). k.aside + 1 ≡ j.aside) _ (λ f. sym (one ends refl f)) (λ f. omega arith)))
    where
      one : (b : Bool) → ends ≡ b → (b || eqb j.aside 1) ≡ true → j.aside ≡ 1
      one true e f = last_credit e
      one false e f = eqb-true j.aside 1 f

  pub portion_owing : connected ≡ true → Owing connected p (filled_by mps j count)
  portion_owing on =
      if_cases P _
      (λ _. record {
        shut = never;
        closed = λ z. absurd (omega arith);
        taken = λ _. within;
        filled = λ _. let h = o.filled some in (within-frame mps j count fits h.0, omega arith);
        wide = λ _. o.wide some;
        owed = λ _. rw (same_out j.taken j.filled (taking mps j count)) (o.owed some);
        sum = o.sum;
      })
      (λ e. if_cases P _ (λ _. none_owing connected p (let h = o.sum in omega arith))
      (λ f.
      let whole = eqb-true (j.filled + taking mps j count) (frame_size mps j) (not-false full e) in
      let short = eqb-false (given_out j + frame_size mps j) (j.length + 2) (or_left ends (eqb j.aside 1) f) in
      let more = eqb-false j.aside 1 (or_right ends (eqb j.aside 1) f) in
      let h = o.filled some in
      let y = some_left mps left (o.wide some) come in
      let z = next-out mps j.length (given_out j) j.taken j.filled (taking mps j count) (back (j.taken + 2) j.filled h.1) whole short y in
      record {
        shut = never;
        closed = λ z. absurd (more (omega arith));
        taken = λ _. within;
        filled = λ _. (omega arith, omega arith);
        wide = λ _. o.wide some;
        owed = λ _. rw z (ap (λ (n : ℕ). n - 1) (o.owed some) ∙ more_left mps left (o.wide some) come);
        sum = let h = o.sum in omega arith;
      }))
    where
      P : OpenJob → Type 0
      P k = Owing connected p k

      within : j.taken + taking mps j count ≤ j.length
      within = within-job mps j count fits (o.taken some)

      never : {k : OpenJob} → connected ≡ false → k ≡ no_job
      never e = absurd (false≢true (sym e ∙ on))

-- ---- every step

-- the frames of a job that is begun: its length's two octets come first
count-is : (l size : ℕ) → frame_count l size ≡ ceil (l + 2 - 0) size
unfolding frame_count
count-is l size = let z : l + 2 - 0 ≡ l + 2 = omega arith in rw z refl

pub sending_owing : (x : Slot) {connected : Bool} {p : Peer} {j : OpenJob} → Sending x connected p j → Owing (is_connected x.state) x.peer x.job → Owing connected p j
sending_owing x stay o = o
sending_owing x (off e) o = record { shut = λ _. o.shut e; closed = o.closed; taken = o.taken; filled = o.filled; wide = o.wide; owed = o.owed; sum = o.sum }
sending_owing x (meet {connected} {p} e h) o = subst (λ (j : OpenJob). Owing connected p j) (sym (o.shut e)) (none_owing connected p h)
sending_owing x shut o = none_owing false x.peer (let h = o.sum in omega arith)
sending_owing x (pay n) o =
    record { shut = o.shut; closed = o.closed; taken = o.taken; filled = o.filled; wide = o.wide; owed = o.owed; sum = let h = o.sum in omega arith }
sending_owing x (gain n h) o = record { shut = o.shut; closed = o.closed; taken = o.taken; filled = o.filled; wide = o.wide; owed = o.owed; sum = omega arith }
sending_owing x (begin l n on wide counts h) o =
    let some = (count-holds l x.peer.mps (omega arith)).some in
    record {
      shut = λ e. absurd (false≢true (sym e ∙ on));
      closed = λ z. absurd (omega arith);
      taken = λ _. omega arith;
      filled = λ _. (wide, omega arith);
      wide = λ _. omega arith;
      owed = λ _. counts ∙ count-is l x.peer.mps;
      sum = let s = o.sum in omega arith;
    }
sending_owing x (portion count on some h) o = portion_owing (is_connected x.state) x.peer x.job count some h o on
sending_owing x cancel o = none_owing (is_connected x.state) _ o.sum

-- a slot that is not Connected before the step has no job after it
pub sending-none : (x : Slot) {connected : Bool} {p : Peer} {j : OpenJob} → Sending x connected p j → is_connected x.state ≡ false → x.job ≡ no_job → j ≡ no_job
sending-none x stay e n = n
sending-none x (off f) e n = n
sending-none x (meet f h) e n = n
sending-none x shut e n = refl
sending-none x (pay m) e n = n
sending-none x (gain m h) e n = n
sending-none x (begin l m on wide some h) e n = absurd (false≢true (sym e ∙ on))
sending-none x (portion count on some h) e n = absurd (false≢true (sym e ∙ on))
sending-none x cancel e n = refl
