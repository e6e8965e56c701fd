-- Laws of joining: the cases of the step. They rest on the definitions of Joining.antt and on the order of numbers.
use Rattle.std.specs.Prelude.{◌≡◌, ℕ, ◌+◌, ◌-◌, ◌≤◌, ◌<◌, Ok, Err}
use Rattle.std.proofs.Common.{arith}
use borrow.Author.Tests.{lt-ltb, le-ltb, le-leb, lt-leb, eq-eqb, ne_eqb}
use Rattle.lists.specs.Choose.{choose}
use Rattle.codes.specs.declared.Refusal.TheVariants as Refusal
use Rattle.sar_join.specs.declared.Assembly.{Assembly}
use Rattle.sar_join.specs.declared.Joined.TheVariants.{Dropped, Finished, Assembling}
use Rattle.sar_join.specs.Joining.{reached, first_step, join_step}

-- ---- what is reached, case by case
module _ (d queued want have : ℕ) where
  pub reached_over : want < have → Err Refusal.InvalidValue ≡ reached d queued want have
  unfolding reached choose
  reached_over h = rw (lt-ltb want have h)

  pub reached-part : have < want → Ok (Assembling (record { have = have; want = want })) ≡ reached d queued want have
  unfolding reached choose
  reached-part h = rw (le-ltb want have (omega arith), lt-ltb have want h)

  module _ (exact : have ≡ want) where
    pub reached-full : d ≤ queued → Ok Dropped ≡ reached d queued want have
    unfolding reached choose
    reached-full h = rw (le-ltb want have (omega arith), le-ltb have want (omega arith), le-leb d queued h)

    pub reached-whole : queued < d → Ok (Finished want) ≡ reached d queued want have
    unfolding reached choose
    reached-whole h = rw (le-ltb want have (omega arith), le-ltb have want (omega arith), lt-leb d queued h)

-- ---- the step, case by case
module _ (mtu mps d : ℕ) (a : Assembly) (queued n said : ℕ) where
  pub above_mps : mps < n → Err Refusal.InvalidValue ≡ join_step mtu mps d a queued n said
  unfolding join_step choose
  above_mps h = rw (lt-ltb mps n h)

  module _ (fits : n ≤ mps) where
    module _ (none : a.want ≡ 0) where
      pub first_short : n < 2 → Err Refusal.ShortFrame ≡ join_step mtu mps d a queued n said
      unfolding join_step first_step choose
      first_short h = rw (le-ltb mps n fits, eq-eqb a.want 0 none, lt-ltb n 2 h)

      module _ (long : 2 ≤ n) where
        pub first_above_mtu : mtu < said → Err Refusal.InvalidValue ≡ join_step mtu mps d a queued n said
        unfolding join_step first_step choose
        first_above_mtu h = rw (le-ltb mps n fits, eq-eqb a.want 0 none, le-ltb n 2 long, lt-ltb mtu said h)

        pub first_reaches : said ≤ mtu → reached d queued said (n - 2) ≡ join_step mtu mps d a queued n said
        unfolding join_step first_step choose
        first_reaches h = rw (le-ltb mps n fits, eq-eqb a.want 0 none, le-ltb n 2 long, le-ltb mtu said h)

    pub next_reaches : (a.want ≡ 0 → ⊥) → reached d queued a.want (a.have + n) ≡ join_step mtu mps d a queued n said
    unfolding join_step choose
    next_reaches some = rw (le-ltb mps n fits, ne_eqb a.want 0 some)
