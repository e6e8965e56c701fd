-- Laws of joining in the room: what a step says, from its cases, and where a finished job lies.
use Rattle.std.specs.Prelude.{◌≡◌, ℕ, suc, ◌+◌, ◌-◌, ◌*◌, ◌≤◌, ◌<◌, List, length, ltb, leb, Result, Ok, Err}
use Rattle.std.proofs.Common.{add-one, suc-mul, mul-le-mul_right, arith}
use Rattle.std.proofs.Math.ListN.{length-drop}
use Rattle.octets.specs.Octets.{u16_at}
use borrow.Author.Tests.{ltb-true, ltb-false, leb-true, leb-false, eqb-true, eqb-false, eq-eqb, ne_eqb}
use Rattle.lists.specs.Choose.{choose, if_cases}
use Rattle.codes.specs.declared.Refusal.TheVariants as Refusal
use Rattle.sar_join.specs.declared.Assembly.{Assembly}
use Rattle.sar_join.specs.declared.Joined.{Joined}
use Rattle.sar_join.specs.declared.Joined.TheVariants.{Dropped, Finished, Assembling}
use Rattle.sar_join.specs.Joining.{is_idle, reached, first_step, join_step, assembled, job_octets}
use Rattle.codes.specs.declared.Refusal.{Refusal}

-- ---- what a step says

-- what holds of each case holds of what is reached
module _ (d queued want have : ℕ) where
  pub reached_cases : (P : Result Joined Refusal → Type 0) → (want < have → P (Err Refusal.InvalidValue)) → (have < want → P (Ok (Assembling (record { have = have; want = want }))))
      → (have ≡ want → d ≤ queued → P (Ok Dropped)) → (have ≡ want → queued < d → P (Ok (Finished want))) → P (reached d queued want have)
  unfolding reached
  reached_cases P over part full whole =
      if_cases P (ltb want have) (λ t. over (ltb-true want have t)) (λ t. if_cases P (ltb have want) (λ u. part (ltb-true have want u))
      (λ u. let e : have ≡ want = omega (arith, ltb-false want have t, ltb-false have want u) in
      if_cases P (leb d queued) (λ v. full e (leb-true d queued v)) (λ v. whole e (leb-false d queued v))))

-- the octets that are there with a payload p, and the length of their job
abbrev pub total : Assembly → List ℕ → ℕ
total a p = assembled a + length (job_octets a p)

unfoldable pub wanted : Assembly → List ℕ → ℕ
wanted a p = choose (is_idle a) (u16_at p 0) a.want

module _ (a : Assembly) (p : List ℕ) where
  pub total_first : a.want ≡ 0 → total a p ≡ length p - 2
  unfolding assembled job_octets choose
  total_first none = rw (eq-eqb a.want 0 none, length-drop 2 p) (omega arith)

  pub total-next : (a.want ≡ 0 → ⊥) → total a p ≡ a.have + length p
  unfolding assembled job_octets choose
  total-next some = rw (ne_eqb a.want 0 some)

  pub wanted-first : a.want ≡ 0 → wanted a p ≡ u16_at p 0
  unfolding wanted choose
  wanted-first none = rw (eq-eqb a.want 0 none)

  pub wanted-next : (a.want ≡ 0 → ⊥) → wanted a p ≡ a.want
  unfolding wanted choose
  wanted-next some = rw (ne_eqb a.want 0 some)

-- what holds of each case holds of the step
module _ (mtu mps d : ℕ) (a : Assembly) (queued : ℕ) (p : List ℕ) where
  abbrev pub Admitted : Type 0
  Admitted = a.want ≡ 0 → wanted a p ≤ mtu

  pub step_cases : (P : Result Joined Refusal → Type 0) → (a.want ≡ 0 → length p < 2 → P (Err Refusal.ShortFrame)) → P (Err Refusal.InvalidValue)
      → (Admitted → total a p < wanted a p → P (Ok (Assembling (record { have = total a p; want = wanted a p }))))
      → (total a p ≡ wanted a p → d ≤ queued → P (Ok Dropped)) → (Admitted → total a p ≡ wanted a p → queued < d → P (Ok (Finished (wanted a p))))
      → P (join_step mtu mps d a queued (length p) (u16_at p 0))
  unfolding join_step first_step
  step_cases P short bad part full whole =
      if_cases P (ltb mps (length p)) (λ _. bad)
      (λ _. if_cases P (is_idle a)
      (λ t. let none = eqb-true a.want 0 t in
      if_cases P (ltb (length p) 2) (λ s. short none (ltb-true (length p) 2 s))
      (λ s. if_cases P (ltb mtu (u16_at p 0)) (λ u. bad)
      (λ u. let in-mtu : Admitted = λ z. rw (wanted-first a p none) (ltb-false mtu (u16_at p 0) u) in
      rw (wanted-first a p none, total_first a p none) at (reaches in-mtu))))
      (λ t. let some = eqb-false a.want 0 t in
      rw (wanted-next a p some, total-next a p some) at (reaches (λ z. absurd (some z)))))
    where
      reaches : Admitted → P (reached d queued (wanted a p) (total a p))
      reaches m = reached_cases d queued (wanted a p) (total a p) P (λ h. bad) (part m) full (whole m)

  -- a job is finished only where a place is free
  pub finished-free : (n : ℕ) → join_step mtu mps d a queued (length p) (u16_at p 0) ≡ Ok (Finished n) → queued < d
  finished-free n =
      step_cases (λ r. r ≡ Ok (Finished n) → queued < d) (λ z s e. let f : ◌≡◌ {A = ℕ} 0 1 = cc in absurd (omega arith)) (λ e. let f : ◌≡◌ {A = ℕ} 0 1 = cc in absurd (omega arith))
      (λ m s e. let f : ◌≡◌ {A = ℕ} 0 1 = cc in absurd (omega arith)) (λ x f e. let f : ◌≡◌ {A = ℕ} 0 1 = cc in absurd (omega arith)) (λ m x f e. f)

-- its place lies behind the place for assembly, and within the slot's part
pub record Within (place d queued long : ℕ) : Type 0 where
  pub behind : place ≤ (queued + 1) * place
  pub inside : (queued + 1) * place + place ≤ long

pub within : (place d queued long : ℕ) → queued < d → (d + 1) * place ≤ long → Within place d queued long
within place d queued long h l =
    let a = suc-mul queued place in
    let b = suc-mul (queued + 1) place in
    let m : suc (queued + 1) * place ≤ (d + 1) * place = mul-le-mul_right place (omega arith) in
    record { behind = rw (add-one queued) (omega arith); inside = omega arith }
