-- Long division by halved steps: what stands before each turn, what a turn makes of it, and that it ends in the quotient. All of it is arithmetic.
use Rattle.std.specs.Prelude.{◌≡◌}
use Rattle.std.proofs.Common.{ap, zero-mul, add-mul, mul_comm, mul_assoc, mul-le-mul_left, lt_of_mul-lt-mul_right}
use Prim.Native.Nat.{ℕ, zero, suc, ◌+◌, ◌-◌, ◌*◌, ◌/◌, ◌≤◌, ◌<◌}
use Rattle.std.proofs.Math.Nat.{mul_left_comm, div-eq_of_lt, mul-add-div_right}
use native.Mathlib.Omega.{arith}
use Rattle.sar_cut.specs.Division.{Dividing, doubled}

doubled_some : (m t : ℕ) → m ≤ doubled m t
unfolding doubled
doubled_some m zero = omega arith
doubled_some m (suc t) = omega (arith, doubled_some m t)

-- before the first, 17 are left
pub dividing_first : (x m step : ℕ) → x < m * 131072 → step ≡ m * 65536 → Dividing x m 0 x step
unfolding doubled
dividing_first x m step h e = record { turns = 17; halved = omega arith; whole = omega (arith, zero-mul (doubled m 17)); less = omega arith }

module _ {x m q rest step : ℕ} (h : x < m * 131072) (d : Dividing x m q rest step) where
  -- the quotient has 17 bits
  pub dividing_small : q < 131072
  dividing_small =
      let counted = mul-le-mul_left q (doubled_some m d.turns) in
      lt_of_mul-lt-mul_right m (omega (arith, d.whole, mul_comm m 131072))

  -- another turn comes where the step is m or more: the stretch was two steps
  record Turn : Type 0 where
    pub left : ℕ
    pub is : step ≡ doubled m left
    pub whole : x ≡ 2 * (q * step) + rest
    pub less : rest < 2 * step

  turn : m ≤ step → Turn
  unfolding doubled
  turn more = go d.turns d.halved d.whole d.less
    where
      go : (t : ℕ) → step ≡ doubled m t / 2 → x ≡ q * doubled m t + rest → rest < doubled m t → Turn
      go zero e w l = absurd (omega arith)
      go (suc t) e w l =
          let s : step ≡ doubled m t = omega arith in
          record { left = t; is = s; whole = rw s (omega (arith, mul_left_comm q 2 (doubled m t))); less = omega arith }

  module _ (more : m ≤ step) where
    -- what it leaves where the step is counted, and where it is not
    pub dividing_counted : step ≤ rest → Dividing x m (2 * q + 1) (rest - step) (step / 2)
    dividing_counted g =
        let t = turn more in
        let counted = add-mul (2 * q) 1 step in
        record { turns = t.left; halved = ap (λ (k : ℕ). k / 2) t.is; whole = rw (← t.is) (omega (arith, t.whole, mul_assoc 2 q step)); less = omega (arith, t.is, t.less) }

    pub dividing_passed : rest < step → Dividing x m (2 * q) rest (step / 2)
    dividing_passed g =
        let t = turn more in
        record { turns = t.left; halved = ap (λ (k : ℕ). k / 2) t.is; whole = rw (← t.is) (omega (arith, t.whole, mul_assoc 2 q step)); less = omega (arith, t.is) }

  -- and none where it is less
  pub dividing_last : step < m → q ≡ x / m
  unfolding doubled
  dividing_last few = go d.turns d.halved d.whole d.less
    where
      go : (t : ℕ) → step ≡ doubled m t / 2 → x ≡ q * doubled m t + rest → rest < doubled m t → q ≡ x / m
      go zero e w l = rw (w, mul-add-div_right {m = m} (omega arith) q rest, div-eq_of_lt {n = rest} {m = m} l) (omega arith)
      go (suc t) e w l = absurd (omega (arith, doubled_some m t))
