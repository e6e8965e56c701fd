-- Laws of the account: held plus received stays through frames and grants, a grant gives all that was received, nothing wraps.
-- They rest on the definitions of credit's Account.antt and on arithmetic.
use Rattle.std.specs.Prelude.{◌≡◌, refl, Bool, true, false, ℕ, zero, suc, ◌-◌, ◌≤◌, ◌<◌, eqb, None, Option, Some}
use Rattle.std.proofs.Common.{sym, arith, ne_eqb}
use Rattle.lists.specs.Choose.{choose}
use Rattle.credit.specs.declared.CreditFlowControl.{CreditFlowControl}
use Rattle.credit.specs.Account.{received, granted, due, grant_of, grant_credits, credit_sum, credits_most}

-- frames that had their credits leave the sum
pub received-sum : (a : CreditFlowControl) (n : ℕ) → credit_sum a ≤ credits_most → n ≤ a.credits → credit_sum (received a n) ≡ credit_sum a
received-sum a n h k = omega arith

-- and so does a grant of no more than was received
pub granted-sum : (a : CreditFlowControl) (n : ℕ) → credit_sum a ≤ credits_most → n ≤ a.received → credit_sum (granted a n) ≡ credit_sum a
granted-sum a n h k = omega arith

-- whatever is granted is all that was received, and not 0
pub record Granted (a : CreditFlowControl) (n : ℕ) : Type 0 where
  pub all : n ≡ a.received
  pub some : 0 < n

pub grant-is : (a : CreditFlowControl) (n : ℕ) → grant_of a ≡ Some n → Granted a n
unfolding grant_of choose
grant-is a n = by-received a.received refl
  where
    by-due : (r : ℕ) (b : Bool) → choose b (Some r) None ≡ Some n → n ≡ r
    by-due r true e = let f : r ≡ n = cc in sym f
    by-due r false e = let z : ◌≡◌ {A = ℕ} 0 1 = cc in absurd (omega arith)

    by-received : (r : ℕ) → a.received ≡ r → choose (eqb r 0) None (choose (due a.policy a.credits r) (Some r) None) ≡ Some n → Granted a n
    by-received zero q e = let z : ◌≡◌ {A = ℕ} 0 1 = cc in absurd (omega arith)
    by-received (suc r) q e = let f : n ≡ suc r = by-due (suc r) (due a.policy a.credits (suc r)) (rw (ne_eqb (suc r) 0 (λ z. omega arith)) at e) in record { all = cc; some = omega arith }

-- a grant leaves nothing received, and the sum
pub record Settled (a b : CreditFlowControl) : Type 0 where
  pub sum : credit_sum b ≡ credit_sum a
  pub none : b.received ≡ 0

pub grant_settles : (a : CreditFlowControl) (n : ℕ) → credit_sum a ≤ credits_most → grant_of a ≡ Some n → Settled a (granted a n)
grant_settles a n h e =
    let g = grant-is a n e in
    record { sum = granted-sum a n h (omega arith); none = omega arith }

-- the same for whatever the policy says, credits or nothing
pub settle_sum : (a : CreditFlowControl) → credit_sum a ≤ credits_most → credit_sum (granted a (grant_credits (grant_of a))) ≡ credit_sum a
unfolding grant_credits
settle_sum a h = go (grant_of a) refl
  where
    go : (g : Option ℕ) → grant_of a ≡ g → credit_sum (granted a (grant_credits g)) ≡ credit_sum a
    go None e = granted-sum a 0 h (omega arith)
    go (Some n) e = (grant_settles a n h e).sum

-- no number leaves 16 bits, whatever the account
pub record Fits (a : CreditFlowControl) : Type 0 where
  pub credits : a.credits ≤ credits_most
  pub received : a.received ≤ credits_most

pub received-fits : (a : CreditFlowControl) (n : ℕ) → Fits a → Fits (received a n)
received-fits a n f = record { credits = omega arith; received = omega arith }

pub granted-fits : (a : CreditFlowControl) (n : ℕ) → Fits a → Fits (granted a n)
granted-fits a n f = record { credits = omega arith; received = omega arith }
