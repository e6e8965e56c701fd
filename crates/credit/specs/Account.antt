-- The credit account (document 01, 'Cutting, joining, credits'; Core Vol 3 Part A 10.1): what each of its operations gives.
-- A frame uses one credit of the peer's; a grant gives back what was used. Both numbers saturate, as in the original.
use Rattle.std.specs.Prelude.{Bool, ℕ, ◌+◌, ◌-◌, min, eqb, leb, ltb, None, Option, Some}
use Rattle.lists.specs.Choose.{choose}
use Rattle.credit.specs.declared.CreditFlowPolicy.{CreditFlowPolicy}
use Rattle.credit.specs.declared.CreditFlowPolicy.TheVariants.{Every, MinThreshold}
use Rattle.credit.specs.declared.CreditFlowControl.{CreditFlowControl}

-- credits, and the sum of those held and received, end here
abbrev pub credits_most : ℕ
credits_most = 65535

abbrev pub new_account : CreditFlowPolicy → ℕ → CreditFlowControl
new_account p n = record { policy = p; credits = n; received = 0 }

-- n frames came
abbrev pub received : CreditFlowControl → ℕ → CreditFlowControl
received a n = record { policy = a.policy; credits = a.credits - n; received = min (a.received + n) credits_most }

-- n credits were granted
abbrev pub granted : CreditFlowControl → ℕ → CreditFlowControl
granted a n = record { policy = a.policy; credits = min (a.credits + n) credits_most; received = a.received - n }

-- "Every(k) grants all received when received ≥ k, MinThreshold(t) when credits < t"
unfoldable pub due : CreditFlowPolicy → ℕ → ℕ → Bool
due (Every k) credits received = leb k received
due (MinThreshold t) credits received = ltb credits t

-- ".. never 0 credits"
unfoldable pub grant_of : CreditFlowControl → Option ℕ
grant_of a = choose (eqb a.received 0) None (choose (due a.policy a.credits a.received) (Some a.received) None)

-- the credits that a grant stands for
unfoldable pub grant_credits : Option ℕ → ℕ
grant_credits None = 0
grant_credits (Some n) = n

-- "Credits held plus received"
abbrev pub credit_sum : CreditFlowControl → ℕ
credit_sum a = a.credits + a.received
