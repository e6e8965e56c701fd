-- What the policies say, case by case. They rest on the definitions of Account.antt.
use Rattle.std.specs.Prelude.{◌≡◌, ℕ, ◌≤◌, ◌<◌, None, Some}
use Rattle.lists.specs.Choose.{choose}
use borrow.Author.Tests.{lt-ltb, le-ltb, le-leb, lt-leb, eq-eqb, ne_eqb}
use Rattle.credit.specs.declared.CreditFlowPolicy.TheVariants.{Every, MinThreshold}
use Rattle.credit.specs.declared.CreditFlowControl.{CreditFlowControl}
use Rattle.credit.specs.Account.{due, grant_of}

module _ (a : CreditFlowControl) (some : a.received ≡ 0 → ⊥) where
  pub every-reached : (k : ℕ) → a.policy ≡ Every k → k ≤ a.received → Some a.received ≡ grant_of a
  unfolding grant_of due choose
  every-reached k p h = rw (ne_eqb _ 0 some, p, le-leb k _ h)

  pub every_under : (k : ℕ) → a.policy ≡ Every k → a.received < k → None ≡ grant_of a
  unfolding grant_of due choose
  every_under k p h = rw (ne_eqb _ 0 some, p, lt-leb k _ h)

  pub threshold_under : (t : ℕ) → a.policy ≡ MinThreshold t → a.credits < t → Some a.received ≡ grant_of a
  unfolding grant_of due choose
  threshold_under t p h = rw (ne_eqb _ 0 some, p, lt-ltb _ t h)

  pub threshold-reached : (t : ℕ) → a.policy ≡ MinThreshold t → t ≤ a.credits → None ≡ grant_of a
  unfolding grant_of due choose
  threshold-reached t p h = rw (ne_eqb _ 0 some, p, le-ltb _ t h)

pub none-received : (a : CreditFlowControl) → a.received ≡ 0 → None ≡ grant_of a
unfolding grant_of choose
none-received a e = rw (eq-eqb _ 0 e)
