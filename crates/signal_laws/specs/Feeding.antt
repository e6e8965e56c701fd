-- A whole PDU is fed one call a signal (`feeds_of`, crate signal_headers). The calls are no more than the PDU's octets, and only the first can be refused by
-- the header check.
use Rattle.std.specs.Prelude.{◌≡◌, refl, List, [], ◌∷◌, ℕ, zero, suc, ◌≤◌, ◌<◌, ltb, length, Result, Ok, Err}
use Rattle.std.proofs.Common.{◌∙◌, arith, lt-ltb, le-ltb}
use Rattle.lists.specs.Choose.{choose, if_cases}
use Rattle.lists.specs.Fuel.{fuelled, whole, whole_eq}
use Rattle.signal_headers.specs.declared.BadHeader.{BadHeader}
use Rattle.signal_headers.specs.declared.BadHeader.TheVariants.{Cut, Past}
use Rattle.signal_headers.specs.Headers.{headers_of, rest_if, rest_of, feeds_by, feeds_of}
use Rattle.signal_laws.specs.Headers.{rest_good, rest_less}

-- what feeds a PDU: nothing where it is empty, else itself and what feeds that which it leaves
pub feeds_eq : (s : List ℕ) → feeds_of s ≡ feeds_by feeds_of s
unfolding feeds_of choose
feeds_eq = whole_eq [] feeds_by rest_of rest_less (λ go go' s e. rw e) (λ go s h. rw (le-ltb 0 (length s) h))

pub feeds_more : (s : List ℕ) → 0 < length s → feeds_of s ≡ s ∷ feeds_of (rest_of s)
unfolding choose
feeds_more s h = feeds_eq s ∙ rw (lt-ltb 0 (length s) h)

pub feeds_none : (s : List ℕ) → length s ≤ 0 → feeds_of s ≡ []
unfolding choose
feeds_none s h = feeds_eq s ∙ rw (le-ltb 0 (length s) h)

within : (f : ℕ) (s : List ℕ) → length (fuelled [] feeds_by f s) ≤ f
unfolding fuelled
within zero s = omega arith
within (suc f) s = if_cases (λ (l : List (List ℕ)). length l ≤ suc f) (ltb 0 (length s)) (λ h. omega (arith, within f (rest_of s))) (λ h. omega arith)

pub feeds_most : (s : List ℕ) → length (feeds_of s) ≤ length s
unfolding feeds_of whole
feeds_most s = within (length s) s

-- what any PDU leaves passes the check: a refusal leaves nothing
left-good : (k : Result (Unit {0}) BadHeader) (s : List ℕ) → headers_of s ≡ k → headers_of (rest_if k s) ≡ Ok tt
unfolding headers_of whole fuelled
left-good (Ok tt) s e = rw e at (rest_good s e)
left-good (Err Cut) s e = refl
left-good (Err (Past i)) s e = refl

pub all_good : (s : List ℕ) → headers_of (rest_of s) ≡ Ok tt
all_good s = left-good (headers_of s) s refl
