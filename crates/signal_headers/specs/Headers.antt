-- The signals in a PDU (Core Vol 3 Part A 4), each a header and a body, and what stands after the first (FirstSignal).
-- Document 01: every header is checked first; then the first signal is handled, and what stands after it is given back.
use Rattle.std.specs.Prelude.{◌≡◌, List, [], ◌∷◌, ℕ, ◌-◌, length, get_or, drop, ltb, Result, Ok, Err}
use Rattle.std.proofs.Common.{arith, length-drop, le-ltb}
use Rattle.lists.specs.Choose.{choose}
use Rattle.lists.specs.Fuel.{whole, whole_eq}
use Rattle.octets.specs.Octets.{u16_at}
unfoldable pub use Rattle.signal_headers.specs.FirstSignal.{header_of}
pub use Rattle.signal_headers.specs.FirstSignal.{size_of, body_in}
use Rattle.signal_headers.specs.declared.BadHeader.{BadHeader}
use Rattle.signal_headers.specs.declared.BadHeader.TheVariants.{Cut, Past}

-- one turn of the check: nothing left is good; a header under 4 octets, and a body that runs past the PDU, are not; `go` checks what is
-- left after the first signal
abbrev pub headers_by : (List ℕ → Result (Unit {0}) BadHeader) → List ℕ → Result (Unit {0}) BadHeader
headers_by go s =
    choose (ltb 0 (length s))
    (choose (ltb (length s) 4) (Err Cut)
    (choose (ltb (length s - 4) (u16_at s 2)) (Err (Past (get_or s 1 0)))
    (go (drop (size_of s) s))))
    (Ok tt)

unfoldable pub headers_of : List ℕ → Result (Unit {0}) BadHeader
headers_of = whole (Ok tt) headers_by

-- the check of a PDU is one turn, and the check of what it leaves
pub headers_eq : (s : List ℕ) → headers_of s ≡ headers_by headers_of s
unfolding headers_of choose
headers_eq =
    whole_eq (Ok tt) headers_by (λ s. drop (size_of s) s) (λ s. simp length-drop (omega arith)) (λ go go' s e. rw e)
    (λ go s h. rw (le-ltb 0 (length s) h))

-- what a PDU leaves after its first signal, by what the check of its headers found
abbrev pub rest_if : Result (Unit {0}) BadHeader → List ℕ → List ℕ
rest_if (Ok tt) s = drop (size_of s) s
rest_if (Err e) s = []

abbrev pub rest_of : List ℕ → List ℕ
rest_of s = rest_if (headers_of s) s

-- a whole PDU is given one call a signal: itself, then what the call before left, until nothing is left
abbrev pub feeds_by : (List ℕ → List (List ℕ)) → List ℕ → List (List ℕ)
feeds_by go s = choose (ltb 0 (length s)) (s ∷ go (rest_of s)) []

unfoldable pub feeds_of : List ℕ → List (List ℕ)
feeds_of = whole [] feeds_by
