-- The header check over what is written, and over what it gives back.
use Rattle.std.specs.Prelude.{◌≡◌, List, [], ℕ, ◌+◌, ◌-◌, ◌*◌, ◌≤◌, ◌<◌, drop, length, ltb, Some, Ok, Result, Err}
use Rattle.std.proofs.Common.{sym, ◌∙◌, arith, length-drop, drop_of_length-le, take_all}
use borrow.Author.Tests.{ltb-false, lt-ltb, le-ltb}
use Rattle.lists.specs.Choose.{choose, if_cases}
use Rattle.lists.specs.Fuel.{whole, fuelled}
use Rattle.octets.specs.Octets.{u16_at}
use Rattle.octets.specs.Numbers.{le16_back}
use Rattle.signal_headers.specs.Headers.{header_of, headers_of, headers_eq, size_of, body_in, rest_of, rest_if}
use Rattle.signal_headers.specs.declared.BadHeader.{BadHeader}
use Rattle.signal_headers.specs.declared.BadHeader.TheVariants.{Cut, Past}
use Rattle.signal_forms.specs.declared.Signal.{Signal}
use Rattle.signal_read.specs.SignalRead.{signal_of}
use Rattle.signal_write.specs.Writer.{octets_of, pdu_of, code_of, fields_of, encode_of}
use Rattle.signal_laws.specs.Fields.{octets_length}
use Rattle.signal_laws.specs.RoundTrip.{round_trip}

-- A signal of code, identifier and fields as it is written, behind the four octets of length and CID.
module _ (code id : ℕ) (fs : List ℕ) where
  abbrev pub pdu : List ℕ
  pdu = drop 4 (pdu_of code id fs)

  size : u16_at pdu 2 ≡ 2 * length fs
  size = le16_back (2 * length fs)

  whole_length : length pdu ≡ 4 + 2 * length fs
  whole_length = rw (octets_length fs) (omega arith)

  past : drop (size_of pdu) pdu ≡ []
  past = drop_of_length-le pdu {i = size_of pdu} (omega (arith, size, whole_length))

  -- it passes the check
  pub pdu-good : headers_of pdu ≡ Ok tt
  unfolding headers_of whole fuelled choose
  pdu-good =
      headers_eq pdu
      ∙ rw (lt-ltb 0 (length pdu) (omega (arith, whole_length)), le-ltb (length pdu) 4 (omega (arith, whole_length)), le-ltb (length pdu - 4) (u16_at pdu 2) (omega (arith, size, whole_length)), past)

  -- and leaves the empty part
  pub pdu_rest : rest_of pdu ≡ []
  pdu_rest = rw pdu-good past

  -- its header and its body are those that were meant
  pub pdu-header : header_of pdu ≡ Some (record { code = code; identifier = id; length = 2 * length fs })
  unfolding header_of choose
  pdu-header = rw (le-ltb (length pdu) 4 (omega (arith, whole_length)), size)

  pub pdu_body : body_in pdu ≡ octets_of fs
  pdu_body = rw size (take_all (2 * length fs) (octets_of fs) (omega (arith, octets_length fs)))

pub written-good : (id : ℕ) (s : Signal) → headers_of (drop 4 (encode_of id s)) ≡ Ok tt
unfolding encode_of
written-good id s = pdu-good (code_of s) id (fields_of s)

pub written_rest : (id : ℕ) (s : Signal) → rest_of (drop 4 (encode_of id s)) ≡ []
unfolding encode_of
written_rest id s = pdu_rest (code_of s) id (fields_of s)

-- so a written signal is read as what was meant
pub written_back : (id : ℕ) (s : Signal) → signal_of (code_of s) (body_in (drop 4 (encode_of id s))) ≡ Ok s
unfolding encode_of
written_back id s = rw (pdu_body (code_of s) id (fields_of s)) (round_trip s)

-- after a good check, what is given back passes the check too
pub rest_good : (s : List ℕ) → headers_of s ≡ Ok tt → headers_of (rest_of s) ≡ Ok tt
unfolding headers_of whole fuelled
rest_good s g =
    rw g
    (if_cases (λ (k : Result (Unit {0}) BadHeader). k ≡ Ok tt → headers_of (drop (size_of s) s) ≡ Ok tt) (ltb 0 (length s))
    (λ _. if_cases (λ (k : Result (Unit {0}) BadHeader). k ≡ Ok tt → headers_of (drop (size_of s) s) ≡ Ok tt) (ltb (length s) 4) (λ _ e. let no : ◌≡◌ {A = ℕ} 0 1 = cc in absurd (omega arith))
    (λ _. if_cases (λ (k : Result (Unit {0}) BadHeader). k ≡ Ok tt → headers_of (drop (size_of s) s) ≡ Ok tt) (ltb (length s - 4) (u16_at s 2)) (λ _ e. let no : ◌≡◌ {A = ℕ} 0 1 = cc in absurd (omega arith))
    (λ _ e. e)))
    (λ h _. rw (drop_of_length-le s {i = size_of s} (omega (arith, ltb-false 0 (length s) h))))
    (sym (headers_eq s) ∙ g))

-- what is given back is shorter
less : (k : Result (Unit {0}) BadHeader) (s : List ℕ) → length (rest_if k s) ≤ length s - 1
less (Ok tt) s = simp length-drop (omega arith)
less (Err Cut) s = omega arith
less (Err (Past i)) s = omega arith

pub rest_less : (s : List ℕ) → length (rest_of s) ≤ length s - 1
rest_less s = less (headers_of s) s

pub rest_shorter : (s : List ℕ) → 0 < length s → length (rest_of s) < length s
rest_shorter s h = omega (arith, rest_less s)
