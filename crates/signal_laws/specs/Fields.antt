-- Fields of two octets and the octets that they make, both ways, for any number of fields.
use Rattle.std.specs.Prelude.{◌≡◌, refl, List, [], ◌∷◌, ℕ, zero, suc, ◌+◌, ◌*◌, ◌<◌, length}
use Rattle.std.proofs.Common.{ap, suc-add, arith}
use Rattle.octets.specs.Octets.{u16_at}
use Rattle.octets.specs.Numbers.{lo_back, hi_back, lo_octet, hi_octet}
use Rattle.signal_write.specs.Writer.{octets_of}

-- octets are below 256, and fields below 65,536
abbrev pub Below : ℕ → List ℕ → Type 0
Below k [] = Unit
Below k (a ∷ s) = (a < k) × Below k s

-- n fields of s, from index `at` on
abbrev pub fields_at : ℕ → ℕ → List ℕ → List ℕ
fields_at zero at s = []
fields_at (suc n) at s = u16_at s at ∷ fields_at n (suc (suc at)) s

fields_later : (n at a b : ℕ) (s : List ℕ) → fields_at n (suc (suc at)) (a ∷ b ∷ s) ≡ fields_at n at s
fields_later zero at a b s = refl
fields_later (suc n) at a b s = rw (suc-add (suc at) 1, suc-add at 1) (ap (λ (r : List ℕ). u16_at s at ∷ r) (fields_later n (suc (suc at)) a b s))

-- octets in pairs are the fields' octets
pub octets_back : (n : ℕ) (s : List ℕ) → length s ≡ n + n → Below 256 s → octets_of (fields_at n 0 s) ≡ s
octets_back zero [] e o = refl
octets_back zero (a ∷ s) e o = absurd (omega arith)
octets_back (suc n) [] e o = absurd (omega arith)
octets_back (suc n) (a ∷ []) e o = absurd (omega arith)
octets_back (suc n) (a ∷ b ∷ s) e o = rw (fields_later n 0 a b s, lo_back a b o.0, hi_back a b o.0, octets_back n s (omega arith) o.1.1)

pub octets_length : (fs : List ℕ) → length (octets_of fs) ≡ 2 * length fs
octets_length [] = refl
octets_length (f ∷ fs) = omega (arith, octets_length fs)

-- what is written of numbers are octets
pub octets_below : (fs : List ℕ) → Below 65536 fs → Below 256 (octets_of fs)
octets_below [] h = tt
octets_below (f ∷ fs) h = (lo_octet f, (hi_octet f h.0, octets_below fs h.1))
