-- The head of a signal's PDU (Core Vol 3 Part A 3.1 and 4; document 01): length, CID 0x0005, then code, identifier, body length. Numbers are
-- two octets, the lower first.
use Rattle.std.specs.Prelude.{List, [], ◌∷◌, ◌++◌, ℕ, ◌+◌, ◌/◌, ◌%◌}
use Rattle.octets.specs.Octets.{le16}

-- fields of two octets each
abbrev pub octets_of : List ℕ → List ℕ
octets_of [] = []
octets_of (f ∷ fs) = f % 256 ∷ f / 256 ∷ octets_of fs

abbrev pub head_of : ℕ → ℕ → ℕ → List ℕ
head_of code id n = octets_of ((4 + n) ∷ 5 ∷ []) ++ (code ∷ id ∷ le16 n)
