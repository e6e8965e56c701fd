-- Octets as hex, read (docs/CHANRUN.md): "lower-case hex, an even number of digits, at most 65,535 octets; `-` is no octets".
use Rattle.std.specs.Prelude.{◌≡◌, List, [], ◌∷◌, ℕ, ◌+◌, ◌-◌, ◌*◌, ltb, length, Option, Some, None}
use Rattle.std.proofs.lemmas.List.Edits.{sets}
use Rattle.lists.specs.Choose.{choose}
use Rattle.text_hex_words.specs.HexWords.{is_hex_word}

-- the value of a hex digit
unfoldable pub nibble_of : ℕ → ℕ
nibble_of c = choose (ltb c 58) (c - 48) (c - 87)

-- two digits an octet, the higher first
unfoldable pub octets_of : List ℕ → List ℕ
octets_of [] = []
octets_of (h ∷ []) = []
octets_of (h ∷ l ∷ w) = (16 * nibble_of h + nibble_of l) ∷ octets_of w

-- how many octets a word spells; none where it is bad
unfoldable pub hex_read : List ℕ → Option ℕ
hex_read w = choose (is_hex_word w) (Some (length (octets_of w))) None

-- what a word gives to write: `-` and a bad word nothing
unfoldable pub hex_octets : List ℕ → List ℕ
hex_octets w = choose (is_hex_word w) (octets_of w) []

-- what is answered, and what the buffer holds, once the word w was read into l
pub record ReadsHex (w l : List ℕ) (r : Option ℕ) (out : List ℕ) : Type 0 where
  pub answer : r ≡ hex_read w
  pub buffer : out ≡ sets l 0 (hex_octets w)
