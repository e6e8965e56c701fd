-- Octets as hex, written (docs/CHANRUN.md): "lower-case hex", two digits an octet, the higher first; "`-` is no octets".
use Rattle.std.specs.Prelude.{List, [], ◌∷◌, ℕ, ◌+◌, ◌/◌, ◌%◌, ltb}
use Prim.Native.Char.{code}
use Rattle.text_write.specs.Text.{text}
use Rattle.lists.specs.Choose.{choose}

-- the digit of a value
unfoldable pub digit_of : ℕ → ℕ
digit_of n = choose (ltb n 10) (code "0" + n) (87 + n)

unfoldable pub hex_digits : List ℕ → List ℕ
hex_digits [] = []
hex_digits (x ∷ xs) = digit_of (x / 16) ∷ digit_of (x % 16) ∷ hex_digits xs

unfoldable pub hex_text : List ℕ → List ℕ
hex_text [] = text "-"
hex_text (x ∷ xs) = hex_digits (x ∷ xs)
