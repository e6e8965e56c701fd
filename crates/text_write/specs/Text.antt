-- A text of characters as its octets, for the definitions of rows.
use Rattle.std.specs.Prelude.{List, [], ◌∷◌, ℕ}
use Prim.Native.Char.{code}
use Prim.Native.String.{String, [] as none, ◌∷◌ as ◌then◌}

-- every character that rows have is one octet
abbrev pub text : String → List ℕ
text none = []
text (c then s) = code c ∷ text s
