-- Columns of a row (docs/CHANRUN.md).
use Rattle.std.specs.Prelude.{List, [], ◌∷◌, ◌++◌, ℕ}
use Prim.Native.Char.{code}
use Rattle.text_decimal.specs.NumberText.{number_text}

-- a column is a space and a number
unfoldable pub columns_text : List ℕ → List ℕ
columns_text [] = []
columns_text (n ∷ ns) = (code " " ∷ number_text n) ++ columns_text ns
