-- A law of columns: one number more is one column more.
use Rattle.std.specs.Prelude.{◌≡◌, refl, List, [], ◌∷◌, ◌++◌, ℕ, ◌+◌, ◌<◌, length, take, get_or}
use Rattle.std.proofs.Common.{sym, ap, ◌∙◌, append_assoc, append-nil, add-one, take-suc}
use Prim.Native.Char.{code}
use Rattle.text_decimal.specs.NumberText.{number_text}
use Rattle.row_columns.specs.Columns.{columns_text}

columns-append : (xs ys : List ℕ) → columns_text (xs ++ ys) ≡ columns_text xs ++ columns_text ys
unfolding columns_text
columns-append [] ys = refl
columns-append (x ∷ xs) ys = ap (λ (r : List ℕ). (code " " ∷ number_text x) ++ r) (columns-append xs ys) ∙ sym (append_assoc (code " " ∷ number_text x) (columns_text xs) (columns_text ys))

pub columns-more : (xs : List ℕ) (i : ℕ) → i < length xs → columns_text (take (i + 1) xs) ≡ (columns_text (take i xs) ++ code " " ∷ []) ++ number_text (get_or xs i 0)
unfolding columns_text
columns-more xs i h =
    rw (add-one i, take-suc xs i 0 h)
    (columns-append (take i xs) (get_or xs i 0 ∷ [])
    ∙ ap (λ (r : List ℕ). columns_text (take i xs) ++ r) (append-nil (code " " ∷ number_text (get_or xs i 0)))
    ∙ sym (append_assoc (columns_text (take i xs)) (code " " ∷ []) (number_text (get_or xs i 0))))
