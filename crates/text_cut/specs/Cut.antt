-- A text cut at each occurrence of a character: what words (cut at the space) and lines (cut at the newline) are.
use Rattle.std.specs.Prelude.{Bool, List, [], ◌∷◌, ℕ, eqb}
use Rattle.lists.specs.Choose.{choose}

abbrev pub is : ℕ → ℕ → Bool
is c x = eqb x c

-- a character in front of a text's first piece
unfoldable pub into_first : ℕ → List (List ℕ) → List (List ℕ)
into_first x [] = (x ∷ []) ∷ []
into_first x (p ∷ ps) = (x ∷ p) ∷ ps

-- each occurrence of c ends a piece and begins the next one; a piece may be empty
unfoldable pub cut_at : ℕ → List ℕ → List (List ℕ)
cut_at c [] = [] ∷ []
cut_at c (x ∷ xs) = choose (is c x) ([] ∷ cut_at c xs) (into_first x (cut_at c xs))
