-- A note and its newline tell nothing, however long the note is, and neither does an empty line: a script with its comments is read as the script without
-- them. (`told` of NextLaws is what the lines are made of.)
use Rattle.std.specs.Prelude.{◌≡◌, refl, Bool, true, false, List, [], ◌∷◌, ◌++◌, ℕ, suc, ◌+◌, eqb, ltb, length}
use Rattle.std.proofs.Common.{sym, ap, ◌∙◌, append_assoc, append-nil, arith}
use Prim.Native.Char.{code}
use Rattle.lists.specs.Choose.{choose}
use Rattle.lists.specs.First.{first}
use Rattle.text_lines.specs.Lines.{is_newline, is_note, own_of}
use Rattle.text_lines_laws.specs.Reading.{line, within, passing, line_tells, long_tells, tells, reads, told}

-- ---- what one octet does

abbrev newline : ℕ
newline = code "\n"

silent_line : (xs : List ℕ) → is_note xs ≡ true → line_tells xs ≡ []
unfolding line_tells choose
silent_line xs e = go (eqb (length (own_of xs)) 0)
  where
    go : (b : Bool) → choose b [] (choose (is_note xs) [] (line (own_of xs) ∷ [])) ≡ []
    go true = refl
    go false = rw e

silent_long : (xs : List ℕ) → is_note xs ≡ true → long_tells xs ≡ []
unfolding long_tells choose
silent_long xs e = rw e

-- a text's first octet is that of what it begins with
begins : (h : List ℕ) (x : ℕ) (xs : List ℕ) → is_note (h ++ x ∷ xs) ≡ is_note (h ++ x ∷ [])
begins [] x xs = refl
begins (y ∷ h) x xs = refl

-- ---- the rest of a line that was told, or needs no telling, up to its newline

passed_step : (most x : ℕ) (xs ys : List ℕ) (b : Bool) → is_newline x ≡ b
    → (first is_newline xs ≡ length xs → told most passing (xs ++ newline ∷ ys) ≡ told most (within []) ys)
    → first is_newline (x ∷ xs) ≡ suc (length xs) → told most passing (x ∷ xs ++ newline ∷ ys) ≡ told most (within []) ys
unfolding told tells reads first choose
passed_step most x xs ys true e more l = let l' : 0 ≡ suc (length xs) = rw e at l in absurd (omega arith)
passed_step most x xs ys false e more l = let l' : suc (first is_newline xs) ≡ suc (length xs) = rw e at l in rw e (more (omega arith))

passed : (most : ℕ) (xs ys : List ℕ) → first is_newline xs ≡ length xs → told most passing (xs ++ newline ∷ ys) ≡ told most (within []) ys
unfolding told tells reads choose
passed most [] ys l = refl
passed most (x ∷ xs) ys l = passed_step most x xs ys (is_newline x) refl (passed most xs ys) l

-- ---- a note, of which h is read

note_step : (most : ℕ) (h : List ℕ) (x : ℕ) (xs ys : List ℕ) (b c : Bool) → is_newline x ≡ b → ltb (suc (length h)) most ≡ c → is_note (h ++ x ∷ xs) ≡ true
    → (is_note ((h ++ x ∷ []) ++ xs) ≡ true → first is_newline xs ≡ length xs → told most (within (h ++ x ∷ [])) (xs ++ newline ∷ ys) ≡ told most (within []) ys)
    → first is_newline (x ∷ xs) ≡ suc (length xs) → told most (within h) (x ∷ xs ++ newline ∷ ys) ≡ told most (within []) ys
unfolding told tells reads first choose
note_step most h x xs ys true c e t n more l = let l' : 0 ≡ suc (length xs) = rw e at l in absurd (omega arith)
note_step most h x xs ys false true e t n more l =
    let l' : suc (first is_newline xs) ≡ suc (length xs) = rw e at l in
    rw (e, t) (more (ap is_note (append_assoc h (x ∷ []) xs) ∙ n) (omega arith))
note_step most h x xs ys false false e t n more l =
    let l' : suc (first is_newline xs) ≡ suc (length xs) = rw e at l in
    rw (e, t, silent_long (h ++ x ∷ []) (sym (begins h x xs) ∙ n)) (passed most xs ys (omega arith))

note_on : (most : ℕ) (h xs ys : List ℕ) → is_note (h ++ xs) ≡ true → first is_newline xs ≡ length xs → told most (within h) (xs ++ newline ∷ ys) ≡ told most (within []) ys
unfolding told tells reads choose
note_on most h [] ys n l = rw (silent_line h (ap is_note (sym (append-nil h)) ∙ n))
note_on most h (x ∷ xs) ys n l = note_step most h x xs ys (is_newline x) (ltb (suc (length h)) most) refl refl n (note_on most (h ++ x ∷ []) xs ys) l

-- a note of any length, whatever comes behind it
pub note_tells_nothing : (most : ℕ) (xs ys : List ℕ) → is_note xs ≡ true → first is_newline xs ≡ length xs → told most (within []) (xs ++ newline ∷ ys) ≡ told most (within []) ys
note_tells_nothing most xs ys = note_on most [] xs ys

-- an empty line
pub empty_tells_nothing : (most : ℕ) (ys : List ℕ) → told most (within []) (newline ∷ ys) ≡ told most (within []) ys
unfolding told tells reads line_tells own_of choose
empty_tells_nothing most ys = refl
