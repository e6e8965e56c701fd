-- What `next_line` answers is what the octets that it passes tell (Reading): so the lines of an input are those of its text, in whatever pieces
-- the text was read.
use Rattle.std.specs.Prelude.{◌≡◌, refl, Bool, ℕ, zero, suc, ◌+◌, ◌-◌, ◌≤◌, ◌<◌, min, eqb, ltb, take, drop}
use Rattle.std.proofs.Math.Path.{sym, ap}
use Rattle.std.proofs.Common.{◌∙◌, arith, length-take, length-drop, take-take, drop-drop}
use Rattle.std.proofs.Math.Bool.{true, false}
use mathlib.Core.List.{List, [], ◌∷◌, ◌++◌, append-nil}
use Rattle.std.proofs.Math.Numerals.{unary_clauses}
use Rattle.std.proofs.Math.ListN.{length}
use Rattle.std.proofs.Math.Seq.{take-nil}
use borrow.Author.Tests.{ltb-true, ltb-false}
use Rattle.lists.specs.Choose.{choose}
use Rattle.lists.specs.First.{first}
use Rattle.octets.specs.Octets.{part}
use Rattle.text_lines.specs.Lines.{is_newline, is_note, own_of, asked, line_as, long_as}
use Rattle.text_lines.specs.LineLaws.{own_taken}
use Rattle.text_words.specs.Words.{text_of}
use Rattle.text_lines.specs.declared.Held.{Held}
use Rattle.text_lines.specs.declared.Found.{Found}
use Rattle.text_lines.specs.declared.Found.TheVariants as Found
use Rattle.text_lines.specs.Lines.{held, text_in, newline_in, next_of}
use Rattle.text_lines_laws.specs.Reading.{Event, line, long, Reading, within, passing, line_tells, long_tells, told, told_line, told-long, told-passed, told_passing}

unfoldable pub told_by : List ℕ → Found → List Event
told_by buf (Found.Line w) = line (text_of buf w) ∷ []
told_by buf Found.Passed = []
told_by buf Found.Long = long ∷ []
told_by buf Found.More = []

-- what a line is found as tells what the line tells
line_told : (buf : List ℕ) (start end : ℕ) → told_by buf (line_as buf start end) ≡ line_tells (part buf start (end - start))
unfolding asked told_by line_tells choose
line_told buf start end = go (eqb (length (own_of text)) 0) (is_note text)
  where
    text : List ℕ
    text = part buf start (end - start)

    n : ℕ
    n = length (own_of text)

    stands : part buf start (start + n - start) ≡ own_of text
    stands = let e : start + n - start ≡ n = omega arith in rw e (own_taken (end - start) (drop start buf))

    go : (b c : Bool) → told_by buf (choose b Found.Passed (choose c Found.Passed (Found.Line (record { start = start; end = start + n })))) ≡ choose b [] (choose c [] (line (own_of text) ∷ []))
    go true c = refl
    go false true = refl
    go false false = ap (λ l. line l ∷ []) stands

long-told : (buf text : List ℕ) → told_by buf (long_as text) ≡ long_tells text
unfolding long_as told_by long_tells choose
long-told buf text = go (is_note text)
  where
    go : (b : Bool) → told_by buf (choose b Found.Passed Found.Long) ≡ choose b [] (long ∷ [])
    go true = refl
    go false = refl

unfoldable pub reading_of : Bool → Reading
reading_of skipping = choose skipping passing (within [])

le_step : (x : ℕ) (xs : List ℕ) (b : Bool) → is_newline x ≡ b → first is_newline xs ≤ length xs → first is_newline (x ∷ xs) ≤ suc (length xs)
unfolding first choose
le_step x xs true e h = rw e (omega arith)
le_step x xs false e h = rw e (omega arith)

first_le : (xs : List ℕ) → first is_newline xs ≤ length xs
unfolding first
first_le [] = omega arith
first_le (x ∷ xs) = le_step x xs (is_newline x) refl (first_le xs)

drop-take : (k n : ℕ) (xs : List ℕ) → drop k (take n xs) ≡ take (n - k) (drop k xs)
drop-take zero n xs = simp unary_clauses
drop-take (suc k) zero xs = let e : zero - suc k ≡ zero = omega arith in rw e
drop-take (suc k) (suc n) [] = simp (take-nil)
drop-take (suc k) (suc n) (x ∷ xs) = simp unary_clauses (drop-take k n xs)

module _ (buf : List ℕ) (start end : ℕ) (ordered : start ≤ end) (inside : end ≤ length buf) (some : 0 < length buf) where
  abbrev text : List ℕ
  text = part buf start (end - start)

  abbrev i : ℕ
  i = first is_newline text

  long-text : length text ≡ end - start
  long-text = length-take (end - start) (drop start buf) ∙ omega (arith, length-drop start buf)

  -- what is held behind a newline
  rest : drop (suc i) text ≡ part buf (start + i + 1) (end - (start + i + 1))
  rest =
      let a : start + suc i ≡ start + i + 1 = omega arith in
      let b : end - start - suc i ≡ end - (start + i + 1) = omega arith in
      drop-take (suc i) (end - start) (drop start buf)
      ∙ ap (λ (l : List ℕ). take (end - start - suc i) l) (drop-drop (suc i) start buf)
      ∙ ap (λ (n : ℕ). take (end - start - suc i) (drop n buf)) a
      ∙ ap (λ (n : ℕ). take n (drop (start + i + 1) buf)) b

  word : i < length text → take i text ≡ part buf start (start + i - start)
  word h =
      let a : i ≤ end - start = omega (arith, long-text) in
      let b : i ≡ start + i - start = omega arith in
      take-take i (end - start) (drop start buf) a ∙ ap (λ (n : ℕ). take n (drop start buf)) b

  go : (skipping newline room : Bool) → ltb (start + i) (min end (length buf)) ≡ newline → ltb (end - start) (length buf) ≡ room
      → told (length buf) (reading_of skipping) text
      ≡ told_by buf (next_of buf (held start end skipping)).found
      ++ told (length buf) (reading_of (next_of buf (held start end skipping)).held.skipping) (text_in buf (next_of buf (held start end skipping)).held)
  unfolding next_of choose told_by reading_of told
  go true true room e f =
      let h : i < length text = omega (arith, ltb-true (start + i) (min end (length buf)) e, long-text) in
      rw e (told-passed (length buf) text h ∙ ap (told (length buf) (within [])) rest)
  go false true room e f =
      let h : i < length text = omega (arith, ltb-true (start + i) (min end (length buf)) e, long-text) in
      rw e
      (told_line (length buf) [] text h (omega (arith, long-text))
      ∙ ap (λ (l : List ℕ). line_tells l ++ told (length buf) (within []) (drop (suc i) text)) (word h)
      ∙ ap (λ (l : List ℕ). line_tells (part buf start (start + i - start)) ++ told (length buf) (within []) l) rest
      ∙ ap (λ (t : List Event). t ++ told (length buf) (within []) (part buf (start + i + 1) (end - (start + i + 1)))) (sym (line_told buf start (start + i))))
  go skipping false true e f = rw (e, f)
  go true false false e f =
      let n : i ≡ length text = omega (arith, ltb-false (start + i) (min end (length buf)) e, long-text, first_le text) in
      rw (e, f) (told_passing (length buf) text n)
  go false false false e f =
      let n : i ≡ length text = omega (arith, ltb-false (start + i) (min end (length buf)) e, long-text, first_le text) in
      let m = ltb-false (end - start) (length buf) f in
      rw (e, f) (told-long (length buf) [] text n (omega arith) (omega (arith, long-text)) ∙ sym (long-told buf text) ∙ sym (append-nil (told_by buf (long_as text))))

-- what is held tells what `next_line` finds, and then what is held behind that
pub next-tells : (buf : List ℕ) (h : Held) → h.start ≤ h.end → h.end ≤ length buf → 0 < length buf
    → told (length buf) (reading_of h.skipping) (text_in buf h)
    ≡ told_by buf (next_of buf h).found ++ told (length buf) (reading_of (next_of buf h).held.skipping) (text_in buf (next_of buf h).held)
next-tells buf h o s p = go buf h.start h.end o s p h.skipping (ltb (newline_in buf h) (min h.end (length buf))) (ltb (h.end - h.start) (length buf)) refl refl
