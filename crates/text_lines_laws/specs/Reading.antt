-- What a text tells, octet by octet: its lines, but for empty ones and notes, and once for each line that a buffer of `most` octets cannot hold that it
-- was too long, but for notes. Two laws: it does not matter in which pieces the text comes (told-pieces, after-pieces), and what `next_line` answers is what the octets that it
-- passes tell (next-tells).
use Rattle.std.specs.Prelude.{◌≡◌, refl, Bool, true, false, List, [], ◌∷◌, ◌++◌, ℕ, suc, ◌+◌, ◌-◌, ◌≤◌, ◌<◌, ltb, eqb, length, take, drop}
use Rattle.std.proofs.Common.{sym, ap, ◌∙◌, append_assoc, append-nil, not-suc-le-zero, arith, length-append, lt-ltb, ltb-true, ltb-false}
use Rattle.lists.specs.Choose.{choose}
use Rattle.lists.specs.First.{first}
use Rattle.text_lines.specs.Lines.{is_newline, is_note, own_of}

pub data Event : Type 0 where
  line : List ℕ → Event
  long : Event

-- the line so far; or its rest is passed over
pub data Reading : Type 0 where
  within : List ℕ → Reading
  passing : Reading

-- what a line tells, and what a line's start that fills the buffer
unfoldable pub line_tells : List ℕ → List Event
line_tells xs = choose (eqb (length (own_of xs)) 0) [] (choose (is_note xs) [] (line (own_of xs) ∷ []))

unfoldable pub long_tells : List ℕ → List Event
long_tells xs = choose (is_note xs) [] (long ∷ [])

-- what one octet tells, and what is read behind it
unfoldable pub tells : ℕ → Reading → ℕ → List Event
tells most (within xs) x = choose (is_newline x) (line_tells xs) (choose (ltb (suc (length xs)) most) [] (long_tells (xs ++ x ∷ [])))
tells most passing x = []

unfoldable pub reads : ℕ → Reading → ℕ → Reading
reads most (within xs) x = choose (is_newline x) (within []) (choose (ltb (suc (length xs)) most) (within (xs ++ x ∷ [])) passing)
reads most passing x = choose (is_newline x) (within []) passing

unfoldable pub told : ℕ → Reading → List ℕ → List Event
told most r [] = []
told most r (x ∷ xs) = tells most r x ++ told most (reads most r x) xs

unfoldable pub after : ℕ → Reading → List ℕ → Reading
after most r [] = r
after most r (x ∷ xs) = after most (reads most r x) xs

-- ---- pieces

pub told-pieces : (most : ℕ) (r : Reading) (xs ys : List ℕ) → told most r (xs ++ ys) ≡ told most r xs ++ told most (after most r xs) ys
unfolding told after
told-pieces most r [] ys = refl
told-pieces most r (x ∷ xs) ys =
    ap (λ (e : List Event). tells most r x ++ e) (told-pieces most (reads most r x) xs ys)
    ∙ sym (append_assoc (tells most r x) (told most (reads most r x) xs) (told most (after most (reads most r x) xs) ys))

pub after-pieces : (most : ℕ) (r : Reading) (xs ys : List ℕ) → after most r (xs ++ ys) ≡ after most (after most r xs) ys
unfolding after
after-pieces most r [] ys = refl
after-pieces most r (x ∷ xs) ys = after-pieces most (reads most r x) xs ys

-- ---- what a run of octets tells, by where its first newline stands

-- a newline within the buffer ends a line
line_step : (most : ℕ) (h : List ℕ) (x : ℕ) (xs : List ℕ) (b : Bool) → is_newline x ≡ b
    → (first is_newline xs < length xs → length (h ++ x ∷ []) + first is_newline xs < most
    → told most (within (h ++ x ∷ [])) xs ≡ line_tells ((h ++ x ∷ []) ++ take (first is_newline xs) xs) ++ told most (within []) (drop (suc (first is_newline xs)) xs))
    → first is_newline (x ∷ xs) < length (x ∷ xs) → length h + first is_newline (x ∷ xs) < most
    → told most (within h) (x ∷ xs) ≡ line_tells (h ++ take (first is_newline (x ∷ xs)) (x ∷ xs)) ++ told most (within []) (drop (suc (first is_newline (x ∷ xs))) (x ∷ xs))
unfolding told tells reads first choose
line_step most h x xs true e more l k = rw (e, append-nil h)
line_step most h x xs false e more l k =
    let l' : suc (first is_newline xs) < suc (length xs) = rw e at l in
    let k' : length h + suc (first is_newline xs) < most = rw e at k in
    let n : length (h ++ x ∷ []) ≡ suc (length h) = length-append h (x ∷ []) ∙ omega arith in
    rw (e, lt-ltb (suc (length h)) most (omega arith))
    (more (omega arith) (omega arith) ∙ rw (append_assoc h (x ∷ []) (take (first is_newline xs) xs)))

pub told_line : (most : ℕ) (h xs : List ℕ) → first is_newline xs < length xs → length h + first is_newline xs < most
    → told most (within h) xs ≡ line_tells (h ++ take (first is_newline xs) xs) ++ told most (within []) (drop (suc (first is_newline xs)) xs)
told_line most h [] l k = absurd (not-suc-le-zero l)
told_line most h (x ∷ xs) l k = line_step most h x xs (is_newline x) refl (told_line most (h ++ x ∷ []) xs) l k

-- no newline, and place for more
more_step : (most : ℕ) (h : List ℕ) (x : ℕ) (xs : List ℕ) (b : Bool) → is_newline x ≡ b
    → (first is_newline xs ≡ length xs → length (h ++ x ∷ []) + length xs < most → told most (within (h ++ x ∷ [])) xs ≡ [])
    → first is_newline (x ∷ xs) ≡ length (x ∷ xs) → length h + length (x ∷ xs) < most → told most (within h) (x ∷ xs) ≡ []
unfolding told tells reads first choose
more_step most h x xs true e more l k = let l' : 0 ≡ suc (length xs) = rw e at l in absurd (omega arith)
more_step most h x xs false e more l k =
    let l' : suc (first is_newline xs) ≡ suc (length xs) = rw e at l in
    let n : length (h ++ x ∷ []) ≡ suc (length h) = length-append h (x ∷ []) ∙ omega arith in
    rw (e, lt-ltb (suc (length h)) most (omega arith)) (more (omega arith) (omega arith))

pub told_more : (most : ℕ) (h xs : List ℕ) → first is_newline xs ≡ length xs → length h + length xs < most → told most (within h) xs ≡ []
unfolding told
told_more most h [] l k = refl
told_more most h (x ∷ xs) l k = more_step most h x xs (is_newline x) refl (told_more most (h ++ x ∷ []) xs) l k

after_step : (most : ℕ) (h : List ℕ) (x : ℕ) (xs : List ℕ) (b : Bool) → is_newline x ≡ b
    → (first is_newline xs ≡ length xs → length (h ++ x ∷ []) + length xs < most → after most (within (h ++ x ∷ [])) xs ≡ within ((h ++ x ∷ []) ++ xs))
    → first is_newline (x ∷ xs) ≡ length (x ∷ xs) → length h + length (x ∷ xs) < most → after most (within h) (x ∷ xs) ≡ within (h ++ x ∷ xs)
unfolding after reads first choose
after_step most h x xs true e more l k = let l' : 0 ≡ suc (length xs) = rw e at l in absurd (omega arith)
after_step most h x xs false e more l k =
    let l' : suc (first is_newline xs) ≡ suc (length xs) = rw e at l in
    let n : length (h ++ x ∷ []) ≡ suc (length h) = length-append h (x ∷ []) ∙ omega arith in
    rw (e, lt-ltb (suc (length h)) most (omega arith)) (more (omega arith) (omega arith) ∙ ap within (append_assoc h (x ∷ []) xs))

pub after_more : (most : ℕ) (h xs : List ℕ) → first is_newline xs ≡ length xs → length h + length xs < most → after most (within h) xs ≡ within (h ++ xs)
unfolding after
after_more most h [] l k = ap within (sym (append-nil h))
after_more most h (x ∷ xs) l k = after_step most h x xs (is_newline x) refl (after_more most (h ++ x ∷ []) xs) l k

-- no newline in a full buffer: the line is too long
last_octet : (most : ℕ) (h : List ℕ) (x : ℕ) (ys : List ℕ) → length ys ≡ 0 → long_tells (h ++ x ∷ []) ++ told most passing ys ≡ long_tells (h ++ x ∷ ys)
unfolding told
last_octet most h x [] z = append-nil (long_tells (h ++ x ∷ []))
last_octet most h x (y ∷ ys) z = absurd (omega arith)

long_step : (most : ℕ) (h : List ℕ) (x : ℕ) (xs : List ℕ) (b c : Bool) → is_newline x ≡ b → ltb (suc (length h)) most ≡ c
    → (first is_newline xs ≡ length xs → length (h ++ x ∷ []) < most → length (h ++ x ∷ []) + length xs ≡ most → told most (within (h ++ x ∷ [])) xs ≡ long_tells ((h ++ x ∷ []) ++ xs))
    → first is_newline (x ∷ xs) ≡ length (x ∷ xs) → length h + length (x ∷ xs) ≡ most → told most (within h) (x ∷ xs) ≡ long_tells (h ++ x ∷ xs)
unfolding told tells reads first choose
long_step most h x xs true c e t more l k = let l' : 0 ≡ suc (length xs) = rw e at l in absurd (omega arith)
long_step most h x xs false true e t more l k =
    let l' : suc (first is_newline xs) ≡ suc (length xs) = rw e at l in
    let n : length (h ++ x ∷ []) ≡ suc (length h) = length-append h (x ∷ []) ∙ omega arith in
    let s : suc (length h) < most = ltb-true (suc (length h)) most t in
    rw (e, t) (more (omega arith) (omega arith) (omega arith) ∙ ap long_tells (append_assoc h (x ∷ []) xs))
long_step most h x xs false false e t more l k =
    let s : most ≤ suc (length h) = ltb-false (suc (length h)) most t in
    let z : length xs ≡ 0 = omega arith in
    rw (e, t) (last_octet most h x xs z)

pub told-long : (most : ℕ) (h xs : List ℕ) → first is_newline xs ≡ length xs → length h < most → length h + length xs ≡ most → told most (within h) xs ≡ long_tells (h ++ xs)
told-long most h [] l m k = absurd (omega arith)
told-long most h (x ∷ xs) l m k = long_step most h x xs (is_newline x) (ltb (suc (length h)) most) refl refl (told-long most (h ++ x ∷ []) xs) l k

-- what is passed over ends with its newline
passed_step : (most x : ℕ) (xs : List ℕ) (b : Bool) → is_newline x ≡ b
    → (first is_newline xs < length xs → told most passing xs ≡ told most (within []) (drop (suc (first is_newline xs)) xs))
    → first is_newline (x ∷ xs) < length (x ∷ xs) → told most passing (x ∷ xs) ≡ told most (within []) (drop (suc (first is_newline (x ∷ xs))) (x ∷ xs))
unfolding told tells reads first choose
passed_step most x xs true e more l = rw e
passed_step most x xs false e more l = let l' : suc (first is_newline xs) < suc (length xs) = rw e at l in rw e (more (omega arith))

pub told-passed : (most : ℕ) (xs : List ℕ) → first is_newline xs < length xs → told most passing xs ≡ told most (within []) (drop (suc (first is_newline xs)) xs)
told-passed most [] l = absurd (not-suc-le-zero l)
told-passed most (x ∷ xs) l = passed_step most x xs (is_newline x) refl (told-passed most xs) l

passing_step : (most x : ℕ) (xs : List ℕ) (b : Bool) → is_newline x ≡ b → (first is_newline xs ≡ length xs → told most passing xs ≡ [])
    → first is_newline (x ∷ xs) ≡ length (x ∷ xs) → told most passing (x ∷ xs) ≡ []
unfolding told tells reads first choose
passing_step most x xs true e more l = let l' : 0 ≡ suc (length xs) = rw e at l in absurd (omega arith)
passing_step most x xs false e more l = let l' : suc (first is_newline xs) ≡ suc (length xs) = rw e at l in rw e (more (omega arith))

pub told_passing : (most : ℕ) (xs : List ℕ) → first is_newline xs ≡ length xs → told most passing xs ≡ []
unfolding told
told_passing most [] l = refl
told_passing most (x ∷ xs) l = passing_step most x xs (is_newline x) refl (told_passing most xs) l
