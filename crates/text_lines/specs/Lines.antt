-- What comes of the octets that a buffer holds (docs/CHANRUN.md): the first newline ends a line; a carriage return right before the end of a line is not
-- part of it; an empty line, and a note, which begins with `#`, is passed over.
use Rattle.std.specs.Prelude.{Bool, true, false, List, ℕ, ◌+◌, ◌-◌, min, eqb, ltb, length, take, get_or}
use Prim.Native.Char.{code}
use Rattle.lists.specs.Choose.{choose}
use Rattle.lists.specs.First.{first}
use Rattle.octets.specs.Octets.{part}
use Rattle.text_cut.specs.Cut.{is}
use Rattle.text_lines.specs.declared.Held.{Held}
use Rattle.text_lines.specs.declared.Found.{Found}
use Rattle.text_lines.specs.declared.Found.TheVariants as Found
use Rattle.text_lines.specs.declared.Next.{Next}

abbrev pub is_newline : ℕ → Bool
is_newline = is (code "\n")

abbrev pub held : (start end : ℕ) → Bool → Held
held start end skipping = record { start = start; end = end; skipping = skipping }

abbrev pub next : Found → Held → Next
next f h = record { found = f; held = h }

-- the octets that wait
abbrev pub text_in : List ℕ → Held → List ℕ
text_in buf h = part buf h.start (h.end - h.start)

-- where their first newline stands, or where they end
abbrev pub newline_in : List ℕ → Held → ℕ
newline_in buf h = h.start + first is_newline (text_in buf h)

-- a line's own octets
unfoldable pub own_of : List ℕ → List ℕ
own_of line = choose (is (code "\r") (get_or line (length line - 1) 0)) (take (length line - 1) line) line

abbrev pub is_note : List ℕ → Bool
is_note line = is (code "#") (get_or line 0 0)

-- what the line from start up to end is found as
module _ (start : ℕ) (line : List ℕ) where
  unfoldable pub asked : Found
  asked =
      choose (eqb (length (own_of line)) 0) Found.Passed
      (choose (is_note line) Found.Passed
      (Found.Line (record { start = start; end = start + length (own_of line) })))

abbrev pub line_as : List ℕ → (start end : ℕ) → Found
line_as buf start end = asked start (part buf start (end - start))

-- a line that the buffer can't hold
unfoldable pub long_as : List ℕ → Found
long_as line = choose (is_note line) Found.Passed Found.Long

unfoldable pub next_of : List ℕ → Held → Next
next_of buf h =
    choose (ltb (newline_in buf h) (min h.end (length buf)))
    (choose h.skipping
    (next Found.Passed (held (newline_in buf h + 1) h.end false))
    (next (line_as buf h.start (newline_in buf h)) (held (newline_in buf h + 1) h.end false)))
    (choose (ltb (h.end - h.start) (length buf)) (next Found.More h)
    (choose h.skipping (next Found.Passed (held 0 0 true)) (next (long_as (text_in buf h)) (held 0 0 true))))

abbrev pub ready_of : Held → Held
ready_of h = held 0 (h.end - h.start) h.skipping

abbrev pub grown_of : ℕ → Held → ℕ → Held
grown_of len h n = held h.start (min (h.end + n) len) h.skipping

unfoldable pub last_of : List ℕ → Held → Found
last_of buf h = choose h.skipping Found.Passed (line_as buf h.start h.end)
