-- A worked run with jobs that are handed over in portions, and where its marks stand: two open jobs at once, of two links; a frame that fills in
-- two portions; a refused portion; link 2's next job in the buffer that link 1's job had; a cancel; a second life of link 1. And what the statement
-- gives for it, read off octet by octet, as Reading.antt does. So a statement that excepted more than a portion's octets, or less, is refused here.
use Rattle.std.specs.Prelude.{List, [], ◌∷◌, ◌++◌, ℕ, zero, suc, replicate}
use Rattle.codes.specs.declared.Refusal.TheVariants as Refusal
use Rattle.definition.specs.Calls.{Window, Call, portions, down, plain, register, starts, cancels, releases}
use Rattle.definition.specs.Calls as Calls
use Rattle.definition.specs.Run.{State, made}
use Rattle.isolation.specs.Lives.{window, unlent, opening}

-- ---- the run

-- As in Lives.antt, with 53 octets of memory: the signal buffer, then the frame buffers of two jobs.
abbrev pub start : ℕ → State
start z = made 2 1 29 (replicate 92 z) (replicate 53 9)

-- of 27 octets, for a job of 22: 4 more than the lesser of 23 and 24; and of 8
abbrev pub long : Window
long = window 18 27

abbrev pub short : Window
short = window 45 8

-- link 1's octets: a, b, c, d in its life 0, e in its life 1; u, v, w are link 2's
abbrev pub calls : (a b c d e u v w : ℕ) → List Call
calls a b c d e u v w =
    plain (register 0x80) unlent unlent
    ∷ opening 1 0
    ++ (opening 2 1
    ++ (plain (starts 0 22) long unlent
    ∷ plain (starts 1 2) short unlent
    ∷ portions 0 (a ∷ []) long
    ∷ portions 1 (u ∷ []) short
    ∷ portions 0 (b ∷ c ∷ replicate 18 b ++ (d ∷ [])) long  -- 21 octets: all but the last are taken, the frame is full
    ∷ portions 1 (v ∷ []) short  -- link 2's frame is full, its job is over
    ∷ portions 0 (a ∷ d ∷ []) long  -- refused: one octet is left
    ∷ portions 0 (d ∷ []) long  -- the second frame, and the last
    ∷ plain (starts 1 1) long unlent  -- link 2's next job in the buffer that was link 1's
    ∷ portions 1 (w ∷ []) long
    ∷ plain (starts 0 2) short unlent  -- and link 1's in the one that was link 2's
    ∷ portions 0 (c ∷ []) short
    ∷ plain (cancels 0) unlent unlent
    ∷ down 1
    ∷ plain (releases 0) unlent unlent
    ∷ opening 1 0
    ++ (plain (starts 0 1) short unlent ∷ portions 0 (e ∷ []) short ∷ down 1 ∷ [])))

unfoldable pub span : (from count : ℕ) → List ℕ
span from zero = []
span from (suc n) = from ∷ span (suc from) n
