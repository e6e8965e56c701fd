-- What the plain words of a call say (docs/CHANRUN.md), each kind with its test.
use Rattle.std.specs.Prelude.{Bool, ◌&&◌, ◌||◌, List, ℕ, eqb, leb, length, get_or, is_some}
use Rattle.std.specs.Option.{unwrap_or}
use Prim.Native.Char.{code}
use Rattle.text_decimal.specs.Decimal.{number_read}

-- a number; 0 where the word spells none
abbrev pub is_number : List ℕ → Bool
is_number w = is_some (number_read w)

abbrev pub number_of : List ℕ → ℕ
number_of w = unwrap_or (number_read w) 0

-- "One of 4,096 octets for each slot .. `size` is at most 4,096"
abbrev pub buffer_most : ℕ
buffer_most = 4096

unfoldable pub is_size : List ℕ → Bool
is_size w = is_number w && leb (number_of w) buffer_most

-- the one character c
abbrev pub is_one : ℕ → List ℕ → Bool
is_one c w = eqb (length w) 1 && eqb (get_or w 0 0) c

-- "listening 0 or 1", "up 0 or 1"
abbrev pub is_flag : List ℕ → Bool
is_flag w = is_number w && leb (number_of w) 1

abbrev pub flag_of : List ℕ → Bool
flag_of w = eqb (number_of w) 1

-- "role `c` (Central) or `p`"
abbrev pub is_role : List ℕ → Bool
is_role w = is_one (code "c") w || is_one (code "p") w

abbrev pub central_of : List ℕ → Bool
central_of w = is_one (code "c") w
