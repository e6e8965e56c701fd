-- What the pass over a table's octets tests: of each row, by its octets, what refusal 1 asks of the slot that it says.
use Rattle.std.specs.Prelude.{Bool, ◌&&◌, ◌||◌, List, ℕ, suc, ◌+◌, ◌-◌, ◌/◌, ◌%◌, eqb, leb, ltb, get_or}
use Rattle.octets.specs.Octets.{u16_at}
use Rattle.channel.specs.Limits.{slots_most}
use Rattle.definition.specs.Table.{place_size, sizes_fit, well_formed}
use Rattle.edge_layout.specs.Layout.{cell, read}
use Rattle.edge_layout.specs.Spelled.{all_below}
use Rattle.edge_layout_decode.specs.Whole.{spelled}

-- a number of two octets at most another, told octet by octet
abbrev pub most_of : (low high l h : ℕ) → Bool
most_of low high l h = ltb high h || (eqb high h && leb low l)

-- of a row's octets, the number whose lower octet is in column c
abbrev pub within_in : (ℕ → ℕ) → (c low high : ℕ) → Bool
within_in f c low high = most_of (f c) (f (suc c)) low high

-- credits held are at most 65,535 less those received
abbrev pub sum_fits : (ℕ → ℕ) → Bool
sum_fits f = most_of (f 13) (f 14) (255 - f 15) (255 - f 16)

-- the peer's credits are at most 65,535 less those set aside
abbrev pub aside_fits : (ℕ → ℕ) → Bool
aside_fits f = most_of (f 24) (f 25) (255 - f 45) (255 - f 46)

-- a number of two octets at most another and 2, told octet by octet: where the other's lower octet wraps, its higher is one more (one that is 0 is no one's next,
-- and taken for its own it passes already)
abbrev pub two_more : (low high l h : ℕ) → Bool
two_more low high l h =
    let carry = leb 254 l in
    let under = leb low ((l + 2) % 256) in
    ltb high h || ((eqb high h && (carry || under)) || (carry && (eqb (high - 1) h && under)))

-- no job is open, or what was taken is within the length, and what is filled within the peer's MPS and what was taken with the length's octets
abbrev pub job_fits : (ℕ → ℕ) → Bool
job_fits f =
    (eqb (f 45) 0 && eqb (f 46) 0)
    || (most_of (f 41) (f 42) (f 39) (f 40)
    && (most_of (f 43) (f 44) (f 20) (f 21)
    && two_more (f 43) (f 44) (f 41) (f 42)))

-- the jobs that wait, of `count`
abbrev pub lens_fit : (ℕ → ℕ) → (count low high : ℕ) → Bool
lens_fit f count low high =
    (leb count 0 || within_in f 31 low high)
    && ((leb count 1 || within_in f 33 low high)
    && ((leb count 2 || within_in f 35 low high)
    && (leb count 3 || within_in f 37 low high)))

unfoldable pub row_fits : (ℕ → ℕ) → (d low high : ℕ) → Bool
row_fits f d low high =
    leb (f 30) d
    && (lens_fit f (f 30) low high
    && (within_in f 26 low high
    && (within_in f 28 low high
    && (within_in f 8 low high
    && (sum_fits f
    && (job_fits f && aside_fits f))))))

-- the row of slot k, if it is one of n
abbrev pub row_passes : List ℕ → (n d place k : ℕ) → Bool
row_passes o n d place k = leb n k || row_fits (cell o k) d (place % 256) (place / 256)

unfoldable pub scanned : List ℕ → Bool
scanned o =
    let n = get_or o 1 0 in
    let d = get_or o 2 0 in
    let m = u16_at o 3 in
    spelled o && (sizes_fit n d m && all_below (row_passes o n d (place_size m)) slots_most)

-- the octets spell a table, and it is well-formed: what refusal 1 refuses is the rest
unfoldable pub valid_octets : List ℕ → Bool
valid_octets o = (read o).ok && well_formed (read o).table
