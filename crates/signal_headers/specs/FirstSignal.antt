-- The first signal of a PDU (Core Vol 3 Part A 4): a header of code, identifier and body length in two octets, and a body of that length.
use Rattle.std.specs.Prelude.{List, ℕ, ◌+◌, length, get_or, ltb, None, Option, Some}
use Rattle.lists.specs.Choose.{choose}
use Rattle.octets.specs.Octets.{part, u16_at}
use Rattle.signal_headers.specs.declared.first.L2capSignalHeader.{L2capSignalHeader}

unfoldable pub header_of : List ℕ → Option L2capSignalHeader
header_of s = choose (ltb (length s) 4) None (Some (record { code = get_or s 0 0; identifier = get_or s 1 0; length = u16_at s 2 }))

-- the first signal's octets, header and body
abbrev pub size_of : List ℕ → ℕ
size_of s = 4 + u16_at s 2

-- the first signal's body
abbrev pub body_in : List ℕ → List ℕ
body_in s = part s 4 (u16_at s 2)
