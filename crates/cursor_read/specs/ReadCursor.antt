-- What a read cursor's calls give, of the octets and the position. Each refuses first: more octets are asked than are left.
use Rattle.std.specs.Prelude.{List, [], ℕ, ◌+◌, ◌-◌, length, ltb, Option, Some, None}
use Rattle.lists.specs.Choose.{choose}
use Rattle.octets.specs.Octets.{part, u16_at}
use Rattle.cursor_read.specs.declared.ReadCursor.{ReadCursor}

abbrev pub read_number : List ℕ → ℕ → Option (ℕ × ReadCursor)
read_number s pos = choose (ltb (length s - pos) 2) None (Some (u16_at s pos, record { pos = pos + 2 }))

abbrev pub read_slice : List ℕ → ℕ → ℕ → List ℕ
read_slice s pos n = choose (ltb (length s - pos) n) [] (part s pos n)

abbrev pub read_past : List ℕ → ℕ → ℕ → Option ReadCursor
read_past s pos n = choose (ltb (length s - pos) n) None (Some (record { pos = pos + n }))
