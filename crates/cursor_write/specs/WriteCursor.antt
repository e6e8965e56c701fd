-- What a write cursor's calls give, of the octets and the position. Each refuses first: more octets are asked than there is room for.
use Rattle.std.specs.Prelude.{◌≡◌, List, ℕ, ◌+◌, ◌-◌, length, ltb, Option, Some, None}
use Rattle.std.proofs.lemmas.List.Edits.{sets}
use Rattle.lists.specs.Choose.{choose}
use Rattle.cursor_write.specs.declared.WriteCursor.{WriteCursor}

abbrev pub committed : List ℕ → ℕ → ℕ → Option WriteCursor
committed l pos n = choose (ltb (length l - pos) n) None (Some (record { pos = pos + n }))

abbrev pub appended : List ℕ → ℕ → List ℕ → List ℕ
appended l pos s = choose (ltb (length l - pos) (length s)) l (sets l pos s)

-- what is answered, and what the buffer holds, once s was to be written at pos of l
pub record Appends (l : List ℕ) (pos : ℕ) (s : List ℕ) (r : Option WriteCursor) (out : List ℕ) : Type 0 where
  pub answer : r ≡ committed l pos (length s)
  pub buffer : out ≡ appended l pos s
