-- `T` and `M` of docs/CHANRUN.md, each with the row that it prints.
use Rattle.std.specs.Prelude.{List, [], ◌++◌, ℕ, ◌+◌, ◌*◌, leb, ltb, length, take, drop}
use Rattle.octets.specs.Octets.{part}
use Rattle.codes.specs.declared.Refusal.TheVariants.{BadTable, BadSlot}
use Rattle.channel.specs.declared.Answer.TheVariants.{Done, Refused}
use Rattle.channel.specs.declared.Table.{Table}
use Rattle.definition.specs.Table.{when◌then◌else◌, sizes_fit, width}
use Rattle.definition.specs.Asking.{make, no_slots}
use Rattle.definition.specs.Ending.{End, end_made}
use Rattle.row_call.specs.Printed.{row_text}
use Rattle.run_play.specs.Plays.{Play, play, size_of}

-- ---- `T`: "Room of the required size, zeroed; a size above 65,536 is answered by 1". The table's room is the start of what is lent.

-- what stands behind the room stays
abbrev pub before : (rest : List ℕ) → End → Play
before rest e = play e.served.table (e.room ++ rest) (row_text e.served.answer [])

unfoldable pub made_of : (n d m : ℕ) (room : List ℕ) → Play
made_of n d m room =
    when ltb (length room) (size_of n d m) then play no_slots room (row_text (Refused BadTable) []) else
    before (drop (size_of n d m) room) (end_made (make n d m (take (size_of n d m) room)))

-- ---- `M`: the slot's part of the room. A table of no slots has none (1), and a slot past the table neither (6).

unfoldable pub part_of : Table → (slot : ℕ) (room : List ℕ) → List ℕ
part_of t slot room =
    when sizes_fit t.n t.d t.m then
    when leb t.n slot then row_text (Refused BadSlot) [] else row_text Done (part room (slot * width t) (width t))
    else row_text (Refused BadTable) []
