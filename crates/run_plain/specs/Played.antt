-- The calls of `run_call_opening` and `called`, and the opened query, each with the row that it prints (docs/CHANRUN.md).
use Rattle.std.specs.Prelude.{Bool, List, [], ℕ, length}
use Rattle.channel.specs.declared.Table.{Table}
use Rattle.definition.specs.Ending.{end_of}
use Rattle.definition.specs.Opening as Def
use Rattle.script_commands.specs.declared.Opening.{Opening}
use Rattle.script_commands.specs.declared.Closing.{Closing}
use Rattle.script_commands.specs.Commands.{slot_number}
use Rattle.run_call_opening.specs.Called.{end_opening}
use Rattle.run_call_closing.specs.Called.{end_closing}
use Rattle.run_play.specs.Plays.{Play, lent_signal, with_octets, as_opened}

-- `R`, `P`, `J`, `A`, `X`, `Z`, `C` and `G`
abbrev pub opening_of : Table → (room : List ℕ) → Opening → Play
opening_of t room c = with_octets (end_opening t room lent_signal c)

-- `H`, `L`, `D`, `E`, `W`, `Q`, `I`, `Y` and `y`
abbrev pub closing_of : Table → (room : List ℕ) → Closing → Play
closing_of t room c = with_octets (end_closing t room lent_signal c)

-- `O`
abbrev pub opened_of : Table → (room : List ℕ) (slot link : ℕ) (up : Bool) → Play
opened_of t room slot link up = as_opened (end_of t [] room [] [] (Def.opened t (length room) (slot_number slot) link up))
