-- What a line of a script leaves (docs/CHANRUN.md): the table, all of the room that the program holds, of which the table's own is the start, and the buffers of open
-- jobs. The rows that it prints are those of the plays.
use Rattle.std.specs.Prelude.{◌≡◌, Bool, List, ◌++◌, ℕ, min, length, take, drop}
use Rattle.channel.specs.declared.Table.{Table}
use Rattle.text_words.specs.declared.Word.{Word}
use Rattle.text_words.specs.Words.{text_of}
use Rattle.text_lines.specs.declared.Found.{Found}
use Rattle.script.specs.Script.{command_of}
use Rattle.script_commands.specs.declared.Command.{Command}
use Rattle.run_play.specs.Plays.{size_of, spelled_of}
use Rattle.run_signals.specs.Signalled.{After, after, left, Leaves, LeavesSome, signals_of}
use Rattle.run_table.specs.PlayedTable.{made_of}
use Rattle.run_portions.specs.PlayedPortions.{cleared, Lent, portions_of}
use Rattle.run.specs.Playing.{play_of}

-- ---- all that a line leaves: the table and the room, and the buffers of open jobs

pub record All : Type 0 where
  pub after : After
  pub buffers : List ℕ

abbrev pub all_of : After → (buffers : List ℕ) → All
all_of a buffers = record { after = a; buffers = buffers }

pub record Serves (a : All) (u : Table) (room' buffers' : List ℕ) : Type 0 where
  pub leaves : Leaves a.after u room'
  pub buffers : buffers' ≡ a.buffers

-- where a row can't be printed: the room and the buffers, as the call leaves them; the table is gone
pub record Stands (a : All) (room' buffers' : List ℕ) : Type 0 where
  pub room : room' ≡ a.after.room
  pub buffers : buffers' ≡ a.buffers

-- after each `T`, also one that is refused
abbrev pub made_all : (n d m : ℕ) (room buffers : List ℕ) → All
made_all n d m room buffers = all_of (left (made_of n d m room)) (cleared buffers)

-- "nothing but `N` and `p` writes to it"
abbrev pub lent_all : Lent → All
lent_all l = all_of (left l.play) l.buffers

-- ---- a line, by its command

-- the octets of the table's room, as many as the program holds
abbrev pub held : Table → (room : List ℕ) → ℕ
held t room = min (size_of t.n t.d t.m) (length room)

-- what stands behind the table's room stays
abbrev pub before : (rest : List ℕ) → All → All
before rest a = all_of (after a.after.table (a.after.room ++ rest)) a.buffers

module _ (t : Table) (line room octets frames buffers : List ℕ) where
  -- on the table's own room
  abbrev within : (List ℕ → All) → All
  within f = before (drop (held t room) room) (f (take (held t room) room))

  abbrev pub played : Command → All
  played c = within (λ own. all_of (left (play_of t own line octets frames c)) buffers)

  unfoldable pub line_of : Command → All
  line_of Command.Bad = played Command.Bad
  line_of (Command.Opening c) = played (Command.Opening c)
  line_of (Command.Closing c) = played (Command.Closing c)
  line_of (Command.Make n d m) = made_all n d m room buffers
  line_of (Command.Signal link listening central pdu) = within (λ own. all_of (signals_of link listening central t own (spelled_of (length octets) line pdu)) buffers)
  line_of (Command.Opened slot link up) = played (Command.Opened slot link up)
  line_of (Command.Dispatch link cid payload) = played (Command.Dispatch link cid payload)
  line_of (Command.Send slot job) = played (Command.Send slot job)
  line_of (Command.Receive slot size) = played (Command.Receive slot size)
  line_of (Command.Queries slot) = played (Command.Queries slot)
  line_of (Command.Tallies slot) = played (Command.Tallies slot)
  line_of Command.View = played Command.View
  line_of (Command.Room slot) = played (Command.Room slot)
  line_of (Command.Portions c) = within (λ own. lent_all (portions_of t own line octets buffers c))

  -- where a row of `S` can't be printed: the table's own room, as its first signals leave it, and what stands behind it stays
  abbrev pub StandsSome : (link : ℕ) (listening central : Bool) (pdu : Word) (room' buffers' : List ℕ) → Type 0
  StandsSome link listening central pdu room' buffers' =
      (own : List ℕ)
      × (LeavesSome link listening central t (take (held t room) room) (spelled_of (length octets) line pdu) own
      × (room' ≡ own ++ drop (held t room) room)
      × (buffers' ≡ buffers))

  -- where a row of the line can't be printed
  unfoldable pub StandsLine : Command → (room' buffers' : List ℕ) → Type 0
  StandsLine (Command.Signal link listening central pdu) room' buffers' = StandsSome link listening central pdu room' buffers'
  StandsLine c room' buffers' = Stands (line_of c) room' buffers'

-- ---- what was found in the input: a line, or one that is too long, whose row is `? -`; else there is nothing to serve
module _ (t : Table) (input room octets frames buffers : List ℕ) where
  unfoldable pub found_of : Found → All
  found_of (Found.Line w) = line_of t (text_of input w) room octets frames buffers (command_of (text_of input w))
  found_of Found.Passed = all_of (after t room) buffers
  found_of Found.Long = all_of (after t room) buffers
  found_of Found.More = all_of (after t room) buffers

  -- where a row of it can't be printed: that of a line that is too long leaves all as it is
  unfoldable pub StandsFound : Found → (room' buffers' : List ℕ) → Type 0
  StandsFound (Found.Line w) room' buffers' = StandsLine t (text_of input w) room octets frames buffers (command_of (text_of input w)) room' buffers'
  StandsFound f room' buffers' = Stands (found_of f) room' buffers'
