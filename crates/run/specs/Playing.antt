-- The row of a line, by its command (docs/CHANRUN.md), where the room is the table's: which play of `run_plain` it is. `T`, which is lent the whole room,
-- `S`, whose signals have a row each, and the calls that are lent a slot's buffer (`run_portions`) are played apart: here they have no row.
use Rattle.std.specs.Prelude.{List, [], ℕ, min, length, take}
use Rattle.channel.specs.declared.Table.{Table}
use Rattle.script_commands.specs.declared.Command.{Command}
use Rattle.script_commands.specs.declared.Command.TheVariants as Command
use Rattle.row_call.specs.Printed.{bad_text}
use Rattle.row_view.specs.View.{view_text}
use Rattle.run_play.specs.Plays.{Play, play, spelled_of}
use Rattle.run_plain.specs.Played.{opening_of, closing_of, opened_of}
use Rattle.run_frames.specs.PlayedFrames.{frame_of, send_of, take_of}
use Rattle.run_queries.specs.PlayedQueries.{queries_of, tallies_of}
use Rattle.run_table.specs.PlayedTable.{part_of}

-- `line` has the command's words; `octets` and `frames` are lent, for the octets of a word or a job, and for frames.
module _ (t : Table) (room line octets frames : List ℕ) where
  -- a row that only tells: table and room stay
  abbrev told : (text : List ℕ) → Play
  told text = play t room text

  unfoldable pub play_of : Command → Play
  play_of Command.Bad = told bad_text
  play_of (Command.Opening c) = opening_of t room c
  play_of (Command.Closing c) = closing_of t room c
  play_of (Command.Make n d m) = told []
  play_of (Command.Signal link listening central pdu) = told []
  play_of (Command.Opened slot link up) = opened_of t room slot link up
  play_of (Command.Dispatch link cid payload) = frame_of t room link cid (spelled_of (length octets) line payload)
  play_of (Command.Send slot job) = send_of t room frames slot (spelled_of (length octets) line job)
  play_of (Command.Receive slot size) = take_of t room (take (min size (length octets)) octets) slot
  play_of (Command.Queries slot) = told (queries_of t slot)
  play_of (Command.Tallies slot) = told (tallies_of t slot)
  play_of Command.View = told (view_text t)
  play_of (Command.Room slot) = told (part_of t slot room)
  play_of (Command.Portions c) = told []
