-- A run of frames (l2cap_dispatch_run) is the entries l2cap_dispatch that its frames are, one after the other: so it leaves table, room and memory, and its answers are the octets that these entries
-- answer. What holds of every run of entries holds of one with runs of frames in it.
use Rattle.std.specs.Prelude.{ℕ, ◌+◌, length, None, Result, Some}
use mathlib.Core.List.{List}
use Rattle.octets.specs.Octets.{u16_at, part}
use Rattle.definition.specs.Outcome.{verdict}
use Rattle.edge_layout.specs.Layout.{read}
use Rattle.edge_run.specs.Run.{Lent}
use Rattle.edge_runs.specs.Entries.{dispatch}
use Rattle.edge_runs.specs.Run.{Asked}
use Rattle.codes.specs.declared.Refusal.{Refusal}

-- the frame at a place of the run
abbrev pub frame_asked : (frames : List ℕ) → (from : ℕ) → (answer : List ℕ) → Lent → Asked
frame_asked frames from answer l = record { entry = dispatch (u16_at frames from) (u16_at frames (from + 2)) (part frames (from + 6) (u16_at frames (from + 4))); answer = answer }

abbrev pub verdict_of : (table room : List ℕ) → Result (Unit {0}) Refusal
verdict_of table room = verdict (read table).table (Some (length room)) None None None
