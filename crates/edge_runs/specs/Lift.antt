-- A run of the entries is the definition's run, spelled. On octets that spell a table (Sized), an entry leaves what its call leaves: one law, `spelled-edge`,
-- cited once for each entry. From it, that after each entry table, room and memory are those of the definition's run (`entered-spelled`, `entries-spelled`),
-- and that what is told is what the outcomes say (`told-spelled`).
use mathlib.Core.List.{[]}
use Rattle.lists.specs.Choose.{choose}
use Rattle.channel.specs.declared.Answer.TheVariants as Answer
use Rattle.definition.specs.Calls.{Call, jobs}
use Rattle.definition.specs.Ending.{End, end_of}
use Rattle.definition.specs.Run.{State, lent, out_window, job_window, outcome}
use Rattle.definition.specs.Roomless.{roomless}
use Rattle.edge_layout.specs.Layout.{spell}
use Rattle.edge_layout.specs.Layout as Layout
use Rattle.edge_runs.specs.Run.{EdgeState}

-- A state of the definition's runs, its table spelled.
abbrev pub spelled : State → EdgeState
spelled s = record { table = spell s.table; room = s.room; memory = s.memory }

-- ---- one law for all entries

-- the end that an entry's contract names: without the room, where it is not lent it
abbrev pub end_in : State → Call → End
end_in s c = end_of s.table (jobs s.table c) (choose (roomless c) [] s.room) (lent (out_window c) s.memory) (lent (job_window c) s.memory) (outcome s c)
