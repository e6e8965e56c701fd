-- A run of jobs (l2cap_send_run) is the entries l2cap_send that its jobs are, one after the other, each lent what the ones before it left of the output: so it leaves table, room and memory, and its
-- answers are the octets that these entries answer. What holds of every run of entries holds of one with runs of jobs in it.
use Rattle.std.specs.Prelude.{ℕ, ◌+◌, ◌-◌, None, Result}
use mathlib.Core.List.{List}
use Rattle.std.proofs.Math.ListN.{get_or}
use Rattle.octets.specs.Octets.{u16_at, part}
use Rattle.definition.specs.Outcome.{verdict}
use Rattle.definition.specs.Calls.{Window}
use Rattle.edge_layout.specs.Layout.{read}
use Rattle.edge_run.specs.Run.{Lent}
use Rattle.edge_runs.specs.Entries.{send}
use Rattle.edge_runs.specs.Run.{Asked}
use Rattle.codes.specs.declared.Refusal.{Refusal}

-- ---- a run of jobs

-- what is left of the output, which stands in the part w of the memory
abbrev pub left : Window → Lent → Window
left w l = record { from = w.from + l.wrote; size = w.size - l.wrote }

-- the job at a place of the run: its send is lent that
abbrev pub job_asked : (jobs : List ℕ) → Window → (from : ℕ) → (answer : List ℕ) → Lent → Asked
job_asked jobs w from answer l = record { entry = send (left w l) (get_or jobs from 0) (part jobs (from + 3) (u16_at jobs (from + 1))); answer = answer }

abbrev pub verdict_of : (table : List ℕ) → Result (Unit {0}) Refusal
verdict_of table = verdict (read table).table None None None None
