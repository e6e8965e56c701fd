-- `edge_send_run::jobs_out` meets its contract. The loop's invariant: what is left of the run comes to the whole of it (Sending); a turn of it is one send (sending_turn).
use mathlib.Core.Path.{◌≡◌}
use Prim.Native.Nat.{◌-◌}
use lib.ListN.{length}
use Rattle.edge_send_run.specs.Jobs.{jobs_run}
use Rattle.edge_send_run.specs.Turn.{Sending}
use Rattle.edge_send_run.proofs.jobs_out.Given as goal

abbrev pub invariant-loop-at : goal.invariant-loop-at
invariant-loop-at l =
    (length l.table ≡ length l.initial.table) × (length l.out ≡ length l.initial.out) × (length l.answers ≡ length l.initial.answers) × Sending l.jobs (jobs_run l.initial.table l.initial.out l.jobs l.initial.answers) l.table l.out l.answers l.count l.at l.wrote

abbrev pub decreases-loop-at : goal.decreases-loop-at
decreases-loop-at l = length l.jobs - l.at
