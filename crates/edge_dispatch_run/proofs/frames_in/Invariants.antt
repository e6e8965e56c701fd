-- `edge_dispatch_run::frames_in` meets its contract. The invariant: what is left of the run, from where the loop stands, comes to the whole of it (`Taking`).
use mathlib.Core.Path.{◌≡◌}
use Prim.Native.Nat.{◌-◌}
use lib.ListN.{length}
use Rattle.edge_dispatch_run.specs.Frames.{frames_run}
use Rattle.edge_dispatch_run.specs.Turn.{Taking}
use Rattle.edge_dispatch_run.proofs.frames_in.Given as goal

abbrev pub invariant-loop-at : goal.invariant-loop-at
invariant-loop-at l = (length l.table ≡ length l.initial.table) × (length l.room ≡ length l.initial.room) × (length l.answers ≡ length l.initial.answers) × Taking l.frames (frames_run l.initial.table l.initial.room l.frames l.initial.answers) l.table l.room l.answers l.count l.at

abbrev pub decreases-loop-at : goal.decreases-loop-at
decreases-loop-at l = length l.frames - l.at
