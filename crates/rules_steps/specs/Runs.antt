-- The laws of one call in every run from a made table, whatever its sizes, its room and the caller's memory: what is told, which identifiers are used, which steps
-- the slots make. Proved in Running.antt. (Those of a send and of a take, Credits.antt, hold of every table, so of a run's.)
use Rattle.std.specs.Prelude.{List, [], ◌∷◌, ℕ}
use Rattle.definition.specs.Calls.{Call}
use Rattle.definition.specs.Run.{State, outcome, after, made}
use Rattle.rules_steps.specs.Told.{Tells, Exactly}
use Rattle.rules_steps.specs.Steps.{Steps}

pub record Keeps (s : State) (c : Call) : Type 0 where
  pub tells : Tells s.table c (outcome s c)
  pub identifier : Exactly s.table c (outcome s c)
  pub steps : Steps s.table c (outcome s c)

-- each call, on what the last one left
abbrev pub AllKeep : State → List Call → Type 0
AllKeep s [] = Unit {0}
AllKeep s (c ∷ cs) = Keeps s c × AllKeep (after s c) cs

abbrev pub EveryRunKeeps : Type 0
EveryRunKeeps = (n d m : ℕ) (room memory : List ℕ) (cs : List Call) → AllKeep (made n d m room memory) cs
