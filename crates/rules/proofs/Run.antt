-- What the rules speak of: every state that a run from a made table reaches. The run is the one of the definition (Run.antt there), which
-- demand 3 speaks of too; here is only which numbers its calls may give, and what it reaches.
use Rattle.std.specs.Prelude.{List, [], ◌∷◌}
use Rattle.definition.specs.Calls.{Call}
use Rattle.definition.specs.Run.{State, after, run}
use Rattle.rules.specs.Run.{AllFit, Reached, next}

pub run-reached : (s : State) (cs : List Call) → Reached s → AllFit cs → Reached (run s cs)
unfolding run
run-reached s [] r f = r
run-reached s (c ∷ cs) r f = run-reached (after s c) cs (next c r f.0) f.1
