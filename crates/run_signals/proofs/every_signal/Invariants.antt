-- `run_signals::every_signal` meets its contract: each turn serves the first of what is left (next_turn), which is shorter, until nothing is (all_turns).
use Rattle.std.proofs.Common.{◌≡◌, List, ℕ, length}
use Rattle.run_signals.specs.Signalled.{after, signals_after, AfterSome}
use Rattle.run_signals.proofs.every_signal.Given as goal

abbrev pub invariant-loop-rest : goal.invariant-loop-rest
invariant-loop-rest g l = record {
  served : signals_after l.link l.listening l.central l.rest (after l.u l.room) ≡ signals_after l.link l.listening l.central l.initial.rest (after l.initial.u l.initial.room);
  some : (r : List ℕ) → AfterSome l.link l.listening l.central l.rest (after l.u l.room) r → AfterSome l.link l.listening l.central l.initial.rest (after l.initial.u l.initial.room) r;
}

abbrev pub decreases-loop-rest : goal.decreases-loop-rest
decreases-loop-rest g l = length l.rest
