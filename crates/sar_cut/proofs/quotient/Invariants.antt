-- `sar_cut::quotient` meets its contract: the invariant is long division's own (Dividing), and each way through a turn is one law of it.
use Rattle.sar_cut.specs.Division.{Dividing}
use Rattle.sar_cut.proofs.quotient.Given as goal

abbrev pub invariant-loop-step : goal.invariant-loop-step
invariant-loop-step l = Dividing l.x l.m l.q l.rest l.step

abbrev pub decreases-loop-step : goal.decreases-loop-step
decreases-loop-step l = l.step
