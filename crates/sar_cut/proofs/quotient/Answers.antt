use native.Mathlib.Omega.{arith}
use Rattle.sar_cut.proofs.Division.{dividing_first, dividing_small, dividing_counted, dividing_passed, dividing_last}
use Rattle.sar_cut.proofs.quotient.Goals as goal
use Rattle.sar_cut.proofs.quotient.Goals.{then-step-rest, else-step-rest}

pub overflow_mul-step : goal.overflow_mul-step
overflow_mul-step c = omega arith

pub loop-step-init : goal.loop-step-init
loop-step-init c = let a = c.args in dividing_first a.x a.m _ c.requires (omega arith)

pub overflow_mul-q : goal.overflow_mul-q
overflow_mul-q c = omega (arith, dividing_small c.requires c.loop-step.invariant)

pub overflow_add-q : goal.overflow_add-q
overflow_add-q c = omega (arith, dividing_small c.requires c.loop-step.invariant)

pub loop-step-smaller : goal.loop-step-smaller
loop-step-smaller c = omega arith

pub loop-step-preserved : goal.loop-step-preserved
loop-step-preserved c =
    let within = c.requires in
    elim c.if-step-rest.branch [
      | then-step-rest w ↦ rw (w.rest-is, w.q-is) (dividing_counted within c.loop-step.invariant (omega arith) (omega (arith, w.if-step-rest.true)))
      | else-step-rest w ↦ rw (w.rest-is, w.q-is) (dividing_passed within c.loop-step.invariant (omega arith) (omega (arith, w.if-step-rest.false)))
    ]

pub returns : goal.returns
returns c = dividing_last c.requires c.loop-step.invariant (omega arith)
