use Rattle.std.proofs.Common.{ℕ, eqb, ap, ◌∙◌, ◌≡◌, arith, length, eq-eqb, ne_eqb}
use Rattle.std.proofs.Math.Seq.{take-length}
use Rattle.lists.specs.First.{first, passed_none, passed-more, passed_hit, passed_all}
use Rattle.signal_vectors.proofs.find.Goals as goal

pub loop-i-init : goal.loop-i-init
loop-i-init c = passed_none

pub returns-then-s-i-clause-value : goal.returns-then-s-i-clause-value
returns-then-s-i-clause-value c =
    let a = c.args in
    passed_hit c.loop-i.invariant 0 (eq-eqb _ _ c.if-s-i.true) (omega arith) (omega arith) ∙ ap (first (λ (x : ℕ). eqb x a.c)) (take-length a.s.now)

pub loop-i-preserved : goal.loop-i-preserved
loop-i-preserved c = passed-more c.loop-i.invariant 0 (ne_eqb _ _ c.if-s-i.false) (omega arith) (omega arith)

pub returns-clause-value : goal.returns-clause-value
returns-clause-value c =
    let a = c.args in
    let l = c.loop-i in
    let e : length a.s.now ≡ l.i = omega arith in
    e ∙ passed_all l.invariant (omega arith) ∙ ap (first (λ (x : ℕ). eqb x a.c)) (take-length a.s.now)
