use Prim.Native.Nat.{◌+◌}
use native.Mathlib.Omega.{arith}
use mathlib.Core.Path.{◌≡◌, ap, ◌∙◌}
use borrow.Author.Tests.{eq-eqb, ne_eqb}
use lib.ListN.{length-drop}
use lib.Seq.{get_or-drop}
use Rattle.lists.specs.First.{passed_none, passed-more, passed_hit, passed_all}
use Rattle.text_cut.proofs.find.Goals as goal

pub loop-i-init : goal.loop-i-init
loop-i-init c = passed_none

pub returns-then-s-from : goal.returns-then-s-from
returns-then-s-from c =
    let l = c.loop-i in
    let a = c.args in
    ap (λ k. a.from + k) (passed_hit l.invariant 0 (rw get_or-drop (eq-eqb _ _ c.if-s-from.true)) (omega arith) (rw length-drop (omega arith)))

pub loop-i-preserved : goal.loop-i-preserved
loop-i-preserved c =
    let l = c.loop-i in
    passed-more l.invariant 0 (rw get_or-drop (ne_eqb _ _ c.if-s-from.false)) (omega arith) (rw length-drop (omega arith))

pub returns : goal.returns
returns c =
    let l = c.loop-i in
    let a = c.args in
    let e : c.least-n.result ≡ l.i = omega arith in
    ap (λ k. a.from + k) (e ∙ passed_all l.invariant (rw length-drop (omega arith)))
