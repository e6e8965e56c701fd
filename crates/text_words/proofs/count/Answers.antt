use Prim.Native.Nat.{◌<◌}
use native.Mathlib.Omega.{arith}
use mathlib.Core.Path.{sym, ◌∙◌}
use borrow.Author.Tests.{eq-eqb, ne_eqb}
use lib.ListN.{length}
use Prim.Native.Char.{code}
use Rattle.text_cut.proofs.CutLaws.{cut_count, counted_none, counted_hit, counted_pass, counted_all}
use Rattle.text_words.proofs.count.Goals as goal
use Rattle.text_words.proofs.count.Goals.{then-line-i-eq32, else-line-i-eq32}

pub loop-i-init : goal.loop-i-init
loop-i-init c = counted_none

pub loop-i-preserved : goal.loop-i-preserved
loop-i-preserved c =
    let l = c.loop-i in
    let h : l.i < length c.args.line.now = omega arith in
    elim c.if-line-i-eq32.branch [
      | then-line-i-eq32 w ↦ rw w.n-is (counted_hit l.invariant 0 (eq-eqb _ _ w.if-line-i-eq32.true) h)
      | else-line-i-eq32 w ↦ rw w.n-is (counted_pass l.invariant 0 (ne_eqb _ _ w.if-line-i-eq32.false) h)
    ]

pub returns : goal.returns
returns c = counted_all c.loop-i.invariant (omega arith) ∙ sym (cut_count (code " ") c.args.line.now)
