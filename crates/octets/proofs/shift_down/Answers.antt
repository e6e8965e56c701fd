use mathlib.Core.Path.{sym, ◌∙◌}
use Prim.Native.Nat.{◌+◌}
use native.Mathlib.Nat.{le_refl}
use native.Mathlib.Omega.{arith}
use lib.ListN.{length-take, length-drop}
use lib.Seq.{get_or-set_other}
use Rattle.lists.specs.Sets.{writing_more, part_at}
use Rattle.octets.proofs.shift_down.Goals as goal

pub loop-i-preserved : goal.loop-i-preserved
loop-i-preserved c =
    let l = c.loop-i in
    let a = c.args in (
      writing_more l.invariant.0 0 _ (part_at 0 a.dst.now a.from a.n l.i (omega arith) ∙ sym (l.invariant.1 (a.from + l.i) (le_refl _))) (rw (length-take, length-drop) (omega arith)),
      λ k h. get_or-set_other l.dst (a.at + l.i) k _ 0 (λ q. omega arith) ∙ l.invariant.1 k (omega arith),
    )
