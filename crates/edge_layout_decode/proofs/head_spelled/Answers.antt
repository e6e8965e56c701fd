use mathlib.Core.Path.{◌≡◌}
use native.Mathlib.Omega.{arith}
use Rattle.edge_layout.specs.Spelled.{head_spelled}
use Rattle.edge_layout_decode.specs.Loops.{held_none, held_more}
use Rattle.edge_layout_decode.proofs.head_spelled.Goals as goal

pub loop-i-init : goal.loop-i-init
loop-i-init c = held_none

pub loop-i-preserved : goal.loop-i-preserved
loop-i-preserved c = held_more c.loop-i.invariant

pub returns : goal.returns
unfolding head_spelled
returns c =
    let l = c.loop-i in
    let e : l.i ≡ 10 = omega arith in
    rw (l.invariant.is, e)
