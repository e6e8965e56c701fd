use mathlib.Core.Path.{refl}
use native.Mathlib.Omega.{arith}
use Rattle.edge_layout.specs.Layout.{taken}
use Rattle.edge_layout_decode.specs.Loops.{filled_none, filled_more, filled_all}
use Rattle.edge_layout_decode.proofs.slots_in.Goals as goal

pub loop-i-init : goal.loop-i-init
loop-i-init c = filled_none refl

pub loop-i-preserved : goal.loop-i-preserved
loop-i-preserved c = filled_more c.loop-i.invariant _ c.slot_at.ensures (omega arith)

pub returns : goal.returns
unfolding taken
returns c = filled_all c.loop-i.invariant (omega arith)
