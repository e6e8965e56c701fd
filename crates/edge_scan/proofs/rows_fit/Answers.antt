use mathlib.Core.Path.{◌≡◌}
use native.Mathlib.Omega.{arith}
use Rattle.channel.specs.Limits.{slots_most}
use Rattle.edge_layout_decode.specs.Loops.{held_none, held_more}
use Rattle.edge_scan.proofs.rows_fit.Goals as goal

pub loop-i-init : goal.loop-i-init
loop-i-init c = held_none

pub loop-i-preserved : goal.loop-i-preserved
loop-i-preserved c = rw c.row_fits-fits.ensures (held_more c.loop-i.invariant)

pub returns : goal.returns
returns c =
    let l = c.loop-i in
    let e : l.i ≡ slots_most = omega arith in
    rw (l.invariant.is, e)
