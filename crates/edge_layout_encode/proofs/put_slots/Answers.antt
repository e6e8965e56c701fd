use mathlib.Core.Path.{◌≡◌}
use native.Mathlib.Omega.{arith}
use lib.ListN.{length}
use borrow.Author.Rules.{rules}
use Rattle.channel.specs.Limits.{slots_most}
use Rattle.edge_layout_encode.specs.Whole.{rowing_none, rowing_more, rowing_end}
use Rattle.edge_layout_encode.proofs.put_slots.Goals as goal

pub loop-i-init : goal.loop-i-init
loop-i-init c = rowing_none

pub put_slot-requires : goal.put_slot-requires
put_slot-requires c = (omega arith, omega arith)

pub loop-i-preserved : goal.loop-i-preserved
loop-i-preserved c =
    let l = c.loop-i in
    let e : length c.args.t.slots ≡ slots_most = search rules in
    rw c.put_slot.ensures (rowing_more l.invariant _ (omega arith))

pub returns : goal.returns
returns c =
    let e : length c.args.t.slots ≡ slots_most = search rules in
    rowing_end c.loop-i.invariant (omega arith)
