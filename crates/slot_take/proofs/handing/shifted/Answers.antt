-- `slot_take::handing::shifted` meets its contract: of four lengths the later three, and a 0 (shifted_four).
use mathlib.Core.Path.{◌≡◌}
use lib.ListN.{length}
use Rattle.channel.specs.Limits.{depth_most}
use Rattle.slot_take.specs.Handed.{shifted_four}
use borrow.Author.Rules.{rules}
use Rattle.slot_take.proofs.handing.shifted.Goals as goal

pub returns : goal.returns
returns c =
    let l = c.args.q.lens in
    let e : length l ≡ depth_most = search rules in
    rw (← shifted_four l e)
