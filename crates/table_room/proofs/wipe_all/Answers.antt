use mathlib.Core.Path.{◌≡◌, ◌∙◌}
use native.Mathlib.Omega.{arith}
use borrow.Author.Rules.{rules}
use lib.ListN.{length}
use Rattle.channel.specs.Limits.{slots_most}
use Rattle.table_room.specs.Swept.{swept_none, swept_more, swept_all}
use Rattle.table_room.specs.Placed.{placed}
use Rattle.table_room.proofs.wipe_all.Goals as goal

pub loop-i-init : goal.loop-i-init
loop-i-init c = swept_none

pub wipe_if-requires : goal.wipe_if-requires
wipe_if-requires c =
    let l = c.loop-i in
    placed {t = c.args.t} (record { sizes = c.requires.sizes; is = l.invariant.long ∙ c.requires.is }) l.i (omega arith)

pub loop-i-preserved : goal.loop-i-preserved
loop-i-preserved c =
    let l = c.loop-i in
    let e : length c.args.t.slots ≡ slots_most = search rules in
    let p = placed c.requires l.i (omega arith) in
    let r = rw c.fits.ensures at c.wipe_if.ensures in
    swept_more l.invariant _ r c.wipe_if.auto.room (omega arith) (omega (arith, c.requires.sizes.n-most)) p.within

pub returns : goal.returns
returns c =
    let e : length c.args.t.slots ≡ slots_most = search rules in
    swept_all c.loop-i.invariant (omega arith) (omega (arith, c.requires.sizes.n-most))
