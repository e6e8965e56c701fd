use mathlib.Core.Path.{◌≡◌, sym, ◌∙◌}
use native.Mathlib.Omega.{arith}
use borrow.Author.Rules.{rules}
use lib.ListN.{length}
use Rattle.lists.specs.First.{passed_none, passed-more, passed_hit, passed_all}
use Rattle.channel.specs.Limits.{slots_most}
use Rattle.table.proofs.slots.find.Goals as goal

pub loop-i-init : goal.loop-i-init
loop-i-init c = passed_none

pub returns-then-fits : goal.returns-then-fits
returns-then-fits c =
    let e : length c.args.t.slots ≡ slots_most = search rules in
    passed_hit c.loop-i.invariant _ (sym c.fits.ensures ∙ c.if-fits.true) (omega arith) (omega arith)

pub loop-i-preserved : goal.loop-i-preserved
loop-i-preserved c =
    let e : length c.args.t.slots ≡ slots_most = search rules in
    passed-more c.loop-i.invariant _ (sym c.fits.ensures ∙ c.if-fits.false) (omega arith) (omega arith)

pub returns : goal.returns
returns c =
    let e : length c.args.t.slots ≡ slots_most = search rules in
    let n : c.least-n.result ≡ c.loop-i.i = omega arith in
    n ∙ passed_all c.loop-i.invariant (omega arith)
