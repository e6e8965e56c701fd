use mathlib.Core.Path.{◌≡◌, sym, ◌∙◌}
use native.Mathlib.Omega.{arith}
use borrow.Author.Rules.{rules}
use lib.ListN.{length}
use Rattle.lists.specs.Every.{kept-none, kept_more, kept-fails, kept_all}
use Rattle.channel.specs.Limits.{slots_most}
use Rattle.definition.specs.Table.{slot_fits}
use Rattle.table_gate_validity.proofs.slots_fit.Goals as goal

pub loop-i-init : goal.loop-i-init
loop-i-init c = (search rules, c.place_size-place.ensures, kept-none)

pub returns-then-not-slot_fits : goal.returns-then-not-slot_fits
returns-then-not-slot_fits c =
    let l = c.loop-i in
    let e : length c.args.t.slots ≡ slots_most = search rules in
    kept-fails l.invariant.2 _ (sym (rw l.invariant.1 at c.slot_fits.ensures) ∙ c.if-not-slot_fits.true) (omega arith) (omega arith)

pub loop-i-preserved : goal.loop-i-preserved
loop-i-preserved c =
    let l = c.loop-i in
    let e : length c.args.t.slots ≡ slots_most = search rules in
    (l.invariant.0, l.invariant.1, kept_more l.invariant.2 _ (sym (rw l.invariant.1 at c.slot_fits.ensures) ∙ c.if-not-slot_fits.false) (omega arith) (omega arith))

pub returns : goal.returns
returns c =
    let e : length c.args.t.slots ≡ slots_most = search rules in
    kept_all c.loop-i.invariant.2 (omega arith)
