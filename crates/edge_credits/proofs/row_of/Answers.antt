use mathlib.Core.Path.{◌≡◌, sym, ◌∙◌}
use mathlib.Core.Bool.{true, false}
use native.Mathlib.Omega.{arith}
use lib.ListN.{get_or}
use Rattle.lists.specs.First.{passed_none, passed-more, passed_hit, passed_all}
use Rattle.definition.specs.Table.{gap, connected_to}
use Rattle.edge_layout.specs.Layout.{taken}
use Rattle.edge_placed.specs.Credited.{rows_long, row-says}
use Rattle.edge_credits.proofs.row_of.Goals as goal

pub loop-i-init : goal.loop-i-init
loop-i-init c = passed_none

pub returns-then-connected_to : goal.returns-then-connected_to
returns-then-connected_to c =
    let l = c.loop-i in
    let o = c.args.t.now in
    let on : connected_to c.args.link c.args.cid (get_or (taken o).slots l.i gap) ≡ true = rw (row-says o l.i (omega (arith, c.requires.1))) (sym c.connected_to.ensures ∙ c.if-connected_to.true) in
    passed_hit l.invariant gap on (omega arith) (omega (arith, rows_long o, c.requires.1))

pub loop-i-preserved : goal.loop-i-preserved
loop-i-preserved c =
    let l = c.loop-i in
    let o = c.args.t.now in
    let off : connected_to c.args.link c.args.cid (get_or (taken o).slots l.i gap) ≡ false = rw (row-says o l.i (omega (arith, c.requires.1))) (sym c.connected_to.ensures ∙ c.if-connected_to.false) in
    passed-more l.invariant gap off (omega arith) (omega (arith, rows_long o, c.requires.1))

pub returns : goal.returns
returns c =
    let n : c.args.n ≡ c.loop-i.i = omega arith in
    n ∙ passed_all c.loop-i.invariant (omega (arith, rows_long c.args.t.now, c.requires.1))
