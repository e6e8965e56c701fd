-- `edge_layout_encode::encode` meets its contract: the head and the rows are the spelling (table-parts), and both arrays are full.
use mathlib.Core.Path.{sym}
use lib.ListN.{length}
use borrow.Author.Tests.{lt-ltb, le-ltb, le-leb, lt-leb}
use Rattle.lists.specs.Choose.{choose}
use Rattle.edge_layout.specs.Layout.{table_octets, written}
use Rattle.edge_layout_encode.specs.Whole.{table-parts}
use borrow.Author.Rules.{rules}
use Rattle.edge_layout_encode.proofs.encode.Goals as goal

pub returns-then-out-lt-TABLE_OCTETS : goal.returns-then-out-lt-TABLE_OCTETS
unfolding written choose
returns-then-out-lt-TABLE_OCTETS c =
    let l = length c.args.out.now in
    (rw (lt-ltb l table_octets c.if-out-lt-TABLE_OCTETS.true), sym (lt-leb table_octets l c.if-out-lt-TABLE_OCTETS.true))

pub returns : goal.returns
unfolding written choose
returns c =
    let l = length c.args.out.now in (
      rw (le-ltb l table_octets c.if-out-lt-TABLE_OCTETS.false, c.put_slots.ensures, c.put_head.ensures) (table-parts c.args.out.now c.args.t c.if-out-lt-TABLE_OCTETS.false (search rules) (search rules)),
      sym (le-leb table_octets l c.if-out-lt-TABLE_OCTETS.false),
    )
