-- `call_make::make` meets its contract: code and definition make the same two tests in the same order.
use mathlib.Core.Path.{sym, ◌∙◌}
use Rattle.lists.specs.Choose.{choose}
use Rattle.definition.specs.Asking.{make}
use Rattle.table_gate.specs.Sizes.{sizes_fit_lem}
use lib.Dec.{eqb}
use lib.ListN.{length}
use borrow.Author.Tests.{not-true, not-false}
use Rattle.call_make.proofs.make.Goals as goal

pub returns-then-not-fit : goal.returns-then-not-fit
unfolding choose make
returns-then-not-fit c = rw (← c.sizes_fit-fit.ensures, c.if-not-fit.true-raw, c.not_made.ensures)

pub room_size-requires : goal.room_size-requires
room_size-requires c = sizes_fit_lem _ _ _ (sym c.sizes_fit-fit.ensures ∙ c.if-not-fit.false)

pub returns-then-not-sized : goal.returns-then-not-sized
unfolding choose make
returns-then-not-sized c =
    let other = not-true (eqb (length c.args.room.now) c.room_size.result) c.if-not-sized.true-raw in
    rw (
      ← c.sizes_fit-fit.ensures,
      c.if-not-fit.false-raw,
      ← c.room_size.ensures,
      c.zero_if.ensures,
      other,
      c.not_made-then-not-sized.ensures,
    )

pub returns : goal.returns
unfolding choose make
returns c =
    let same = not-false (eqb (length c.args.room.now) c.room_size.result) c.if-not-sized.false-raw in
    rw (
      ← c.sizes_fit-fit.ensures,
      c.if-not-fit.false-raw,
      ← c.room_size.ensures,
      c.zero_if.ensures,
      same,
      c.still.ensures,
      c.blank.ensures,
    )
