-- `call_hold::inc_ref` meets its contract: behind the gate code and definition make the same tests in the same order.
use borrow.Author.Tests.{le-leb, lt-leb}
use Rattle.lists.specs.Choose.{choose}
use Rattle.definition.specs.Mem.{sizes}
use Rattle.definition.specs.Closing.{inc_ref}
use Rattle.table_gate.specs.Behind.{on, stopped}
use Rattle.call_hold.proofs.inc_ref.Goals as goal

pub returns-then-hold-ge-HOLDS_MOST : goal.returns-then-hold-ge-HOLDS_MOST
unfolding choose inc_ref
returns-then-hold-ge-HOLDS_MOST c =
    rw (
      ← c.number-s.ensures,
      on c.gate.ensures c.in-Ok.is,
      ← c.slot_at-x.ensures,
      le-leb _ _ c.if-hold-ge-HOLDS_MOST.true,
    ) c.refused-then-hold-ge-HOLDS_MOST.ensures

pub returns-in-Err : goal.returns-in-Err
unfolding inc_ref
returns-in-Err c =
    rw (
      ← c.number-s.ensures,
      stopped c.gate.ensures c.in-Err.is,
    ) c.refused.ensures

pub returns-else-hold-ge-HOLDS_MOST : goal.returns-else-hold-ge-HOLDS_MOST
unfolding choose sizes inc_ref
returns-else-hold-ge-HOLDS_MOST c =
    rw (
      ← c.number-s.ensures,
      on c.gate.ensures c.in-Ok.is,
      ← c.slot_at-x.ensures,
      lt-leb _ _ c.if-hold-ge-HOLDS_MOST.false,
      c.changed.ensures,
      c.with_hold.ensures,
    )
