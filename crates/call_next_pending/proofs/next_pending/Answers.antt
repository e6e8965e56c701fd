-- `call_next_pending::next_pending` meets its contract: behind the gate code and definition make the same tests in the same order.
use borrow.Author.Tests.{eq-eqb, le-leb, lt-leb, ne_eqb}
use Rattle.lists.specs.Choose.{choose}
use Rattle.definition.specs.Mem.{sizes}
use Rattle.definition.specs.Pending.{next_pending}
use native.Mathlib.Omega.{arith}
use Rattle.table_gate.specs.Behind.{behind, on, stopped}
use Rattle.call_next_pending.proofs.next_pending.Goals as goal

pub returns-then-up : goal.returns-then-up
unfolding choose next_pending
returns-then-up c =
    rw (
      on c.gate.ensures c.in-Ok.is,
      ← c.find-s.ensures,
      le-leb _ _ c.if-t-s.true,
      c.if-up.true,
    ) c.done.ensures

pub returns-then-t-s : goal.returns-then-t-s
unfolding choose next_pending
returns-then-t-s c =
    rw (
      on c.gate.ensures c.in-Ok.is,
      ← c.find-s.ensures,
      le-leb _ _ c.if-t-s.true,
      c.if-up.false,
    ) c.refused-then-t-s.ensures

pub returns-then-x-ne0 : goal.returns-then-x-ne0
unfolding choose next_pending
returns-then-x-ne0 c =
    rw (
      on c.gate.ensures c.in-Ok.is,
      ← c.find-s.ensures,
      lt-leb _ _ c.if-t-s.false,
      ← c.slot_at-x.ensures,
      ne_eqb _ _ c.if-x-ne0.true,
    ) c.refused-then-x-ne0.ensures

pub index_at-i-requires : goal.index_at-i-requires
index_at-i-requires c =
    let p = behind c.gate.ensures c.in-Ok.is in
    omega (arith, p.sizes.n-most)

pub returns-in-Err : goal.returns-in-Err
unfolding next_pending
returns-in-Err c =
    rw (stopped c.gate.ensures c.in-Err.is) c.refused.ensures

pub returns-else-x-ne0 : goal.returns-else-x-ne0
unfolding choose sizes next_pending
returns-else-x-ne0 c =
    rw (
      on c.gate.ensures c.in-Ok.is,
      ← c.find-s.ensures,
      lt-leb _ _ c.if-t-s.false,
      ← c.slot_at-x.ensures,
      eq-eqb _ _ c.if-x-ne0.false,
      c.changed.ensures,
      c.with_hold.ensures,
      c.index_at-i.ensures,
    )
