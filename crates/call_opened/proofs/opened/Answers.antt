-- `call_opened::opened` meets its contract: behind the gate code and definition make the same tests in the same order; the rest is `behind`.
use Rattle.table_room.specs.Placed.{room_of}
use borrow.Author.Tests.{eq-eqb, ne_eqb}
use Rattle.lists.specs.Choose.{choose}
use Rattle.definition.specs.Opening.{opened}
use Rattle.table_gate.specs.Behind.{behind, on, stopped, ended}
use Rattle.call_opened.proofs.opened.Goals as goal

pub returns-then-is_disconnected : goal.returns-then-is_disconnected
unfolding choose opened
returns-then-is_disconnected c =
    rw (
      ← c.number-s.ensures,
      on c.gate.ensures c.in-Ok.is,
      ← c.slot_at-x.ensures,
      ← c.is_disconnected.ensures,
      c.if-is_disconnected.true,
    ) (ended c.refused-then-is_disconnected.ensures _ _)

pub returns-then-x-link : goal.returns-then-x-link
unfolding choose opened
returns-then-x-link c =
    rw (
      ← c.number-s.ensures,
      on c.gate.ensures c.in-Ok.is,
      ← c.slot_at-x.ensures,
      ← c.is_disconnected.ensures,
      c.if-is_disconnected.false,
      ne_eqb _ _ c.if-x-link.true,
    ) (ended c.refused-then-x-link.ensures _ _)

pub polled-requires : goal.polled-requires
polled-requires c =
    let p = behind c.gate.ensures c.in-Ok.is in
    (room_of p, p.slot_is)

pub returns-in-Err : goal.returns-in-Err
unfolding opened
returns-in-Err c =
    rw (
      ← c.number-s.ensures,
      stopped c.gate.ensures c.in-Err.is,
    ) (ended c.refused.ensures _ _)

pub returns-else-x-link : goal.returns-else-x-link
unfolding choose opened
returns-else-x-link c =
    rw (
      ← c.number-s.ensures,
      on c.gate.ensures c.in-Ok.is,
      ← c.slot_at-x.ensures,
      ← c.is_disconnected.ensures,
      c.if-is_disconnected.false,
      eq-eqb _ _ c.if-x-link.false,
    ) c.polled.ensures
