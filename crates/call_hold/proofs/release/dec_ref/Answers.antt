-- `call_hold::dec_ref` meets its contract: behind the gate code and definition make the same tests in the same order.
use mathlib.Core.List.{[]}
use Rattle.table_room.specs.Placed.{room_of}
use borrow.Author.Tests.{eq-eqb, ne_eqb}
use Rattle.lists.specs.Choose.{choose}
use Rattle.definition.specs.Closing.{dec_ref}
use Rattle.table_gate.specs.Behind.{behind, on, stopped, ended}
use Rattle.call_hold.proofs.release.dec_ref.Goals as goal

pub returns-then-hold-eq0 : goal.returns-then-hold-eq0
unfolding choose dec_ref
returns-then-hold-eq0 c =
    rw (
      ← c.number-s.ensures,
      on c.gate.ensures c.in-Ok.is,
      ← c.slot_at-x.ensures,
      eq-eqb _ _ c.if-hold-eq0.true,
    ) (ended c.refused-then-hold-eq0.ensures _ _)

pub leave-requires : goal.leave-requires
leave-requires c =
    let p = behind c.gate.ensures c.in-Ok.is in
    (room_of p, p.slot_is)

pub returns-then-is_connected-hold : goal.returns-then-is_connected-hold
unfolding choose dec_ref
returns-then-is_connected-hold c =
    rw (
      ← c.number-s.ensures,
      on c.gate.ensures c.in-Ok.is,
      ← c.slot_at-x.ensures,
      ne_eqb _ _ c.if-hold-eq0.false,
      ← c.is_connected.ensures,
      c.if-is_connected-hold.true,
    ) (rw c.with_hold-y.ensures at (c.leave.ensures [] []))

pub returns-in-Err : goal.returns-in-Err
unfolding dec_ref
returns-in-Err c =
    rw (
      ← c.number-s.ensures,
      stopped c.gate.ensures c.in-Err.is,
    ) (ended c.refused.ensures _ _)

pub returns-else-is_connected-hold : goal.returns-else-is_connected-hold
unfolding choose dec_ref
returns-else-is_connected-hold c =
    rw (
      ← c.number-s.ensures,
      on c.gate.ensures c.in-Ok.is,
      ← c.slot_at-x.ensures,
      ne_eqb _ _ c.if-hold-eq0.false,
      ← c.is_connected.ensures,
      c.if-is_connected-hold.false,
      ← c.with_hold.ensures,
    ) (c.alter.ensures _ _ _ _)
