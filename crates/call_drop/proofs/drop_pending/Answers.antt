-- `call_drop::drop_pending` meets its contract: behind the gate code and definition make the same tests in the same order.
use mathlib.Core.List.{[]}
use Rattle.table_room.specs.Placed.{room_of}
use borrow.Author.Tests.{eq-eqb, ne_eqb}
use Rattle.lists.specs.Choose.{choose}
use Rattle.definition.specs.Pending.{drop_pending}
use Rattle.table_gate.specs.Behind.{behind, on, stopped, ended}
use Rattle.call_drop.proofs.drop_pending.Goals as goal

pub returns-then-is_connected : goal.returns-then-is_connected
unfolding choose drop_pending
returns-then-is_connected c =
    rw (
      ← c.number-s.ensures,
      on c.gate.ensures c.in-Ok.is,
      ← c.slot_at-x.ensures,
      ← c.is_connected.ensures,
      c.if-is_connected.true,
    ) (ended c.done.ensures _ _)

pub returns-then-hold-eq0 : goal.returns-then-hold-eq0
unfolding choose drop_pending
returns-then-hold-eq0 c =
    rw (
      ← c.number-s.ensures,
      on c.gate.ensures c.in-Ok.is,
      ← c.slot_at-x.ensures,
      ← c.is_connected.ensures,
      c.if-is_connected.false,
      eq-eqb _ _ c.if-hold-eq0.true,
    ) (ended c.refused-then-hold-eq0.ensures _ _)

pub free-requires : goal.free-requires
free-requires c =
    let p = behind c.gate.ensures c.in-Ok.is in
    (room_of p, p.slot_is)

pub returns-then-is_peer_connecting : goal.returns-then-is_peer_connecting
unfolding choose drop_pending
returns-then-is_peer_connecting c =
    rw (
      ← c.number-s.ensures,
      on c.gate.ensures c.in-Ok.is,
      ← c.slot_at-x.ensures,
      ← c.is_connected.ensures,
      c.if-is_connected.false,
      ne_eqb _ _ c.if-hold-eq0.false,
      ← c.is_peer_connecting.ensures,
      c.if-is_peer_connecting.true,
    ) (rw c.with_hold-y.ensures at (c.free.ensures [] []))

pub returns-in-Err : goal.returns-in-Err
unfolding drop_pending
returns-in-Err c =
    rw (
      ← c.number-s.ensures,
      stopped c.gate.ensures c.in-Err.is,
    ) (ended c.refused.ensures _ _)

pub returns-else-is_peer_connecting : goal.returns-else-is_peer_connecting
unfolding choose drop_pending
returns-else-is_peer_connecting c =
    rw (
      ← c.number-s.ensures,
      on c.gate.ensures c.in-Ok.is,
      ← c.slot_at-x.ensures,
      ← c.is_connected.ensures,
      c.if-is_connected.false,
      ne_eqb _ _ c.if-hold-eq0.false,
      ← c.with_hold-y.ensures,
      ← c.is_peer_connecting.ensures,
      c.if-is_peer_connecting.false,
    ) (c.alter.ensures _ _ _ _)
