-- `call_next_disconnect::next_disconnect` meets its contract: behind the gate code and definition make the same tests in the same order.
use native.Mathlib.Omega.{arith}
use Rattle.table_room.specs.Placed.{room_of}
use borrow.Author.Tests.{le-leb, lt-leb}
use Rattle.lists.specs.Choose.{choose}
use Rattle.definition.specs.Closing.{next_disconnect}
use Rattle.table_gate.specs.Behind.{behind, on, stopped, ended}
use Rattle.call_next_disconnect.proofs.next_disconnect.Goals as goal

pub returns-then-t-s : goal.returns-then-t-s
unfolding choose next_disconnect
returns-then-t-s c =
    rw (
      on c.gate.ensures c.in-Ok.is,
      ← c.find-s.ensures,
      le-leb _ _ c.if-t-s.true,
    ) (ended c.done.ensures _ _)

pub respond-requires : goal.respond-requires
respond-requires c =
    let p = behind c.gate.ensures c.in-Ok.is in
    (room_of p, omega arith, p.signal-is, omega (arith, p.sizes.n-most))

pub returns-then-is_peer_disconnecting : goal.returns-then-is_peer_disconnecting
unfolding choose next_disconnect
returns-then-is_peer_disconnecting c =
    rw (
      on c.gate.ensures c.in-Ok.is,
      ← c.find-s.ensures,
      lt-leb _ _ c.if-t-s.false,
      ← c.slot_at-x.ensures,
      ← c.is_peer_disconnecting.ensures,
      c.if-is_peer_disconnecting.true,
    ) c.respond.ensures

pub request-requires : goal.request-requires
request-requires c =
    let p = behind c.gate.ensures c.in-Ok.is in
    (p.signal-is, omega (arith, p.sizes.n-most))

pub returns-in-Err : goal.returns-in-Err
unfolding next_disconnect
returns-in-Err c =
    rw (stopped c.gate.ensures c.in-Err.is) (ended c.refused.ensures _ _)

pub returns-else-is_peer_disconnecting : goal.returns-else-is_peer_disconnecting
unfolding choose next_disconnect
returns-else-is_peer_disconnecting c =
    rw (
      on c.gate.ensures c.in-Ok.is,
      ← c.find-s.ensures,
      lt-leb _ _ c.if-t-s.false,
      ← c.slot_at-x.ensures,
      ← c.is_peer_disconnecting.ensures,
      c.if-is_peer_disconnecting.false,
    ) (c.request.ensures _ _ _)
