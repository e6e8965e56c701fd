-- `call_reject::coded::reject_pending` meets its contract: behind the gate code and definition make the same tests in the same order.
use mathlib.Core.List.{[]}
use Rattle.table_room.specs.Placed.{room_of}
use borrow.Author.Tests.{eq-eqb, ne_eqb}
use Rattle.lists.specs.Choose.{choose}
use Rattle.definition.specs.Pending.{reject_pending}
use Rattle.table_gate.specs.Behind.{behind, on, stopped, ended}
use Rattle.call_reject.proofs.coded.reject_pending.Goals as goal

pub returns-then-not-is_peer_connecting : goal.returns-then-not-is_peer_connecting
unfolding choose reject_pending
returns-then-not-is_peer_connecting c =
    rw (
      ← c.number-s.ensures,
      on c.gate.ensures c.in-Ok.is,
      ← c.slot_at-x.ensures,
      ← c.is_peer_connecting.ensures,
      c.if-not-is_peer_connecting.true-raw,
    ) (ended c.refused-then-not-is_peer_connecting.ensures _ _)

pub returns-then-hold-eq0 : goal.returns-then-hold-eq0
unfolding choose reject_pending
returns-then-hold-eq0 c =
    rw (
      ← c.number-s.ensures,
      on c.gate.ensures c.in-Ok.is,
      ← c.slot_at-x.ensures,
      ← c.is_peer_connecting.ensures,
      c.if-not-is_peer_connecting.false-raw,
      eq-eqb _ _ c.if-hold-eq0.true,
    ) (ended c.refused-then-hold-eq0.ensures _ _)

pub free_and_tell-requires : goal.free_and_tell-requires
free_and_tell-requires c =
    let p = behind c.gate.ensures c.in-Ok.is in
    (room_of p, p.slot_is, p.signal-is)

pub returns-in-Err : goal.returns-in-Err
unfolding reject_pending
returns-in-Err c =
    rw (
      ← c.number-s.ensures,
      stopped c.gate.ensures c.in-Err.is,
    ) (ended c.refused.ensures _ _)

pub returns-else-hold-eq0 : goal.returns-else-hold-eq0
unfolding choose reject_pending
returns-else-hold-eq0 c =
    rw (
      ← c.number-s.ensures,
      on c.gate.ensures c.in-Ok.is,
      ← c.slot_at-x.ensures,
      ← c.is_peer_connecting.ensures,
      c.if-not-is_peer_connecting.false-raw,
      ne_eqb _ _ c.if-hold-eq0.false,
    ) (rw (c.reject-res.ensures, c.with_hold-y.ensures, c.identifier_of-id.ensures) at (c.free_and_tell.ensures []))
