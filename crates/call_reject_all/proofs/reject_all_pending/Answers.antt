-- `call_reject_all::reject_all_pending` meets its contract: behind the gate code and definition make the same tests in the same order.
use mathlib.Core.List.{[]}
use native.Mathlib.Omega.{arith}
use Rattle.table_room.specs.Placed.{room_of}
use borrow.Author.Tests.{le-leb, lt-leb}
use Rattle.lists.specs.Choose.{choose}
use Rattle.definition.specs.Pending.{reject_all_pending}
use Rattle.table_gate.specs.Behind.{behind, on, stopped, ended}
use Rattle.call_reject_all.proofs.reject_all_pending.Goals as goal

pub returns-then-t-s : goal.returns-then-t-s
unfolding choose reject_all_pending
returns-then-t-s c =
    rw (
      on c.gate.ensures c.in-Ok.is,
      ← c.find-s.ensures,
      le-leb _ _ c.if-t-s.true,
    ) (ended c.done.ensures _ _)

pub index_at-i-requires : goal.index_at-i-requires
index_at-i-requires c =
    let p = behind c.gate.ensures c.in-Ok.is in
    omega (arith, p.sizes.n-most)

pub free_and_tell-requires : goal.free_and_tell-requires
free_and_tell-requires c =
    let p = behind c.gate.ensures c.in-Ok.is in
    (room_of p, omega arith, p.signal-is)

pub returns-in-Err : goal.returns-in-Err
unfolding reject_all_pending
returns-in-Err c =
    rw (stopped c.gate.ensures c.in-Err.is) (ended c.refused.ensures _ _)

pub returns-else-t-s : goal.returns-else-t-s
unfolding choose reject_all_pending
returns-else-t-s c =
    rw (
      on c.gate.ensures c.in-Ok.is,
      ← c.find-s.ensures,
      lt-leb _ _ c.if-t-s.false,
    ) (rw (c.reject-res.ensures, c.index_at-i.ensures, c.identifier_of-id.ensures, c.slot_at-x.ensures) at (c.free_and_tell.ensures []))
