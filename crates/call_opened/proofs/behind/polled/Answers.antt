-- `call_opened::behind::polled` meets its contract: code and definition make the same tests in the same order.
use mathlib.Core.Path.{sym}
use mathlib.Core.List.{[]}
use Rattle.definition.proofs.Ending.{end-still}
use borrow.Author.Tests.{eq-eqb, ne_eqb}
use Rattle.lists.specs.Choose.{choose}
use Rattle.definition.specs.Mem.{sizes}
use Rattle.call_opened.proofs.behind.polled.Goals as goal

pub returns-then-not-up : goal.returns-then-not-up
unfolding choose sizes
returns-then-not-up c = rw c.if-not-up.true-raw (c.free.ensures _ _)

pub returns-then-is_peer_disconnecting-is_disconnecting : goal.returns-then-is_peer_disconnecting-is_disconnecting
unfolding choose sizes
returns-then-is_peer_disconnecting-is_disconnecting c =
    rw (
      c.if-not-up.false-raw,
      ← c.is_peer_disconnecting.ensures,
      ← c.is_disconnecting.ensures,
      c.if-is_peer_disconnecting-is_disconnecting.true,
    ) (c.free-then-is_peer_disconnecting-is_disconnecting.ensures _ _)

pub returns-then-is_connect_failed : goal.returns-then-is_connect_failed
unfolding choose sizes
returns-then-is_connect_failed c =
    rw (
      c.if-not-up.false-raw,
      ← c.is_peer_disconnecting.ensures,
      ← c.is_disconnecting.ensures,
      c.if-is_peer_disconnecting-is_disconnecting.false,
      ← c.is_connect_failed.ensures,
      c.if-is_connect_failed.true,
    ) (rw c.failure_of-e.ensures at (c.free-then-is_connect_failed.ensures [] []))

pub returns-then-not-is_connected : goal.returns-then-not-is_connected
unfolding choose sizes
returns-then-not-is_connected c =
    rw (
      c.if-not-up.false-raw,
      ← c.is_peer_disconnecting.ensures,
      ← c.is_disconnecting.ensures,
      c.if-is_peer_disconnecting-is_disconnecting.false,
      ← c.is_connect_failed.ensures,
      c.if-is_connect_failed.false,
      ← c.is_connected.ensures,
      c.if-not-is_connected.true-raw,
      c.done.ensures,
    ) (sym (end-still _ _ _ _ _ _ _))

pub returns-then-x-ne0 : goal.returns-then-x-ne0
unfolding choose sizes
returns-then-x-ne0 c =
    rw (
      c.if-not-up.false-raw,
      ← c.is_peer_disconnecting.ensures,
      ← c.is_disconnecting.ensures,
      c.if-is_peer_disconnecting-is_disconnecting.false,
      ← c.is_connect_failed.ensures,
      c.if-is_connect_failed.false,
      ← c.is_connected.ensures,
      c.if-not-is_connected.false-raw,
      ne_eqb _ _ c.if-x-ne0.true,
      c.refused.ensures,
    ) (sym (end-still _ _ _ _ _ _ _))

pub returns : goal.returns
unfolding choose sizes
returns c =
    rw (
      c.if-not-up.false-raw,
      ← c.is_peer_disconnecting.ensures,
      ← c.is_disconnecting.ensures,
      c.if-is_peer_disconnecting-is_disconnecting.false,
      ← c.is_connect_failed.ensures,
      c.if-is_connect_failed.false,
      ← c.is_connected.ensures,
      c.if-not-is_connected.false-raw,
      eq-eqb _ _ c.if-x-ne0.false,
    ) (rw c.with_hold.ensures at (c.alter.ensures c.args.t c.args.room.now [] []))
