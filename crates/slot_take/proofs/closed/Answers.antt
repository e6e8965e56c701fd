-- `slot_take::closed` meets its contract: the definition's four tests.
use Rattle.slot_take.proofs.closed.Goals as goal

pub returns : goal.returns
returns c =
    rw (
      ← c.is_disconnected.ensures,
      ← c.is_connecting.ensures,
      ← c.is_peer_connecting.ensures,
      ← c.is_connect_failed.ensures,
    )
