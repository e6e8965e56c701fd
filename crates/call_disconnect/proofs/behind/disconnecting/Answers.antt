-- `call_disconnect::behind::disconnecting` meets its contract: behind the gate code and definition make the same tests in the same order.
use mathlib.Core.Path.{sym}
use Rattle.definition.proofs.Ending.{end-still}
use Rattle.lists.specs.Choose.{choose}
use Rattle.definition.specs.Mem.{sizes}
use Rattle.definition.specs.Closing.{disconnecting}
use Rattle.call_disconnect.proofs.behind.disconnecting.Goals as goal

pub returns-then-is_connected : goal.returns-then-is_connected
unfolding choose sizes disconnecting
returns-then-is_connected c =
    rw (
      ← c.slot_at-x.ensures,
      ← c.is_connected.ensures,
      c.if-is_connected.true,
    ) (c.leave.ensures _ _)

pub returns : goal.returns
unfolding choose sizes disconnecting
returns c =
    rw (
      ← c.slot_at-x.ensures,
      ← c.is_connected.ensures,
      c.if-is_connected.false,
      c.done.ensures,
    ) (sym (end-still _ _ _ _ _ _ _))
