-- `signal_bodies::read_command_reject_res` meets its contract: the test of the length tells which arm of the definition it is.
use borrow.Author.Tests.{lt-ltb, le-ltb}
use Rattle.lists.specs.Choose.{choose}
use Rattle.signal_bodies.specs.Bodies.{command_reject_res}
use Rattle.signal_bodies.proofs.read_command_reject_res.Goals as goal

pub returns-then-body-lt2 : goal.returns-then-body-lt2
unfolding command_reject_res choose
returns-then-body-lt2 c = rw (lt-ltb _ _ c.if-body-lt2.true)

pub returns : goal.returns
unfolding command_reject_res choose
returns c = rw (le-ltb _ _ c.if-body-lt2.false, c.number.ensures)
