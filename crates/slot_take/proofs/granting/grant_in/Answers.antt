-- `slot_take::granting::grant_in` meets its contract: Connected, and what the account says; else nothing.
use Rattle.lists.specs.Choose.{choose}
use Rattle.definition.specs.Frames.{grant_in}
use Rattle.slot_take.proofs.granting.grant_in.Goals as goal

pub returns-then-is_connected : goal.returns-then-is_connected
unfolding choose grant_in
returns-then-is_connected c = rw (← c.is_connected.ensures, c.if-is_connected.true) c.process.ensures

pub returns : goal.returns
unfolding choose grant_in
returns c = rw (← c.is_connected.ensures, c.if-is_connected.false)
