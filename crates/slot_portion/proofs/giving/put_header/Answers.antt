-- `slot_portion::put_header` meets its contract: a frame that begins has its two numbers written one after the other.
use Rattle.lists.specs.Choose.{choose}
use Rattle.slot_portion.specs.Giving.{header-sets}
use Rattle.slot_portion.proofs.giving.put_header.Goals as goal

pub returns-then-begins : goal.returns-then-begins
unfolding choose
returns-then-begins c = rw (c.if-begins.true, c.put_number-then-begins.ensures, c.put_number.ensures) (header-sets c.args.buffer.now c.args.cid c.args.payload)

pub returns-else-begins : goal.returns-else-begins
unfolding choose
returns-else-begins c = rw c.if-begins.false
