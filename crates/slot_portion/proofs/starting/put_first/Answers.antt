-- `slot_portion::put_first` meets its contract: the three numbers are written one after the other.
use Rattle.slot_portion.specs.Starting.{first-sets}
use Rattle.slot_portion.proofs.starting.put_first.Goals as goal

pub returns : goal.returns
returns c = rw (c.put_number-3.ensures, c.put_number-2.ensures, c.put_number.ensures) (first-sets c.args.buffer.now c.args.cid c.args.payload c.args.l)
