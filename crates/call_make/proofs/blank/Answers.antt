-- `call_make::blank` meets its contract: every slot is a fresh one.
use Rattle.call_make.proofs.blank.Goals as goal

pub returns : goal.returns
returns c = rw c.fresh-x.ensures
