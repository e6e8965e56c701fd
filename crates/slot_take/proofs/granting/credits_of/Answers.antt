-- `slot_take::granting::credits_of` meets its contract: the slot's CID is the definition's, by the one function that gives it.
use Rattle.slot_take.proofs.granting.credits_of.Goals as goal

pub returns : goal.returns
returns c = rw (c.cid_of-cid.ensures, c.index_at.ensures)
