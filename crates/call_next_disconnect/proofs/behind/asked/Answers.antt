-- `call_next_disconnect::behind::asked` meets its contract: the slot's CID is the definition's, by the one function that gives it.
use Rattle.call_next_disconnect.proofs.behind.asked.Goals as goal

pub returns : goal.returns
returns c = rw (c.cid_of-cid.ensures, c.index_at.ensures)
