-- `call_next_disconnect::behind::response` meets its contract: the slot's CID is the definition's, by the one function that gives it.
use Rattle.call_next_disconnect.proofs.behind.response.Goals as goal

pub returns : goal.returns
returns c = rw (c.cid_of-cid.ensures, c.index_at.ensures)
