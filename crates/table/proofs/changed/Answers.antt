-- `table::changed` meets its contract: what `put_slot` and `still` ensure, put in place.
use Rattle.table.proofs.changed.Goals as goal

pub returns : goal.returns
returns c = rw (c.still.ensures, c.put_slot.ensures)
