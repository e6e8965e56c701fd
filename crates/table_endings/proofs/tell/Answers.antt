-- `table_endings::tell` meets its contract: what was given back and what was written are the end of `still` (tells).
use Rattle.table_endings.specs.Endings.{tells}
use Rattle.table_endings.proofs.tell.Goals as goal

pub returns : goal.returns
returns c = tells c.still.ensures c.reply-n.ensures
