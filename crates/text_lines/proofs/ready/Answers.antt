-- `text_lines::ready` meets its contract: by what the calls say.
use Rattle.text_lines.proofs.ready.Goals as goal

pub returns : goal.returns
returns c = record { value = rw c.left-n.ensures; buf_after = rw (← c.left-n.ensures) c.shift_down.ensures }
