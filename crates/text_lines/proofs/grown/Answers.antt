-- `text_lines::grown` meets its contract: by what the call says.
use Rattle.text_lines.proofs.grown.Goals as goal

pub returns : goal.returns
returns c = rw c.behind-end.ensures
