-- `text_lines::is_note` meets its contract: the first octet is the one that is read.
use mathlib.Core.Path.{ap}
use lib.Dec.{eqb}
use Rattle.text_lines.proofs.is_note.Goals as goal

pub returns : goal.returns
returns c = ap (λ x. eqb x 35) c.octet.ensures
