-- `run_plain::answered` meets its contract: what is shown is what was written.
use mathlib.Core.Path.{refl}
use Rattle.run_plain.proofs.answered.Goals as goal

pub returns : goal.returns
returns c = (refl, rw (← c.first.ensures) c.answered-octets.ensures)
