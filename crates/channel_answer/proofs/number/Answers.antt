-- `channel_answer::number` meets its contract: what `limbs_of` and `plain` ensure, put in place.
use Rattle.channel_answer.proofs.number.Goals as goal

pub returns : goal.returns
returns c = rw (c.plain.ensures, c.limbs_of-l.ensures)
