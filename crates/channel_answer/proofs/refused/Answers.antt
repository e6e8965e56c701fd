-- `channel_answer::refused` meets its contract: the two numbers are what their functions ensure.
use Rattle.channel_answer.proofs.refused.Goals as goal

pub returns : goal.returns
returns c = rw (c.result_in.ensures, c.refusal_number.ensures)
