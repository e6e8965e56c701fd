-- `run_play::spelled` meets its contract: what was read of the word stands at the buffer's start.
use Rattle.run_play.specs.PlaysLaws.{read_octets}
use Rattle.run_play.proofs.spelled.Goals as goal

pub returns : goal.returns
returns c = rw (c.unwrap_or.ensures, c.read_hex.ensures.answer, c.read_hex.ensures.buffer, ← c.text.ensures) (read_octets _ _)
