-- `run_plain::opening` meets its contract: the row is read off the call's end (by_end).
use mathlib.Core.Path.{refl}
use Rattle.run_play.specs.Plays.{with_octets}
use Rattle.run_play.specs.PlaysLaws.{by_end}
use Rattle.run_plain.proofs.opening.Goals as goal

pub returns : goal.returns
returns c = by_end with_octets c.called_opening-s.ensures (record { table = c.answered.ensures.0; room = refl; text = c.answered.ensures.1 })
