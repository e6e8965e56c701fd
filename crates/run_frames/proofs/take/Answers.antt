-- `run_frames::take` meets its contract: the row is read off the call's end (by_end).
use mathlib.Core.Path.{refl}
use Rattle.run_play.specs.Plays.{with_job}
use Rattle.run_play.specs.PlaysLaws.{by_end}
use Rattle.run_frames.proofs.take.Goals as goal

pub returns : goal.returns
returns c = rw (← c.slot_of.ensures) (by_end with_job c.receive-s.ensures (record { table = refl; room = refl; text = rw (← c.first.ensures) c.taken-octets.ensures }))
