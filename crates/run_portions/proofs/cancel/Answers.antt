-- `run_portions::cancel` meets its contract: the row is read off the call's end (by_end).
use mathlib.Core.Path.{refl}
use Rattle.run_play.specs.Plays.{with_none}
use Rattle.run_play.specs.PlaysLaws.{by_end}
use Rattle.run_portions.proofs.cancel.Goals as goal

pub returns : goal.returns
returns c = rw (← c.slot_of.ensures) (by_end with_none c.cancel_job-s.ensures (record { table = refl; room = refl; text = c.told-octets.ensures }))
