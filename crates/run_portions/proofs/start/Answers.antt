-- `run_portions::start` meets its contract: the row is read off the call's end (by_end).
use mathlib.Core.Path.{refl}
use Rattle.run_portions.specs.PlayedPortions.{begun}
use Rattle.run_portions.specs.PlayedPortionsLaws.{by_end}
use Rattle.run_portions.proofs.start.Goals as goal

pub returns : goal.returns
returns c = rw (← c.slot_of.ensures) (by_end begun c.start_job-s.ensures (record { table = refl; buffer = refl; text = c.told-octets.ensures }))
