-- `run_portions::give` meets its contract: the portion is what its word spells, and the row is read off the call's end (by_end).
use mathlib.Core.Path.{refl}
use Rattle.run_portions.specs.PlayedPortions.{giving_out}
use Rattle.run_portions.specs.PlayedPortionsLaws.{by_end}
use Rattle.run_portions.proofs.give.Goals as goal

pub returns : goal.returns
returns c =
    rw (← c.spelled-n.ensures, ← c.first.ensures, ← c.slot_of.ensures)
    (by_end giving_out c.give_portion-s.ensures (record { table = refl; buffer = refl; text = rw (← c.first-2.ensures) c.answered-octets.ensures }))
