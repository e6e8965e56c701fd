-- `run_plain::opened` meets its contract: the row is read off the call's end (by_end).
use mathlib.Core.Path.{refl}
use Rattle.run_play.specs.Plays.{as_opened}
use Rattle.run_play.specs.PlaysLaws.{by_end}
use Rattle.run_plain.proofs.opened.Goals as goal

pub returns : goal.returns
returns c =
    rw (← c.slot_of.ensures)
    (by_end as_opened c.opened-s.ensures (record { table = refl; room = refl; text = c.opened-octets.ensures }))
