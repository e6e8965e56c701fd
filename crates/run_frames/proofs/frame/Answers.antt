-- `run_frames::frame` meets its contract: the payload is what its word spells, and the row is read off the call's end (by_end).
use mathlib.Core.Path.{refl}
use Rattle.run_play.specs.Plays.{with_none}
use Rattle.run_play.specs.PlaysLaws.{by_end}
use Rattle.run_frames.proofs.frame.Goals as goal

pub returns : goal.returns
returns c =
    rw (← c.spelled-n.ensures, ← c.first.ensures)
    (by_end with_none c.dispatch-s.ensures (record { table = refl; room = refl; text = c.told-octets.ensures }))
