-- `run_frames::signal` meets its contract: the row is read off the call's end (by_end).
use mathlib.Core.Path.{refl}
use Rattle.run_play.specs.Plays.{with_octets}
use Rattle.run_play.specs.PlaysLaws.{by_end}
use Rattle.run_frames.proofs.signal.Goals as goal

pub returns : goal.returns
returns c = by_end with_octets c.signal-s.ensures (record { table = refl; room = refl; text = rw (← c.first.ensures) c.answered-octets.ensures })
