-- `run_frames::send` meets its contract: the job is what its word spells, and the row is read off the call's end (by_end).
use mathlib.Core.Path.{refl}
use Rattle.run_play.specs.Plays.{with_frames}
use Rattle.run_play.specs.PlaysLaws.{by_end}
use Rattle.run_frames.proofs.send.Goals as goal

pub returns : goal.returns
returns c =
    rw (← c.spelled-n.ensures, ← c.first.ensures, ← c.slot_of.ensures)
    (by_end (with_frames c.args.room.now) c.send-s.ensures (record { table = refl; room = refl; text = rw (← c.first-2.ensures) c.answered-octets.ensures }))
