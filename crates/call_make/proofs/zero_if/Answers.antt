-- `call_make::zero_if` meets its contract: as many zeros as the room has octets are zeros all over.
use mathlib.Core.Path.{refl, ◌∙◌}
use Rattle.lists.specs.Choose.{choose}
use Rattle.table_room.specs.Parts.{wiped}
use Rattle.call_make.proofs.zero_if.Goals as goal

pub returns-then-made : goal.returns-then-made
unfolding choose
returns-then-made c =
    rw c.if-made.true
    (c.zero.ensures ∙ wiped 0 _ c.args.room.now refl)

pub returns-else-made : goal.returns-else-made
unfolding choose
returns-else-made c = rw c.if-made.false
