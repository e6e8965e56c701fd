-- `table_room::wipe_if` meets its contract: what is not wanted stays (parts-still).
use Rattle.lists.specs.Choose.{choose}
use Rattle.table_room.specs.Parts.{parts-still}
use Rattle.table_room.proofs.wipe_if.Goals as goal

pub returns-then-wanted : goal.returns-then-wanted
unfolding choose
returns-then-wanted c = rw c.if-wanted.true c.wipe_part.ensures

pub returns-else-wanted : goal.returns-else-wanted
unfolding choose
returns-else-wanted c = rw c.if-wanted.false (parts-still _ _ _ _ _)
