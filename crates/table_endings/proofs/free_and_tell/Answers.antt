-- `table_endings::free_and_tell` meets its contract: the freed slot, its wiped part and the signal are the end of `freeing` (moves_in_telling).
use mathlib.Core.List.{[], ◌∷◌}
use Rattle.definition.specs.Mem.{wipe}
use Rattle.definition.specs.Table.{freed}
use Rattle.table_room.specs.Placed.{placed}
use Rattle.table_endings.specs.Endings.{moves_in_telling}
use Rattle.table_endings.proofs.free_and_tell.Goals as goal

pub wipe_part-requires : goal.wipe_part-requires
wipe_part-requires c =
    placed c.requires.0 c.args.s c.requires.1

pub returns : goal.returns
returns c =
    let g = c.args in
    moves_in_telling g.t g.s (freed g.x) (wipe ∷ []) g.a _ (rw c.freed.ensures at c.changed.ensures) c.wipe_part.ensures c.reply-n.ensures
