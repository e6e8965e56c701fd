-- `table_endings::leave` meets its contract: the slot in its next state and the zeroed assembly place are the end of `leaving` (moves_in).
use mathlib.Core.List.{[], ◌∷◌}
use Rattle.definition.specs.Mem.{put, zeros}
use Rattle.definition.specs.Table.{place_of, left}
use Rattle.table_room.specs.Placed.{placed}
use Rattle.table_endings.specs.Endings.{moves_in}
use Rattle.table_endings.proofs.leave.Goals as goal

pub zero_assembly-requires : goal.zero_assembly-requires
zero_assembly-requires c =
    placed c.requires.0 c.args.s c.requires.1

pub returns : goal.returns
returns c =
    let g = c.args in
    moves_in g.t g.s (left g.k g.x) (put 0 (zeros (place_of g.t)) ∷ []) g.a _ _ (rw c.left.ensures at c.changed.ensures) c.zero_assembly.ensures
