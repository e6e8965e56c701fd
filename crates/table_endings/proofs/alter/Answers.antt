-- `table_endings::alter` meets its contract: a slot that changes without a move leaves the room (alters).
use Rattle.table_endings.specs.Endings.{alters}
use Rattle.table_endings.proofs.alter.Goals as goal

pub returns : goal.returns
returns c =
    let g = c.args in
    alters g.t g.s g.x g.a c.changed.ensures
