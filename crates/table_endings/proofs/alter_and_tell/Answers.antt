-- `table_endings::alter_and_tell` meets its contract: the slot's change and the written signal are the end of `change` (alters_telling).
use Rattle.table_endings.specs.Endings.{alters_telling}
use Rattle.table_endings.proofs.alter_and_tell.Goals as goal

pub returns : goal.returns
returns c =
    let g = c.args in
    alters_telling g.t g.s g.x g.a c.changed.ensures c.reply-n.ensures
