-- `table_endings::free_all` meets its contract: the freed slots and their wiped parts are the end of `sweep` (sweeps).
use Rattle.table_slot.specs.Want.{wanted}
use Rattle.table_endings.specs.Endings.{sweeps}
use Rattle.table_endings.proofs.free_all.Goals as goal

pub returns : goal.returns
returns c =
    let g = c.args in
    sweeps g.t (wanted g.w) g.a _ (rw c.free_all.ensures at c.still.ensures) c.wipe_all.ensures
