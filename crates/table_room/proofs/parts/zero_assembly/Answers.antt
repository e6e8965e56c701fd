-- `table_room::zero_assembly` meets its contract: the part is lent (parts-lent), and zeros go to its first place.
use Rattle.definition.specs.Mem.{moves, move, fill}
use Rattle.definition.specs.Table.{part_width}
use Rattle.table_room.specs.Parts.{parts-lent}
use Rattle.table_room.proofs.parts.zero_assembly.Goals as goal

pub returns : goal.returns
unfolding moves move fill
returns c =
    let e = rw (c.part_at-at.ensures, c.part_size-w.ensures, c.place_size-place.ensures) at c.zero.ensures in
    rw (c.part_at-at.ensures, c.part_size-w.ensures) (parts-lent _ _ (part_width c.args.d c.args.m) c.args.s _ c.args.room.now _ e)
