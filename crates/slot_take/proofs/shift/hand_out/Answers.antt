-- `slot_take::shift::hand_out` meets its contract: the job is copied before the part is lent (parts-lent) and its jobs move up.
use native.Mathlib.Nat.{one-mul}
use Rattle.definition.specs.Table.{place_size, part_width}
use Rattle.table_room.specs.Parts.{parts-lent}
use Rattle.slot_take.proofs.shift.hand_out.Goals as goal

pub returns : goal.returns
returns c =
    let a = c.args in
    let e = rw (c.part_at-at.ensures, c.part_size-w.ensures, c.place_size-place.ensures) at c.move_up.ensures in (
      rw (c.part_at-at.ensures, c.part_size-w.ensures) (parts-lent _ _ (part_width a.d a.m) a.s _ a.room.now _ e),
      rw (one-mul (place_size a.m)) (rw (c.part_at-at.ensures, c.place_size-place.ensures) at c.copy_to.ensures),
    )
