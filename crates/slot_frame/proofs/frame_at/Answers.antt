-- `slot_frame::frame_at` meets its contract: the slot's part is lent, and what it holds when it is back is its moves in the room (parts-lent).
use mathlib.Core.Path.{ap, ◌∙◌}
use Prim.Native.Nat.{◌+◌, ◌≤◌}
use native.Mathlib.Numerals.{add-one}
use native.Mathlib.Omega.{arith}
use lib.ListN.{length}
use Rattle.octets.specs.Sets.{mid_part, part_length}
use Rattle.definition.specs.Table.{part_width}
use Rattle.table_room.specs.Parts.{parts-lent}
use Rattle.slot_frame.proofs.frame_at.Goals as goal

pub frame_in-requires : goal.frame_in-requires
frame_in-requires c =
    let at = c.part_at-at.result in
    let w = c.part_size-w.result in
    let h : at + w ≤ length c.args.room.now = rw (c.part_at-at.ensures, c.part_size-w.ensures) c.requires.0.within in
    let l = ap length (mid_part c.args.room.now at w) ∙ part_length c.args.room.now at w h ∙ c.part_size-w.ensures in
    (rw (add-one c.args.d, c.place_size-place.ensures, l) (omega arith), rw c.place_size-place.ensures c.requires.1, c.requires.0.deep)

pub returns : goal.returns
returns c =
    let g = c.args in
    let e = rw (c.part_at-at.ensures, c.part_size-w.ensures, c.place_size-place.ensures) at c.frame_in.ensures.1 in
    (rw c.place_size-place.ensures at c.frame_in.ensures.0, rw (c.part_at-at.ensures, c.part_size-w.ensures) (parts-lent _ _ (part_width g.d g.m) g.s _ g.room.now _ e))
