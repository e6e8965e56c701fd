-- `table_room::wipe_part` meets its contract: the part is lent (parts-lent), and zeros from its start to its end wipe it (wiped).
use mathlib.Core.Path.{◌≡◌, ap, ◌∙◌}
use Prim.Native.Nat.{◌+◌, ◌-◌, ◌*◌}
use borrow.Rule.Slice.PartMut.{mid_of}
use lib.ListN.{length, replicate}
use lib.Seq.{sets}
use Rattle.octets.specs.Sets.{mid_part, part_length}
use Rattle.definition.specs.Mem.{moves, move}
use Rattle.definition.specs.Table.{part_width}
use Rattle.table_room.specs.Parts.{wiped, parts-lent}
use Rattle.table_room.proofs.parts.wipe_part.Goals as goal

pub returns : goal.returns
unfolding moves move
returns c =
    let r = c.args.room.now in
    let w = part_width c.args.d c.args.m in
    let at = c.args.s * w in
    let l : length (mid_of at (at + w - at) r) ≡ w = ap length (mid_part r at w) ∙ part_length r at w c.requires.within in
    let e = rw (c.part_at-at.ensures, c.part_size-w.ensures) at c.zero.ensures in
    rw (c.part_at-at.ensures, c.part_size-w.ensures) (parts-lent _ _ w c.args.s _ r _ (◌∙◌ {b = sets (mid_of at (at + w - at) r) 0 (replicate w 0)} e (wiped 0 w (mid_of at (at + w - at) r) l)))
