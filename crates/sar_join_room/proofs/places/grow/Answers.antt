-- `sar_join_room::places::grow` meets its contract: each of its two copies is one case of what is written.
use mathlib.Core.Path.{◌∙◌}
use Rattle.sar_join_room.specs.PlaceLaws.{grow_first, grow_next}
use Rattle.sar_join_room.proofs.places.grow.Goals as goal

pub returns-then-a-eq0 : goal.returns-then-a-eq0
returns-then-a-eq0 c =
    let x = c.args in
    c.copy_to.ensures ∙ rw c.left.ensures (grow_first x.a x.places.now x.payload.now c.if-a-eq0.true)

pub returns : goal.returns
returns c =
    let x = c.args in
    c.copy_to-2.ensures ∙ grow_next x.a x.places.now x.payload.now c.if-a-eq0.false
