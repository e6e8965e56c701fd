-- `sar_join_room::places::put_job` meets its contract: what its copies leave is one of the two cases of `finish`.
use mathlib.Core.Path.{◌∙◌}
use native.Mathlib.Omega.{arith}
use Rattle.sar_join_room.specs.PlaceLaws.{finish-first, finish-split}
use Rattle.sar_join_room.proofs.places.put_job.Goals as goal

pub returns-then-a-eq0 : goal.returns-then-a-eq0
returns-then-a-eq0 c =
    let x = c.args in
    c.copy_to.ensures ∙ rw c.left.ensures (finish-first x.a x.places.now x.payload.now x.place x.at c.if-a-eq0.true)

pub returns : goal.returns
returns c =
    let x = c.args in
    let parts = c.split_at_mut-assembly.ensures in
    rw (c.zero.ensures, c.copy_to-3.ensures, c.copy_to-2.ensures, parts.front, parts.back)
    (finish-split x.a x.places.now x.payload.now x.place x.at c.if-a-eq0.false (omega arith) (omega arith) (omega arith))
