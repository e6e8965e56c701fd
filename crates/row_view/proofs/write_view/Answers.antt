use Prim.Native.Nat.{◌≤◌, ◌<◌}
use mathlib.Core.Path.{◌≡◌, refl, ap, ◌∙◌}
use native.Mathlib.Omega.{arith}
use lib.ListN.{length, length-take}
use lib.Seq.{take_all, length-sets, get_or-take}
use Rattle.text_write.specs.Rows.{writes-append}
use Rattle.channel.specs.Limits.{slots_most}
use Rattle.definition.specs.Table.{live, gap}
use Rattle.row_view.specs.View.{sizes_text, slots_text, view_text}
use Rattle.row_view.specs.ViewLaws.{slots-more}
use Rattle.row_view.proofs.write_view.Goals as goal

pub loop-i-init : goal.loop-i-init
unfolding slots_text
loop-i-init c =
    let w = c.write_sizes-next.ensures in
    let a = c.args in
    record { next = omega (arith, w.next, ap length w.buffer ∙ length-sets a.out.now a.at (sizes_text a.t)); buffer = refl }

pub loop-i-preserved : goal.loop-i-preserved
loop-i-preserved c =
    let l = c.loop-i in
    let t = c.args.t in
    let e : length c.args.t.slots ≡ slots_most = c.well_formed.1.1.0.1.1.0.1.0.1 in
    let h : l.i < length (live t) = rw length-take (omega arith) in
    rw (slots-more (live t) l.i h, get_or-take t.n t.slots l.i gap (omega arith), ← c.slot_at.ensures) (writes-append l.invariant c.write_slot-next.ensures)

pub shape_of-out : goal.shape_of-out
shape_of-out c =
    let w = c.write_sizes-next.ensures in
    let a = c.args in
    ap length c.loop-i.invariant.buffer ∙ simp length-sets (ap length w.buffer ∙ length-sets a.out.now a.at (sizes_text a.t))

pub returns : goal.returns
unfolding view_text
returns c =
    let l = c.loop-i in
    let t = c.args.t in
    let e : length c.args.t.slots ≡ slots_most = c.well_formed.1.1.0.1.1.0.1.0.1 in
    let h : length (live t) ≤ l.i = rw length-take (omega arith) in
    writes-append c.write_sizes-next.ensures (rw (take_all l.i (live t) h) at l.invariant)
