use Rattle.std.proofs.Common.{◌≡◌, ap, ◌∙◌, drop, rules, arith, length, length-append, length-drop}
use Rattle.std.specs.Slice.Iter.{chunks_rest}
use Rattle.octets.specs.Sets.{tail-part}
use Rattle.sar_frames.specs.FrameLaws.{framing-first, framing-more, framing-end}
use Rattle.sar_frames.proofs.cut_job.Goals as goal

pub loop-payload-init : goal.loop-payload-init
loop-payload-init c =
    let a = c.args in
    let f = c.least-first in
    let chunks = c.into_iter-payload-iterator in
    let rest : chunks_rest chunks.result ≡ drop f.result a.sdu.now = ap chunks_rest chunks.ensures.into_iter_gives ∙ c.chunks-payload-items.ensures.rest ∙ tail-part f.result a.sdu.now in
    (search rules, tt, search rules, rw (rest, length-drop) (omega arith), rw rest (framing-first a.mps a.cid a.sdu.now a.out.now f.result _ (omega arith) f.ensures c.put_first.ensures))

pub loop-payload-preserved : goal.loop-payload-preserved
loop-payload-preserved c =
    let w = c.loop-payload.invariant in
    let steps = c.in-Some.ensures.steps in
    let sum = ap length steps.1.0 ∙ length-append c.in-Some.payload.now (chunks_rest c.next.new.self) in
    (search rules, tt, steps.0 ∙ w.2, omega arith, framing-more w.4 _ _ _ (omega arith) steps.1.2 steps.1.0 (rw w.2 at steps.1.1) c.put_frame.ensures)

pub returns : goal.returns
returns c = framing-end c.loop-payload.invariant.4 (omega arith) c.in-None.ensures.steps.1.0
