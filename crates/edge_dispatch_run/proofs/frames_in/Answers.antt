use mathlib.Core.Path.{refl, sym, ap, ◌∙◌}
use Prim.Native.Nat.{◌+◌, ◌-◌, ◌*◌, ◌≤◌, ◌<◌, suc}
use native.Mathlib.Omega.{arith}
use lib.ListN.{length}
use borrow.Author.Tests.{leb-true, leb-false}
use Rattle.edge_run.specs.declared.Ended.{Ended}
use Rattle.edge_run.specs.Run.{answer_size}
use Rattle.edge_run.specs.Running.{running_start, running_over, running_cut, running_full}
use Rattle.edge_dispatch_run.specs.Frames.{frame_size, frame_call, lent_by, left_by}
use Rattle.edge_dispatch_run.specs.Turn.{taking_turn}
use Rattle.edge_dispatch_run.proofs.frames_in.Goals as goal

pub loop-at-init : goal.loop-at-init
loop-at-init c =
    let g = c.args in
    (refl, refl, refl, record { valid = c.requires; running = running_start g.frames.now (frame_size g.frames.now) (frame_call g.frames.now) (lent_by g.table.now g.room.now g.answers.now) })

pub returns-then-not-whole : goal.returns-then-not-whole
returns-then-not-whole c =
    let frames = c.args.frames.now in
    let at = c.loop-at.at in
    let cut : length frames < at + frame_size frames at = leb-false (at + frame_size frames at) (length frames) (sym c.whole.ensures ∙ c.if-not-whole.true) in
    ap (λ (e : Ended). left_by e c.loop-at.table c.loop-at.room c.loop-at.answers) c.refused.ensures ∙ running_cut c.loop-at.invariant.3.running c.loop-at-test.true cut

pub returns-then-answers-to-lt-ANSWER_OCTETS : goal.returns-then-answers-to-lt-ANSWER_OCTETS
returns-then-answers-to-lt-ANSWER_OCTETS c =
    let frames = c.args.frames.now in
    let at = c.loop-at.at in
    let whole : at + frame_size frames at ≤ length frames = leb-true (at + frame_size frames at) (length frames) (sym c.whole.ensures ∙ c.if-not-whole.false) in
    let full : length c.loop-at.answers < answer_size * suc c.loop-at.count = omega arith in
    ap (λ (e : Ended). left_by e c.loop-at.table c.loop-at.room c.loop-at.answers) c.refused-then-answers-to-lt-ANSWER_OCTETS.ensures ∙ running_full c.loop-at.invariant.3.running c.loop-at-test.true whole full

pub frame_next-next-requires : goal.frame_next-next-requires
frame_next-next-requires c =
    let frames = c.args.frames.now in
    let at = c.loop-at.at in
    (c.loop-at.invariant.3.valid, leb-true (at + frame_size frames at) (length frames) (sym c.whole.ensures ∙ c.if-not-whole.false), omega arith)

pub loop-at-smaller : goal.loop-at-smaller
loop-at-smaller c =
    let frames = c.args.frames.now in
    let at = c.loop-at.at in
    let whole : at + frame_size frames at ≤ length frames = leb-true (at + frame_size frames at) (length frames) (sym c.whole.ensures ∙ c.if-not-whole.false) in
    omega (arith, c.frame_next-next.ensures.value)

pub loop-at-preserved : goal.loop-at-preserved
loop-at-preserved c =
    let frames = c.args.frames.now in
    let at = c.loop-at.at in
    let whole : at + frame_size frames at ≤ length frames = leb-true (at + frame_size frames at) (length frames) (sym c.whole.ensures ∙ c.if-not-whole.false) in
    let f = c.frame_next-next in
    let place : answer_size * suc c.loop-at.count ≤ length c.loop-at.answers = omega arith in
    (f.auto.table ∙ c.loop-at.invariant.0, f.auto.room ∙ c.loop-at.invariant.1, f.auto.answers ∙ c.loop-at.invariant.2, taking_turn c.loop-at.invariant.3 whole place f.ensures.value f.ensures.answers_after f.auto.answers)

pub returns : goal.returns
returns c =
    let frames = c.args.frames.now in
    let at = c.loop-at.at in
    ap (λ (e : Ended). left_by e c.loop-at.table c.loop-at.room c.loop-at.answers) c.ending.ensures ∙ running_over c.loop-at.invariant.3.running c.loop-at-test.false
