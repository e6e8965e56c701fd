use mathlib.Core.Path.{◌≡◌, refl, ap, ◌∙◌}
use Prim.Native.Nat.{◌+◌, ◌-◌, ◌*◌}
use native.Mathlib.Omega.{arith}
use lib.ListN.{length, get_or, length-drop}
use lib.Seq.{sets, length-sets}
use Rattle.octets.specs.Octets.{u16_at, part}
use Rattle.octets.specs.Sets.{part_length, put_sets, mid_part, tail-part}
use Rattle.edge_placed.specs.Frames.{sent_octets}
use Rattle.edge_placed.specs.Sent.{octets_within}
use Rattle.edge_run.specs.Run.{answer_size}
use Rattle.edge_run.specs.Running.{running_start, running_over, running_cut, running_full}
use Rattle.edge_send_run.specs.Jobs.{job_size, job_call, lent_by}
use Rattle.edge_send_run.specs.Turn.{sending_turn}
use borrow.Rule.Slice.PartMut.{put_mid}
use Rattle.edge_send_run.proofs.jobs_out.Goals as goal

pub loop-at-init : goal.loop-at-init
loop-at-init c =
    let a = c.args in
    (refl, refl, refl, record { valid = c.requires; within = omega arith; running = running_start a.jobs.now (job_size a.jobs.now) (job_call a.jobs.now) (lent_by a.table.now a.out.now 0 a.answers.now) })

pub overflow_sub-left : goal.overflow_sub-left
overflow_sub-left c = omega arith

pub overflow_add-at : goal.overflow_add-at
overflow_add-at c = omega arith

pub overflow_cast-size : goal.overflow_cast-size
overflow_cast-size c = omega arith

pub overflow_add-size : goal.overflow_add-size
overflow_add-size c = omega arith

pub returns-then-left-size : goal.returns-then-left-size
returns-then-left-size c =
    rw (c.ending.ensures, c.refusal_number-cut.ensures) (running_cut c.loop-at.invariant.3.running (omega arith) (omega arith))

pub overflow_mul-count : goal.overflow_mul-count
overflow_mul-count c = omega arith

pub overflow_sub-answers : goal.overflow_sub-answers
overflow_sub-answers c = omega arith

pub returns-then-answers-count-lt-ANSWER_OCTETS : goal.returns-then-answers-count-lt-ANSWER_OCTETS
returns-then-answers-count-lt-ANSWER_OCTETS c =
    rw (c.ending-then-answers-count-lt-ANSWER_OCTETS.ensures, c.refusal_number-full.ensures) (running_full c.loop-at.invariant.3.running (omega arith) (omega arith) (omega arith))

pub bounds-jobs-at : goal.bounds-jobs-at
bounds-jobs-at c = omega arith

pub overflow_add-from : goal.overflow_add-from
overflow_add-from c = omega arith

pub overflow_add-end : goal.overflow_add-end
overflow_add-end c = omega arith

pub overflow_mul-to : goal.overflow_mul-to
overflow_mul-to c = omega arith

pub overflow_add-past : goal.overflow_add-past
overflow_add-past c = omega arith

pub slice_bounds-sent-count : goal.slice_bounds-sent-count
slice_bounds-sent-count c = omega arith

pub slice_bounds-sent-start : goal.slice_bounds-sent-start
slice_bounds-sent-start c = omega arith

pub slice_bounds-sent-end : goal.slice_bounds-sent-end
slice_bounds-sent-end c = omega arith

pub slice_bounds-sent-count-in-loop-at : goal.slice_bounds-sent-count-in-loop-at
slice_bounds-sent-count-in-loop-at c = omega arith

pub slice_bounds-sent-start-in-loop-at : goal.slice_bounds-sent-start-in-loop-at
slice_bounds-sent-start-in-loop-at c = omega arith

pub slice_bounds-sent-end-in-loop-at : goal.slice_bounds-sent-end-in-loop-at
slice_bounds-sent-end-in-loop-at c = omega arith

pub slice_bounds-sent-count-in-loop-at-2 : goal.slice_bounds-sent-count-in-loop-at-2
slice_bounds-sent-count-in-loop-at-2 c = omega arith

pub slice_bounds-sent-start-in-loop-at-2 : goal.slice_bounds-sent-start-in-loop-at-2
slice_bounds-sent-start-in-loop-at-2 c = omega arith

pub slice_bounds-sent-end-in-loop-at-2 : goal.slice_bounds-sent-end-in-loop-at-2
slice_bounds-sent-end-in-loop-at-2 c = omega arith

pub sent-s-requires : goal.sent-s-requires
sent-s-requires c = c.loop-at.invariant.3.valid

pub overflow_add-wrote : goal.overflow_add-wrote
overflow_add-wrote c =
    let sent = c.sent-s in
    let l = c.loop-at in
    let s = l.invariant.3 in
    let jobs = c.args.jobs.now in
    let size = c.number in
    let left = part l.out l.wrote (length l.out - l.wrote) in
    let job = part jobs (l.at + 3) (l.at + (size.result + 3) - (l.at + 3)) in
    let told : sent.result.octets ≡ sent_octets l.table left (get_or jobs l.at 0) job = sent.ensures.octets_value in
    let long : length left ≡ length l.out - l.wrote = ap length (tail-part l.wrote l.out) ∙ length-drop l.wrote l.out in
    omega (arith, told, octets_within l.table left job (get_or jobs l.at 0), long, s.within, l.invariant.1, c.well_formed.1.0.0)

pub overflow_add-count : goal.overflow_add-count
overflow_add-count c = omega arith

pub loop-at-smaller : goal.loop-at-smaller
loop-at-smaller c = omega arith

pub loop-at-preserved : goal.loop-at-preserved
loop-at-preserved c =
    let sent = c.sent-s in
    let l = c.loop-at in
    let s = l.invariant.3 in
    let jobs = c.args.jobs.now in
    let size = c.number in
    let left = part l.out l.wrote (length l.out - l.wrote) in
    let job = part jobs (l.at + 3) (l.at + (size.result + 3) - (l.at + 3)) in
    let told : sent.result.octets ≡ sent_octets l.table left (get_or jobs l.at 0) job = sent.ensures.octets_value in
    let long : length left ≡ length l.out - l.wrote = ap length (tail-part l.wrote l.out) ∙ length-drop l.wrote l.out in
    let to = answer_size * l.count in
    let here = part l.answers to (to + answer_size - to) in
    let out-put : put_mid l.wrote (length l.out - l.wrote) l.out sent.new.out ≡ sets l.out l.wrote sent.new.out =
    put_sets l.out l.wrote (length l.out) sent.new.out s.within (omega arith) (sent.auto.out ∙ long) in
    let answer-put : put_mid to (to + answer_size - to) l.answers sent.new.answer ≡ sets l.answers to sent.new.answer =
    put_sets l.answers to (to + answer_size) sent.new.answer (omega arith) (omega arith) (sent.auto.answer ∙ part_length l.answers to (to + answer_size - to) (omega arith)) in
    let cut : l.at + (size.result + 3) - (l.at + 3) ≡ u16_at jobs (l.at + 1) = omega (arith, size.ensures) in (
      sent.auto.table ∙ l.invariant.0,
      ap length out-put ∙ length-sets l.out l.wrote sent.new.out ∙ l.invariant.1,
      ap length answer-put ∙ length-sets l.answers to sent.new.answer ∙ l.invariant.2,
      sending_turn s (omega arith) (omega arith) (omega arith) here left job sent.ensures.out_after told (mid_part l.answers to answer_size) (tail-part l.wrote l.out) (ap (part jobs (l.at + 3)) cut) out-put answer-put (omega arith),
    )

pub returns : goal.returns
returns c = rw c.ending-2.ensures (running_over c.loop-at.invariant.3.running (omega arith))
