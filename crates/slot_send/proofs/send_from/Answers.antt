-- `slot_send::send_from` meets its contract: the tests are those of the definition, and the plan is followed.
use mathlib.Core.Path.{◌≡◌, sym, ◌∙◌}
use native.Mathlib.Omega.{arith}
use lib.ListN.{length}
use Rattle.lists.specs.Choose.{choose}
use Rattle.sar_cut.specs.Cutting.{plan_send, output_after}
use Rattle.sar_cut.proofs.CutLaws.{plan_allowed}
use Rattle.slot_send.specs.Sending.{planned_from, sent_from}
use Rattle.slot_send.proofs.send_from.Goals as goal

pub returns-then-not-is_connected : goal.returns-then-not-is_connected
unfolding sent_from choose
returns-then-not-is_connected c = rw (← c.is_connected.ensures, c.if-not-is_connected.true-raw, c.refused.ensures)

pub returns-then-is_open : goal.returns-then-is_open
unfolding sent_from choose
returns-then-is_open c =
    rw (
      ← c.is_connected.ensures,
      c.if-not-is_connected.false-raw,
      ← c.is_open.ensures,
      c.if-is_open.true,
      c.refused-then-is_open.ensures,
    )

pub overflow_cast-used : goal.overflow_cast-used
overflow_cast-used c =
    let a = c.args in
    let x = a.x in
    let e : c.send_job.result ≡ plan_send (length a.sdu.now) x.peer.mtu x.peer.mps x.peer.credits (length a.out.now) = c.send_job.ensures.0 in
    let k = plan_allowed (length a.sdu.now) x.peer.mtu x.peer.mps x.peer.credits (length a.out.now) _ _ (sym e ∙ c.in-Ok.is) in
    omega (arith, k.frames, k.paid, c.well_formed)

pub overflow_sub-credits : goal.overflow_sub-credits
overflow_sub-credits c =
    let a = c.args in
    let x = a.x in
    let e : c.send_job.result ≡ plan_send (length a.sdu.now) x.peer.mtu x.peer.mps x.peer.credits (length a.out.now) = c.send_job.ensures.0 in
    let k = plan_allowed (length a.sdu.now) x.peer.mtu x.peer.mps x.peer.credits (length a.out.now) _ _ (sym e ∙ c.in-Ok.is) in
    omega (arith, k.frames, k.paid)

pub returns-in-Err : goal.returns-in-Err
unfolding sent_from planned_from choose output_after
returns-in-Err c =
    rw (
      ← c.is_connected.ensures,
      c.if-not-is_connected.false-raw,
      ← c.is_open.ensures,
      c.if-is_open.false,
      ← c.send_job.ensures.0,
      c.send_job.ensures.1,
      c.in-Err.is,
      c.refused-in-Err.ensures,
      c.blocked_by.ensures,
    )

pub returns-in-Ok : goal.returns-in-Ok
unfolding sent_from planned_from choose output_after
returns-in-Ok c =
    rw (
      ← c.is_connected.ensures,
      c.if-not-is_connected.false-raw,
      ← c.is_open.ensures,
      c.if-is_open.false,
      ← c.send_job.ensures.0,
      c.send_job.ensures.1,
      c.in-Ok.is,
      c.count_sent-slot.ensures,
      c.with_peer_credits-y.ensures,
    )
