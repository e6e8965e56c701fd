-- `slot_portion::start_from` meets its contract: the tests are those of the definition, and any plan fits the output that is asked for (plan_enough).
use mathlib.Core.Path.{◌≡◌, sym, ◌∙◌}
use mathlib.Core.List.{[]}
use native.Mathlib.Omega.{arith}
use borrow.Author.Tests.{lt-ltb, le-ltb}
use Rattle.lists.specs.Choose.{choose}
use Rattle.sar_cut.specs.Cutting.{plan_send}
use Rattle.sar_cut.proofs.CutLaws.{plan_allowed}
use Rattle.definition.proofs.Ending.{written_none, written_given}
use Rattle.slot_portion.specs.Starting.{start_planned_of, start_of, enough, plan_enough}
use Rattle.slot_portion.proofs.starting.start_from.Goals as goal

pub returns-then-not-is_connected : goal.returns-then-not-is_connected
unfolding start_of choose
returns-then-not-is_connected c =
    rw (← c.is_connected.ensures, c.if-not-is_connected.true-raw, written_none [] [] c.args.buffer.now, c.became.ensures)

pub returns-then-aside-gt0 : goal.returns-then-aside-gt0
unfolding start_of choose
returns-then-aside-gt0 c =
    rw (← c.is_connected.ensures, c.if-not-is_connected.false-raw, lt-ltb _ _ c.if-aside-gt0.true, written_none [] [] c.args.buffer.now, c.became-then-aside-gt0.ensures)

pub overflow_cast-l : goal.overflow_cast-l
overflow_cast-l c =
    let a = c.args in
    let x = a.x in
    let e : c.plan_send.result ≡ plan_send a.stated x.peer.mtu x.peer.mps x.peer.credits enough = c.plan_send.ensures in
    let k = plan_allowed a.stated x.peer.mtu x.peer.mps x.peer.credits enough _ _ (sym e ∙ c.in-Ok.is) in
    omega (arith, k.short)

pub returns-then-buffer-payload : goal.returns-then-buffer-payload
unfolding start_of start_planned_of choose
returns-then-buffer-payload c =
    let a = c.args in
    let x = a.x in
    let p = plan_enough a.stated x.peer.mtu x.peer.mps x.peer.credits (omega (arith, c.well_formed)) in
    rw (← c.is_connected.ensures, c.if-not-is_connected.false-raw, le-ltb _ _ c.if-aside-gt0.false, ← p, ← c.plan_send.ensures, c.in-Ok.is, ← c.longest-payload.ensures, lt-ltb _ _ c.if-buffer-payload.true, written_none [] [] a.buffer.now, c.became-then-buffer-payload.ensures)

pub overflow_cast-used : goal.overflow_cast-used
overflow_cast-used c =
    let a = c.args in
    let x = a.x in
    let e : c.plan_send.result ≡ plan_send a.stated x.peer.mtu x.peer.mps x.peer.credits enough = c.plan_send.ensures in
    let k = plan_allowed a.stated x.peer.mtu x.peer.mps x.peer.credits enough _ _ (sym e ∙ c.in-Ok.is) in
    omega (arith, k.frames, k.paid, c.well_formed)

pub overflow_sub-credits : goal.overflow_sub-credits
overflow_sub-credits c =
    let a = c.args in
    let x = a.x in
    let e : c.plan_send.result ≡ plan_send a.stated x.peer.mtu x.peer.mps x.peer.credits enough = c.plan_send.ensures in
    let k = plan_allowed a.stated x.peer.mtu x.peer.mps x.peer.credits enough _ _ (sym e ∙ c.in-Ok.is) in
    omega (arith, k.frames, k.paid)

pub returns-in-Err : goal.returns-in-Err
unfolding start_of start_planned_of choose
returns-in-Err c =
    let a = c.args in
    let x = a.x in
    let p = plan_enough a.stated x.peer.mtu x.peer.mps x.peer.credits (omega (arith, c.well_formed)) in
    rw (← c.is_connected.ensures, c.if-not-is_connected.false-raw, le-ltb _ _ c.if-aside-gt0.false, ← p, ← c.plan_send.ensures, c.in-Err.is, written_none [] [] a.buffer.now, c.became-in-Err.ensures, c.blocked_by.ensures)

pub returns-else-buffer-payload : goal.returns-else-buffer-payload
unfolding start_of start_planned_of choose
returns-else-buffer-payload c =
    let a = c.args in
    let x = a.x in
    let p = plan_enough a.stated x.peer.mtu x.peer.mps x.peer.credits (omega (arith, c.well_formed)) in
    rw (← c.is_connected.ensures, c.if-not-is_connected.false-raw, le-ltb _ _ c.if-aside-gt0.false, ← p, ← c.plan_send.ensures, c.in-Ok.is, ← c.longest-payload.ensures, le-ltb _ _ c.if-buffer-payload.false, written_given [] [] a.buffer.now _, c.put_first.ensures, c.with_job-z.ensures, c.count_sent.ensures, c.with_peer_credits-y.ensures)
