-- `sar_cut::plan_send` meets its contract: each return is one case law of `plan_send`, by the tests on the way to it and by what `frame_count` ensures.
use Rattle.sar_cut.specs.Cutting.{frames_length}
use Rattle.sar_cut.proofs.CutLaws.{plan_above_mtu, plan_too_long, plan_bad_mps, plan_busy, plan_no_room, plan_frames}
use Rattle.sar_cut.proofs.plan_send.Goals as goal

pub returns-then-mtu-l : goal.returns-then-mtu-l
returns-then-mtu-l c = let x = c.args in plan_above_mtu x.l x.mtu x.mps x.credits x.room c.if-mtu-l.true

pub returns-then-l-gt-LONGEST_JOB : goal.returns-then-l-gt-LONGEST_JOB
returns-then-l-gt-LONGEST_JOB c = let x = c.args in plan_too_long x.l x.mtu x.mps x.credits x.room c.if-mtu-l.false c.if-l-gt-LONGEST_JOB.true

pub returns-then-mps-lt-SIZE_LEAST : goal.returns-then-mps-lt-SIZE_LEAST
returns-then-mps-lt-SIZE_LEAST c =
    let x = c.args in
    plan_bad_mps x.l x.mtu x.mps x.credits x.room c.if-mtu-l.false c.if-l-gt-LONGEST_JOB.false c.if-mps-lt-SIZE_LEAST.true

pub returns-then-credits-n : goal.returns-then-credits-n
returns-then-credits-n c =
    let x = c.args in
    plan_busy x.l x.mtu x.mps x.credits x.room c.if-mtu-l.false c.if-l-gt-LONGEST_JOB.false c.if-mps-lt-SIZE_LEAST.false
    (rw c.frame_count-n.ensures at c.if-credits-n.true)

pub returns-then-room-octets : goal.returns-then-room-octets
unfolding frames_length
returns-then-room-octets c =
    let x = c.args in
    plan_no_room x.l x.mtu x.mps x.credits x.room c.if-mtu-l.false c.if-l-gt-LONGEST_JOB.false c.if-mps-lt-SIZE_LEAST.false
    (rw c.frame_count-n.ensures at c.if-credits-n.false) (rw c.frame_count-n.ensures at c.if-room-octets.true)

pub returns : goal.returns
unfolding frames_length
returns c =
    let x = c.args in
    rw c.frame_count-n.ensures
    (plan_frames x.l x.mtu x.mps x.credits x.room c.if-mtu-l.false c.if-l-gt-LONGEST_JOB.false c.if-mps-lt-SIZE_LEAST.false
    (rw c.frame_count-n.ensures at c.if-credits-n.false) (rw c.frame_count-n.ensures at c.if-room-octets.false))
