-- `sar_frames::send_job` meets its contract: the plan is `plan_send`'s, which allows `cut_job` what it asks, and the output is `cut_job`'s.
use Rattle.std.specs.Prelude.{◌≡◌}
use Rattle.std.proofs.lemmas.Result.{err_from_is_err_and}
use mathlib.Core.Path.{refl, sym, ◌∙◌}
use native.Mathlib.Omega.{arith}
use lib.ListN.{length}
use Rattle.sar_cut.specs.Cutting.{output_after}
use Rattle.sar_cut.proofs.CutLaws.{plan_allowed}
use Rattle.sar_frames.proofs.send_job.Goals as goal

pub returns-in_err-framed : goal.returns-in_err-framed
unfolding output_after
returns-in_err-framed c =
    let p = err_from_is_err_and c.from_residual.result c.from_residual.ensures.1 in
    let is : c.plan_send.result ≡ c.from_residual.result = rw (p.1, p.2) c.in_err-framed.was in
    (sym is ∙ c.plan_send.ensures, rw p.1 refl)

pub cut_job-requires : goal.cut_job-requires
cut_job-requires c =
    let a = c.args in
    let k = plan_allowed (length a.sdu.now) a.mtu a.mps a.credits (length a.out.now) _ _ (sym c.plan_send.ensures ∙ c.in_ok-framed.was) in
    omega arith

pub returns : goal.returns
unfolding output_after
returns c = (sym c.in_ok-framed.was ∙ c.plan_send.ensures, c.cut_job.ensures)
