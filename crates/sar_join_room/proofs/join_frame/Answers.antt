-- `sar_join_room::join_frame` meets its contract: the step is `join_step`'s, and each arm writes what `join_part` has for its case.
use Rattle.std.specs.Prelude.{◌≡◌, Ok}
use Rattle.std.proofs.lemmas.Result.{err_from_is_err_and}
use mathlib.Core.Path.{refl, sym, ap, ◌∙◌}
use native.Mathlib.Numerals.{add-one}
use native.Mathlib.Omega.{arith}
use lib.ListN.{length}
use Rattle.sar_join_room.specs.SarRoom.{join_part}
use Rattle.sar_join_room.specs.RoomLaws.{finished-free, within}
use Rattle.sar_join_room.proofs.join_frame.Goals as goal

-- a finished job has a place, within the part
pub overflow_add-at : goal.overflow_add-at
overflow_add-at c =
    let x = c.args in
    let free = finished-free x.mtu x.mps x.d x.a x.queued x.payload.now _ (rw c.number-said.ensures at (sym c.join_step.ensures) ∙ c.in_ok-join_step.was ∙ ap Ok c.in-Finished.is) in
    omega (arith, free)

pub overflow_mul-at : goal.overflow_mul-at
overflow_mul-at c =
    let x = c.args in
    let free = finished-free x.mtu x.mps x.d x.a x.queued x.payload.now _ (rw c.number-said.ensures at (sym c.join_step.ensures) ∙ c.in_ok-join_step.was ∙ ap Ok c.in-Finished.is) in
    omega (arith, within x.place x.d x.queued (length x.places.now) free c.requires.0)

pub put_job-requires : goal.put_job-requires
put_job-requires c =
    let x = c.args in
    let free = finished-free x.mtu x.mps x.d x.a x.queued x.payload.now _ (rw c.number-said.ensures at (sym c.join_step.ensures) ∙ c.in_ok-join_step.was ∙ ap Ok c.in-Finished.is) in
    omega (arith, within x.place x.d x.queued (length x.places.now) free c.requires.0)

pub returns-in_err-join_step : goal.returns-in_err-join_step
unfolding join_part
returns-in_err-join_step c =
    let p = err_from_is_err_and c.from_residual.result c.from_residual.ensures.1 in
    let is : c.join_step.result ≡ c.from_residual.result = rw (p.1, p.2) c.in_err-join_step.was in
    (sym is ∙ rw c.number-said.ensures at c.join_step.ensures, rw p.1 refl)

pub returns-in-Dropped : goal.returns-in-Dropped
unfolding join_part
returns-in-Dropped c =
    (sym (c.in_ok-join_step.was ∙ ap Ok c.in-Dropped.is) ∙ rw c.number-said.ensures at c.join_step.ensures, c.zero.ensures)

pub returns-in-Finished : goal.returns-in-Finished
unfolding join_part
returns-in-Finished c =
    (sym (c.in_ok-join_step.was ∙ ap Ok c.in-Finished.is) ∙ rw c.number-said.ensures at c.join_step.ensures, rw (add-one c.args.queued) at c.put_job.ensures)

pub returns-in-Assembling : goal.returns-in-Assembling
unfolding join_part
returns-in-Assembling c =
    (sym (c.in_ok-join_step.was ∙ ap Ok c.in-Assembling.is) ∙ rw c.number-said.ensures at c.join_step.ensures, c.grow.ensures)
