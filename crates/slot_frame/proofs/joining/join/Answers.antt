-- `slot_frame::joining::join` meets its contract: the part after the join is that of the definition's moves, and each arm gives the slot that the
-- definition has for its case.
use Rattle.std.specs.Prelude.{◌≡◌, Ok}
use mathlib.Core.Path.{sym, ap, ◌∙◌}
use native.Mathlib.Omega.{arith}
use Rattle.sar_join.specs.declared.Joined.TheVariants as Joined
use Rattle.sar_join_room.specs.RoomLaws.{finished-free}
use Rattle.definition.specs.Mem.{sizes}
use Rattle.slot_frame.specs.FrameIn.{joined_to}
use Rattle.slot_frame.specs.Moved.{join_moves_lem, refused-moves}
use Rattle.slot_frame.proofs.joining.join.Goals as goal

pub queued-requires : goal.queued-requires
queued-requires c =
    let g = c.args in
    let x = g.x in
    let step : c.in-Ok-Finished.field-0 ≡ Joined.Finished c.in-Ok-Finished.len = rw c.in-Ok-Finished.is at c.in-Ok-Finished.field-0-is in
    let free = finished-free x.mtu x.mps g.d x.assembly x.queue.count g.payload.now _ (sym c.join_frame-step.ensures.0 ∙ c.in-Ok-Finished.is ∙ ap Ok step) in
    omega (arith, c.requires.2)

pub returns-in-Err : goal.returns-in-Err
unfolding joined_to sizes
returns-in-Err c =
    let g = c.args in
    let x = g.x in
    let told = c.in-Err.is in
    rw (← c.join_frame-step.ensures.0, told) (rw c.left-y.ensures at c.became.ensures, refused-moves g.place x.assembly x.queue.count g.part.now g.payload.now _ (rw told at c.join_frame-step.ensures.1) c.zero.ensures)

pub returns-in-Ok-Dropped : goal.returns-in-Ok-Dropped
unfolding joined_to sizes
returns-in-Ok-Dropped c =
    let g = c.args in
    let x = g.x in
    let step : c.in-Ok-Dropped.field-0 ≡ Joined.Dropped = rw c.in-Ok-Dropped.is at c.in-Ok-Dropped.field-0-is in
    let told = c.in-Ok-Dropped.is ∙ ap Ok step in
    rw (← c.join_frame-step.ensures.0, told) (rw c.with_assembly-y.ensures at c.became-in-Ok-Dropped.ensures, (rw told at c.join_frame-step.ensures.1) ∙ join_moves_lem g.place x.assembly x.queue.count g.part.now g.payload.now (Ok Joined.Dropped))

pub returns-in-Ok-Finished : goal.returns-in-Ok-Finished
unfolding joined_to sizes
returns-in-Ok-Finished c =
    let g = c.args in
    let x = g.x in
    let step : c.in-Ok-Finished.field-0 ≡ Joined.Finished c.in-Ok-Finished.len = rw c.in-Ok-Finished.is at c.in-Ok-Finished.field-0-is in
    let told = c.in-Ok-Finished.is ∙ ap Ok step in
    rw (← c.join_frame-step.ensures.0, told) (rw (c.with_queue-z.ensures, c.queued.ensures, c.with_assembly-y-in-Ok-Finished.ensures) at c.became-in-Ok-Finished.ensures, (rw told at c.join_frame-step.ensures.1) ∙ join_moves_lem g.place x.assembly x.queue.count g.part.now g.payload.now (Ok (Joined.Finished _)))

pub returns-in-Ok-Assembling : goal.returns-in-Ok-Assembling
unfolding joined_to sizes
returns-in-Ok-Assembling c =
    let g = c.args in
    let x = g.x in
    let step : c.in-Ok-Assembling.field-0 ≡ Joined.Assembling c.in-Ok-Assembling.b = rw c.in-Ok-Assembling.is at c.in-Ok-Assembling.field-0-is in
    let told = c.in-Ok-Assembling.is ∙ ap Ok step in
    rw (← c.join_frame-step.ensures.0, told) (rw c.with_assembly-y-in-Ok-Assembling.ensures at c.became-in-Ok-Assembling.ensures, (rw told at c.join_frame-step.ensures.1) ∙ join_moves_lem g.place x.assembly x.queue.count g.part.now g.payload.now (Ok (Joined.Assembling _)))
