-- `run_portions::play` meets its contract: a slot's buffer is lent, and what stands around it stays (starts, gives); the two others leave the buffers alone.
use mathlib.Core.Path.{refl}
use native.Mathlib.Omega.{arith}
use Rattle.run_portions.specs.PlayedPortions.{portions_of}
use Rattle.run_portions.specs.PlayedPortionsLaws.{starts, gives, shows}
use Rattle.run_portions.proofs.play.Goals as goal

pub slice_bounds-start-count : goal.slice_bounds-start-count
slice_bounds-start-count c = omega (arith, c.of_slot-b.ensures.0, c.of_slot-b.ensures.1)

pub slice_bounds-start-start : goal.slice_bounds-start-start
slice_bounds-start-start c = omega (arith, c.of_slot-b.ensures.0, c.of_slot-b.ensures.1)

pub slice_bounds-start-end : goal.slice_bounds-start-end
slice_bounds-start-end c = omega (arith, c.of_slot-b.ensures.0, c.of_slot-b.ensures.1)

pub slice_bounds-give-count : goal.slice_bounds-give-count
slice_bounds-give-count c = omega (arith, c.of_slot-own.ensures.0, c.of_slot-own.ensures.1)

pub slice_bounds-give-start : goal.slice_bounds-give-start
slice_bounds-give-start c = omega (arith, c.of_slot-own.ensures.0, c.of_slot-own.ensures.1)

pub slice_bounds-give-end : goal.slice_bounds-give-end
slice_bounds-give-end c = omega (arith, c.of_slot-own.ensures.0, c.of_slot-own.ensures.1)

pub returns-in-StartJob : goal.returns-in-StartJob
returns-in-StartJob c =
    let g = c.args in
    starts g.t g.room.now g.line.now g.octets.now g.buffers.now c.in-StartJob.is c.of_slot-b.ensures.0 c.of_slot-b.ensures.1 c.start.auto.buffer c.start.ensures

pub returns-in-GivePortion : goal.returns-in-GivePortion
returns-in-GivePortion c =
    let g = c.args in
    gives g.t g.room.now g.line.now g.octets.now g.buffers.now c.in-GivePortion.is c.of_slot-own.ensures.0 c.of_slot-own.ensures.1 c.give.auto.buffer c.give.ensures

pub returns-in-CancelJob : goal.returns-in-CancelJob
unfolding portions_of
returns-in-CancelJob c = rw c.in-CancelJob.is (record { plays = c.cancel.ensures; buffers = refl })

pub returns-in-ShowJob : goal.returns-in-ShowJob
returns-in-ShowJob c =
    let g = c.args in
    shows g.t g.room.now g.line.now g.octets.now g.buffers.now c.in-ShowJob.is c.of_slot-b-in-ShowJob.ensures.0 c.of_slot-b-in-ShowJob.ensures.1 c.text.ensures c.show-n.ensures
