-- `run_portions::show` meets its contract, test by test.
use Rattle.run_portions.specs.PlayedPortionsLaws.{no_table, past_slots, job-shown}
use Rattle.run_portions.proofs.show.Goals as goal

pub returns-then-t-s : goal.returns-then-t-s
returns-then-t-s c =
    let g = c.args in
    past_slots g.t g.slot g.buffer.now c.sizes_fit.ensures c.if-sizes_fit.true c.if-t-s.true c.told.ensures

pub returns-then-sizes_fit : goal.returns-then-sizes_fit
returns-then-sizes_fit c =
    let g = c.args in
    job-shown g.t g.slot g.buffer.now c.sizes_fit.ensures c.if-sizes_fit.true c.if-t-s.false c.slot_at-x.ensures c.filling.ensures

pub returns : goal.returns
returns c =
    let g = c.args in
    no_table g.t g.slot g.buffer.now c.sizes_fit.ensures c.if-sizes_fit.false c.told-2.ensures
