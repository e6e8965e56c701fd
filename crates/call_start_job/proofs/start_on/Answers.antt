-- `call_start_job::start_on` meets its contract: the work on the slot, put into the table, is the definition's start (start-into).
use mathlib.Core.Path.{sym, ◌∙◌}
use mathlib.Core.List.{[]}
use lib.ListN.{length}
use Rattle.definition.specs.Table.{slot_at}
use Rattle.slot_portion.specs.Filled.{fills_in}
use Rattle.slot_portion.specs.Starting.{start_of}
use Rattle.slot_portion.specs.Into.{start-into}
use Rattle.call_start_job.proofs.start_on.Goals as goal

pub returns : goal.returns
returns c =
    let a = c.args in
    let t = a.t in
    let s = a.s in
    let buffer = a.buffer.now in
    let worked = rw c.slot_at-x.ensures at c.start_from-w.ensures in
    fills_in t s (start_of (slot_at t s) a.stated (length buffer)) [] buffer c.changed.ensures worked ∙ sym (start-into t s [] [] buffer [] a.stated (length buffer))
