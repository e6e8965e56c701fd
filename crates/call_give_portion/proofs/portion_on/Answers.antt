-- `call_give_portion::portion_on` meets its contract: the work on the slot, put into the table, is the definition's portion (portion-into).
use mathlib.Core.Path.{sym, ◌∙◌}
use mathlib.Core.List.{[]}
use lib.ListN.{length}
use Rattle.definition.specs.Table.{slot_at}
use Rattle.slot_portion.specs.Filled.{fills_in}
use Rattle.slot_portion.specs.Giving.{portion_of}
use Rattle.slot_portion.specs.Into.{portion-into}
use Rattle.call_give_portion.proofs.portion_on.Goals as goal

pub returns : goal.returns
returns c =
    let a = c.args in
    let t = a.t in
    let s = a.s in
    let octets = a.octets.now in
    let buffer = a.buffer.now in
    let worked = rw c.slot_at-x.ensures at c.portion_from-w.ensures in
    fills_in t s (portion_of (slot_at t s) (length octets) (length buffer)) octets buffer c.changed.ensures worked
    ∙ sym (portion-into t s octets [] buffer [] (length octets) (length buffer))
