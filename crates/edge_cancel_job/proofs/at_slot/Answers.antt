-- `edge_cancel_job::at_slot` meets its contract: the work on the slot that the row says, its row and the answer written.
use Rattle.definition.specs.Mem.{sizes}
use Rattle.definition.specs.Table.{place_size}
use Rattle.edge_layout.specs.Layout.{cell, slot_in}
use Rattle.slot_portion.specs.Cancelling.{cancel_quiet}
use Rattle.edge_placed.specs.Cancelled.{cancelled_edge}
use Rattle.edge_cancel_job.proofs.at_slot.Goals as goal

pub cancel_at-w-requires : goal.cancel_at-w-requires
cancel_at-w-requires c = let p = c.requires in rw c.slot_at-x.ensures (p.2, p.3)

pub returns : goal.returns
unfolding cancelled_edge sizes
returns c =
    let g = c.args in
    let f = rw c.slot_at-x.ensures at c.cancel_at-w.ensures in
    let told = c.put_answer.ensures in
    rw (told.value, told.out_after, c.put_slot.ensures, f.1, f.0, cancel_quiet (place_size g.m) (slot_in (cell g.table.now g.s)))
