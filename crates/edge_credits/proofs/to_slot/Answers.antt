-- `edge_credits::to_slot` meets its contract: the work on the slot that the row says, its columns and the answer written.
use Rattle.definition.specs.Mem.{sizes}
use Rattle.definition.specs.Table.{place_size}
use Rattle.edge_layout.specs.Layout.{cell, slot_in}
use Rattle.slot_credits.specs.Into.{credits-quiet}
use Rattle.edge_placed.specs.Credited.{credited_edge}
use Rattle.edge_credits.proofs.to_slot.Goals as goal

pub returns : goal.returns
unfolding credited_edge sizes
returns c =
    let g = c.args in
    let f = rw c.slot_at-x.ensures at c.credit_at-w.ensures in
    let told = c.put_answer.ensures in
    λ signal. rw (told.value, told.out_after, c.put_credited.ensures, f.1, f.0, credits-quiet (place_size g.m) (slot_in (cell g.table.now g.s)) g.more)
