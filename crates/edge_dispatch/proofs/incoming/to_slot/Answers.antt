-- `edge_dispatch::incoming::to_slot` meets its contract: the work on the slot that the row says, its columns and the answer written.
use Rattle.edge_placed.specs.Incoming.{framed-edge}
use Rattle.edge_dispatch.proofs.incoming.to_slot.Goals as goal

pub frame_at-w-requires : goal.frame_at-w-requires
frame_at-w-requires c =
    (c.requires.2, rw c.row-x.ensures c.requires.3)

pub returns : goal.returns
returns c =
    let g = c.args in
    let told = c.put_answer.ensures in
    framed-edge g.table.now g.answer.now g.room.now g.payload.now g.d g.m g.s g.link
    c.row-x.ensures c.frame_at-w.ensures.0 c.frame_at-w.ensures.1 c.put_row.ensures told.value told.out_after
