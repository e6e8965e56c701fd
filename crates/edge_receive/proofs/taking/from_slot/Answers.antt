-- `edge_receive::taking::from_slot` meets its contract: the work on the slot that the row says; its columns, the next identifier and the answer written.
use native.Mathlib.Omega.{arith}
use Rattle.edge_placed.specs.Taken.{taken-edge}
use Rattle.edge_receive.proofs.taking.from_slot.Goals as goal

pub put_taken-requires : goal.put_taken-requires
put_taken-requires c =
    let a = c.requires in
    (a.0, omega (arith, a.1))

pub returns : goal.returns
returns c =
    let g = c.args in
    let told = c.put_answer.ensures in
    rw (told.value, told.out_after, c.put.ensures, c.id_then.ensures, c.put_taken.ensures)
    (taken-edge g.table.now g.answer.now g.room.now g.signal.now g.job.now g.d g.m g.s c.slot_at-x.ensures c.octet-next.ensures c.given_id-id.ensures c.take_from-w.ensures)
