-- `call_receive::take` meets its contract: the work on the slot, put into the table, which has used an identifier where a signal was written (takes_in).
use borrow.Author.Tests.{eq-eqb, ne_eqb}
use Rattle.lists.specs.Choose.{choose}
use Rattle.table_room.specs.Placed.{placed}
use Rattle.slot_take.specs.Taken.{takes_in}
use Rattle.call_receive.proofs.take.Goals as goal

pub take_from-w-requires : goal.take_from-w-requires
take_from-w-requires c =
    (placed c.requires.0 c.args.s c.requires.1, c.requires.2)

pub returns-then-w-eq0 : goal.returns-then-w-eq0
unfolding choose
returns-then-w-eq0 c =
    let g = c.args in
    takes_in g.t g.s g.room.now g.signal.now g.job.now {r = c.take_from-w.result} {v = c.changed.result} c.slot_at-x.ensures c.next_id.ensures
    (rw (eq-eqb _ _ c.if-w-eq0.true) c.changed.ensures) c.take_from-w.ensures

pub returns : goal.returns
unfolding choose
returns c =
    let g = c.args in
    takes_in g.t g.s g.room.now g.signal.now g.job.now {r = c.take_from-w.result} {v = c.changed-2.result} c.slot_at-x.ensures c.next_id.ensures
    (rw (ne_eqb _ _ c.if-w-eq0.false) (rw c.spent-u.ensures at c.changed-2.ensures)) c.take_from-w.ensures
