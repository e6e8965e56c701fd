-- `slot_take::handing::hand` meets its contract: what was copied and moved is `hand_out`'s, and the slot's queue is `shifted`.
use borrow.Author.Rules.{rules}
use Rattle.slot_take.proofs.handing.hand.Goals as goal

pub overflow_cast-len : goal.overflow_cast-len
overflow_cast-len c = search (rules, c.well_formed.1.1.1.1.0.1.1.1.1.1.1.1.1.1.1)

pub returns : goal.returns
returns c =
    record {
      gave = rw (c.with_queue-y.ensures, c.shifted.ensures) at c.became.ensures;
      moved = c.hand_out.ensures.0;
      told = c.hand_out.ensures.1;
    }
