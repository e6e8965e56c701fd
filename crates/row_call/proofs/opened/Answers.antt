-- `row_call::opened` meets its contract: 0 stands behind an answer that tells nothing.
use borrow.Author.Tests.{eq-eqb, ne_eqb}
use Rattle.lists.specs.Choose.{choose}
use Rattle.channel_answer.specs.Kinds as Kind
use Rattle.row_call.specs.Printed.{opened_text}
use Rattle.row_call.proofs.opened.Goals as goal

pub returns-then-x-eq-DONE : goal.returns-then-x-eq-DONE
unfolding opened_text choose
returns-then-x-eq-DONE c = rw (← c.tells-x.ensures, eq-eqb _ Kind.done c.if-x-eq-DONE.true) c.told_more.ensures

pub returns-else-x-eq-DONE : goal.returns-else-x-eq-DONE
unfolding opened_text choose
returns-else-x-eq-DONE c = rw (← c.tells-x.ensures, ne_eqb _ Kind.done c.if-x-eq-DONE.false) c.told.ensures
