-- `row_call::tallied` meets its contract: the answers of the other three stand behind the first's row, where it is a number.
use borrow.Author.Tests.{eq-eqb, ne_eqb}
use Rattle.lists.specs.Choose.{choose}
use Rattle.channel_answer.specs.Kinds as Kind
use Rattle.row_call.specs.Printed.{tallies_text}
use Rattle.row_call.proofs.tallied.Goals as goal

pub returns-then-x-eq-NUMBER : goal.returns-then-x-eq-NUMBER
unfolding tallies_text choose
returns-then-x-eq-NUMBER c =
    rw (
      ← c.tells-x.ensures,
      eq-eqb _ Kind.number c.if-x-eq-NUMBER.true,
      ← c.tells.ensures,
      ← c.number_told.ensures,
      ← c.tells-then-x-eq-NUMBER.ensures,
      ← c.number_told-then-x-eq-NUMBER.ensures,
      ← c.tells-then-x-eq-NUMBER-2.ensures,
      ← c.number_told-then-x-eq-NUMBER-2.ensures,
    )
    c.told_more.ensures

pub returns-else-x-eq-NUMBER : goal.returns-else-x-eq-NUMBER
unfolding tallies_text choose
returns-else-x-eq-NUMBER c = rw (← c.tells-x.ensures, ne_eqb _ Kind.number c.if-x-eq-NUMBER.false) c.told.ensures
