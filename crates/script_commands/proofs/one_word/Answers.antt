-- `script_commands::one_word` meets its contract, letter by letter.
use borrow.Author.Tests.{eq-eqb, ne_eqb}
use Rattle.lists.specs.Choose.{choose}
use Rattle.script_commands.specs.Commands.{one_word}
use Rattle.script_commands.proofs.one_word.Goals as goal

pub returns-then-c-eq81 : goal.returns-then-c-eq81
unfolding one_word choose
returns-then-c-eq81 c = rw (eq-eqb _ 81 c.if-c-eq81.true)

pub returns-then-c-eq73 : goal.returns-then-c-eq73
unfolding one_word choose
returns-then-c-eq73 c = rw (ne_eqb _ 81 c.if-c-eq81.false, eq-eqb _ 73 c.if-c-eq73.true)

pub returns-then-c-eq86 : goal.returns-then-c-eq86
unfolding one_word choose
returns-then-c-eq86 c = rw (ne_eqb _ 81 c.if-c-eq81.false, ne_eqb _ 73 c.if-c-eq73.false, eq-eqb _ 86 c.if-c-eq86.true)

pub returns : goal.returns
unfolding one_word choose
returns c = rw (ne_eqb _ 81 c.if-c-eq81.false, ne_eqb _ 73 c.if-c-eq73.false, ne_eqb _ 86 c.if-c-eq86.false)
