-- `script_commands::with_numbers` meets its contract, letter by letter.
use borrow.Author.Tests.{eq-eqb, ne_eqb}
use Rattle.lists.specs.Choose.{choose}
use Rattle.script_commands.specs.Commands.{with_numbers}
use Rattle.script_commands.proofs.with_numbers.Goals as goal

pub returns-then-c-eq88 : goal.returns-then-c-eq88
unfolding with_numbers choose
returns-then-c-eq88 c = rw (eq-eqb _ 88 c.if-c-eq88.true)

pub returns-then-c-eq66 : goal.returns-then-c-eq66
unfolding with_numbers choose
returns-then-c-eq66 c = rw (ne_eqb _ 88 c.if-c-eq88.false, eq-eqb _ 66 c.if-c-eq66.true)

pub returns-then-c-eq121 : goal.returns-then-c-eq121
unfolding with_numbers choose
returns-then-c-eq121 c = rw (ne_eqb _ 88 c.if-c-eq88.false, ne_eqb _ 66 c.if-c-eq66.false, eq-eqb _ 121 c.if-c-eq121.true)

pub returns : goal.returns
unfolding with_numbers choose
returns c = rw (ne_eqb _ 88 c.if-c-eq88.false, ne_eqb _ 66 c.if-c-eq66.false, ne_eqb _ 121 c.if-c-eq121.false)
