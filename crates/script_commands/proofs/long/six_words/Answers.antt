-- `script_commands::long::six_words` meets its contract, test by test.
use borrow.Author.Tests.{eq-eqb, ne_eqb}
use Rattle.lists.specs.Choose.{choose}
use Rattle.script_commands.specs.LongCommands.{six_words}
use Rattle.script_commands.proofs.long.six_words.Goals as goal

pub returns-in_default : goal.returns-in_default
unfolding six_words choose
returns-in_default c = rw (← c.read_number.ensures, c.in_default.is)

pub returns-then-is_config : goal.returns-then-is_config
unfolding six_words choose
returns-then-is_config c = rw (← c.read_number.ensures, c.in-Some.is, eq-eqb _ 65 c.if-c-eq65.true, ← c.is_config.ensures, c.if-is_config.true, c.config_of-config.ensures)

pub returns-then-c-eq65 : goal.returns-then-c-eq65
unfolding six_words choose
returns-then-c-eq65 c = rw (← c.read_number.ensures, c.in-Some.is, eq-eqb _ 65 c.if-c-eq65.true, ← c.is_config.ensures, c.if-is_config.false)

pub returns-then-is_number : goal.returns-then-is_number
unfolding six_words choose
returns-then-is_number c = rw (← c.read_number.ensures, c.in-Some.is, ne_eqb _ 65 c.if-c-eq65.false, eq-eqb _ 89 c.if-c-eq89.true, ← c.is_number.ensures, ← c.is_number-then-c-eq89.ensures, ← c.is_number-then-c-eq89-2.ensures, ← c.is_number-then-c-eq89-3.ensures, c.if-is_number.true, c.number_of.ensures, c.number_of-then-is_number.ensures, c.number_of-then-is_number-2.ensures, c.number_of-then-is_number-3.ensures)

pub returns-then-c-eq89 : goal.returns-then-c-eq89
unfolding six_words choose
returns-then-c-eq89 c = rw (← c.read_number.ensures, c.in-Some.is, ne_eqb _ 65 c.if-c-eq65.false, eq-eqb _ 89 c.if-c-eq89.true, ← c.is_number.ensures, ← c.is_number-then-c-eq89.ensures, ← c.is_number-then-c-eq89-2.ensures, ← c.is_number-then-c-eq89-3.ensures, c.if-is_number.false)

pub returns : goal.returns
unfolding six_words choose
returns c = rw (← c.read_number.ensures, c.in-Some.is, ne_eqb _ 65 c.if-c-eq65.false, ne_eqb _ 89 c.if-c-eq89.false)
