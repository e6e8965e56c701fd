-- `script_commands::three_words` meets its contract, test by test.
use borrow.Author.Tests.{eq-eqb, ne_eqb}
use Rattle.lists.specs.Choose.{choose}
use Rattle.script_commands.specs.Commands.{three_words}
use Rattle.script_commands.proofs.three_words.Goals as goal

pub returns-in_default : goal.returns-in_default
unfolding three_words choose
returns-in_default c = rw (← c.read_number.ensures, c.in_default.is)

pub returns-then-is_flag : goal.returns-then-is_flag
unfolding three_words choose
returns-then-is_flag c = rw (← c.read_number.ensures, c.in-Some.is, eq-eqb _ 80 c.if-c-eq80.true, ← c.is_flag.ensures, c.if-is_flag.true, c.flag_of.ensures)

pub returns-then-c-eq80 : goal.returns-then-c-eq80
unfolding three_words choose
returns-then-c-eq80 c = rw (← c.read_number.ensures, c.in-Some.is, eq-eqb _ 80 c.if-c-eq80.true, ← c.is_flag.ensures, c.if-is_flag.false)

pub returns-then-hex_ok : goal.returns-then-hex_ok
unfolding three_words choose
returns-then-hex_ok c = rw (← c.read_number.ensures, c.in-Some.is, ne_eqb _ 80 c.if-c-eq80.false, eq-eqb _ 75 c.if-c-eq75.true, ← c.hex_ok.ensures, c.if-hex_ok.true)

pub returns-then-c-eq75 : goal.returns-then-c-eq75
unfolding three_words choose
returns-then-c-eq75 c = rw (← c.read_number.ensures, c.in-Some.is, ne_eqb _ 80 c.if-c-eq80.false, eq-eqb _ 75 c.if-c-eq75.true, ← c.hex_ok.ensures, c.if-hex_ok.false)

pub returns-in_default-read_number : goal.returns-in_default-read_number
unfolding three_words choose
returns-in_default-read_number c = rw (← c.read_number.ensures, c.in-Some.is, ne_eqb _ 80 c.if-c-eq80.false, ne_eqb _ 75 c.if-c-eq75.false, ← c.read_number-2.ensures, c.in_default-read_number.is)

pub returns : goal.returns
unfolding three_words choose
returns c = rw (← c.read_number.ensures, c.in-Some.is, ne_eqb _ 80 c.if-c-eq80.false, ne_eqb _ 75 c.if-c-eq75.false, ← c.read_number-2.ensures, c.in-Some-read_number.is) c.with_numbers.ensures
