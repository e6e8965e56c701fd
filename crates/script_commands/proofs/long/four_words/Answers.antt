-- `script_commands::long::four_words` meets its contract, test by test.
use borrow.Author.Tests.{eq-eqb, ne_eqb}
use Rattle.lists.specs.Choose.{choose}
use Rattle.script_commands.specs.LongCommands.{four_words}
use Rattle.script_commands.proofs.long.four_words.Goals as goal

pub returns-in_default : goal.returns-in_default
unfolding four_words choose
returns-in_default c = rw (← c.read_number.ensures, c.in_default.is)

pub returns-in_default-read_number : goal.returns-in_default-read_number
unfolding four_words choose
returns-in_default-read_number c = rw (← c.read_number.ensures, c.in-Some.is, ← c.read_number-2.ensures, c.in_default-read_number.is)

pub returns-then-is_number : goal.returns-then-is_number
unfolding four_words choose
returns-then-is_number c = rw (← c.read_number.ensures, c.in-Some.is, ← c.read_number-2.ensures, c.in-Some-read_number.is, eq-eqb _ 84 c.if-c-eq84.true, ← c.is_number.ensures, c.if-is_number.true, c.number_of.ensures)

pub returns-then-c-eq84 : goal.returns-then-c-eq84
unfolding four_words choose
returns-then-c-eq84 c = rw (← c.read_number.ensures, c.in-Some.is, ← c.read_number-2.ensures, c.in-Some-read_number.is, eq-eqb _ 84 c.if-c-eq84.true, ← c.is_number.ensures, c.if-is_number.false)

pub returns-then-is_flag : goal.returns-then-is_flag
unfolding four_words choose
returns-then-is_flag c = rw (← c.read_number.ensures, c.in-Some.is, ← c.read_number-2.ensures, c.in-Some-read_number.is, ne_eqb _ 84 c.if-c-eq84.false, eq-eqb _ 79 c.if-c-eq79.true, ← c.is_flag.ensures, c.if-is_flag.true, c.flag_of.ensures)

pub returns-then-c-eq79 : goal.returns-then-c-eq79
unfolding four_words choose
returns-then-c-eq79 c = rw (← c.read_number.ensures, c.in-Some.is, ← c.read_number-2.ensures, c.in-Some-read_number.is, ne_eqb _ 84 c.if-c-eq84.false, eq-eqb _ 79 c.if-c-eq79.true, ← c.is_flag.ensures, c.if-is_flag.false)

pub returns-then-hex_ok : goal.returns-then-hex_ok
unfolding four_words choose
returns-then-hex_ok c = rw (← c.read_number.ensures, c.in-Some.is, ← c.read_number-2.ensures, c.in-Some-read_number.is, ne_eqb _ 84 c.if-c-eq84.false, ne_eqb _ 79 c.if-c-eq79.false, eq-eqb _ 70 c.if-c-eq70.true, ← c.hex_ok.ensures, c.if-hex_ok.true)

pub returns-then-c-eq70 : goal.returns-then-c-eq70
unfolding four_words choose
returns-then-c-eq70 c = rw (← c.read_number.ensures, c.in-Some.is, ← c.read_number-2.ensures, c.in-Some-read_number.is, ne_eqb _ 84 c.if-c-eq84.false, ne_eqb _ 79 c.if-c-eq79.false, eq-eqb _ 70 c.if-c-eq70.true, ← c.hex_ok.ensures, c.if-hex_ok.false)

pub returns-then-is_size : goal.returns-then-is_size
unfolding four_words choose
returns-then-is_size c = rw (← c.read_number.ensures, c.in-Some.is, ← c.read_number-2.ensures, c.in-Some-read_number.is, ne_eqb _ 84 c.if-c-eq84.false, ne_eqb _ 79 c.if-c-eq79.false, ne_eqb _ 70 c.if-c-eq70.false, eq-eqb _ 78 c.if-c-eq78.true, ← c.is_size.ensures, c.if-is_size.true, c.number_of-then-is_size.ensures)

pub returns-then-c-eq78 : goal.returns-then-c-eq78
unfolding four_words choose
returns-then-c-eq78 c = rw (← c.read_number.ensures, c.in-Some.is, ← c.read_number-2.ensures, c.in-Some-read_number.is, ne_eqb _ 84 c.if-c-eq84.false, ne_eqb _ 79 c.if-c-eq79.false, ne_eqb _ 70 c.if-c-eq70.false, eq-eqb _ 78 c.if-c-eq78.true, ← c.is_size.ensures, c.if-is_size.false)

pub returns-then-is_size-hex_ok : goal.returns-then-is_size-hex_ok
unfolding four_words choose
returns-then-is_size-hex_ok c = rw (← c.read_number.ensures, c.in-Some.is, ← c.read_number-2.ensures, c.in-Some-read_number.is, ne_eqb _ 84 c.if-c-eq84.false, ne_eqb _ 79 c.if-c-eq79.false, ne_eqb _ 70 c.if-c-eq70.false, ne_eqb _ 78 c.if-c-eq78.false, eq-eqb _ 112 c.if-c-eq112.true, ← c.is_size-then-c-eq112.ensures, ← c.hex_ok-then-c-eq112.ensures, c.if-is_size-hex_ok.true)

pub returns-then-c-eq112 : goal.returns-then-c-eq112
unfolding four_words choose
returns-then-c-eq112 c = rw (← c.read_number.ensures, c.in-Some.is, ← c.read_number-2.ensures, c.in-Some-read_number.is, ne_eqb _ 84 c.if-c-eq84.false, ne_eqb _ 79 c.if-c-eq79.false, ne_eqb _ 70 c.if-c-eq70.false, ne_eqb _ 78 c.if-c-eq78.false, eq-eqb _ 112 c.if-c-eq112.true, ← c.is_size-then-c-eq112.ensures, ← c.hex_ok-then-c-eq112.ensures, c.if-is_size-hex_ok.false)

pub returns : goal.returns
unfolding four_words choose
returns c = rw (← c.read_number.ensures, c.in-Some.is, ← c.read_number-2.ensures, c.in-Some-read_number.is, ne_eqb _ 84 c.if-c-eq84.false, ne_eqb _ 79 c.if-c-eq79.false, ne_eqb _ 70 c.if-c-eq70.false, ne_eqb _ 78 c.if-c-eq78.false, ne_eqb _ 112 c.if-c-eq112.false)
