-- `script_commands::long::five_words` meets its contract: its one test is the conjunction of the words' own.
use Rattle.lists.specs.Choose.{choose}
use Rattle.script_commands.specs.LongCommands.{five_words}
use Rattle.script_commands.proofs.long.five_words.Goals as goal

pub returns-then-c-is_number : goal.returns-then-c-is_number
unfolding five_words choose
returns-then-c-is_number c = rw (← c.is_number.ensures, ← c.is_flag.ensures, ← c.is_role.ensures, ← c.hex_ok.ensures, c.if-c-is_number.true, c.number_of.ensures, c.flag_of.ensures, c.central_of.ensures)

pub returns : goal.returns
unfolding five_words choose
returns c = rw (← c.is_number.ensures, ← c.is_flag.ensures, ← c.is_role.ensures, ← c.hex_ok.ensures, c.if-c-is_number.false)
