-- `script_commands::long::seven_words` meets its contract: its one test is the conjunction of the words' own.
use Rattle.lists.specs.Choose.{choose}
use Rattle.script_commands.specs.LongCommands.{seven_words}
use Rattle.script_commands.proofs.long.seven_words.Goals as goal

pub returns-then-c-is_number : goal.returns-then-c-is_number
unfolding seven_words choose
returns-then-c-is_number c = rw (← c.is_number.ensures, ← c.is_number-2.ensures, ← c.is_config.ensures, c.if-c-is_number.true, c.number_of.ensures, c.number_of-then-c-is_number.ensures, c.config_of-config.ensures)

pub returns : goal.returns
unfolding seven_words choose
returns c = rw (← c.is_number.ensures, ← c.is_number-2.ensures, ← c.is_config.ensures, c.if-c-is_number.false)
