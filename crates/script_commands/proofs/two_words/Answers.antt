-- `script_commands::two_words` meets its contract, test by test.
use Rattle.lists.specs.Choose.{choose}
use Rattle.script_commands.specs.Commands.{two_words}
use Rattle.script_commands.proofs.two_words.Goals as goal

pub returns-in_default : goal.returns-in_default
unfolding two_words choose
returns-in_default c = rw (← c.read_number.ensures, c.in_default.is)

pub returns : goal.returns
unfolding two_words choose
returns c = rw (← c.read_number.ensures, c.in-Some.is) c.with_number.ensures
