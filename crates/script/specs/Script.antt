-- Which call a line asks for: its first word is the letter, and its number of words says which calls it can be (script_commands: Commands, LongCommands).
use Rattle.std.specs.Prelude.{List, ℕ, eqb, length, get_or}
use Rattle.lists.specs.Choose.{choose}
use Rattle.text_words.specs.Words.{words_of, word, place}
use Rattle.script_commands.specs.declared.Command.{Command}
use Rattle.script_commands.specs.declared.Command.TheVariants as Command
use Rattle.script_commands.specs.Commands.{one_word, two_words, three_words}
use Rattle.script_commands.specs.LongCommands.{four_words, five_words, six_words, seven_words}

unfoldable pub command_of : List ℕ → Command
command_of line =
    let n = length (words_of line) in
    let c = get_or (word line 0) 0 0 in
    choose (eqb (length (word line 0)) 1)
    (choose (eqb n 1) (one_word c)
    (choose (eqb n 2) (two_words c (word line 1))
    (choose (eqb n 3) (three_words c (word line 1) (word line 2) (place line 2))
    (choose (eqb n 4) (four_words c (word line 1) (word line 2) (word line 3) (place line 3))
    (choose (eqb n 5) (five_words c (word line 1) (word line 2) (word line 3) (word line 4) (place line 4))
    (choose (eqb n 6) (six_words c (word line 1) (word line 2) (word line 3) (word line 4) (word line 5))
    (choose (eqb n 7) (seven_words c (word line 1) (word line 2) (word line 3) (word line 4) (word line 5) (word line 6))
    Command.Bad)))))))
    Command.Bad
