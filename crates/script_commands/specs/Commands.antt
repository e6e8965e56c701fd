-- The table of calls (docs/CHANRUN.md), by the number of words of a line: a letter, then what the call is given. A letter that no call of that many
-- words has, and a word that is not of the call's kind, make the line bad. `last` is where the last word stands: octets are read from there.
pub use Rattle.script_fields_plain.specs.PlainFields.{buffer_most}
use Rattle.std.specs.Prelude.{List, ℕ, min, eqb}
use Prim.Native.Char.{code}
use Rattle.lists.specs.Choose.{choose}
use Rattle.text_hex_words.specs.HexWords.{is_hex_word}
use Rattle.text_words.specs.declared.Word.{Word}
use Rattle.script_commands.specs.declared.Command.{Command}
use Rattle.script_fields_plain.specs.PlainFields.{is_number, number_of, is_flag, flag_of}
use Rattle.script_commands.specs.declared.Command.TheVariants as Command
use Rattle.script_commands.specs.declared.Opening.TheVariants as Opening
use Rattle.script_commands.specs.declared.Closing.TheVariants as Closing
use Rattle.script_commands.specs.declared.Portions.TheVariants as Portions

-- The slot that a command names. A number that is no octet is past every table, as 255 is.
abbrev pub slot_number : ℕ → ℕ
slot_number n = min n 255

unfoldable pub one_word : (c : ℕ) → Command
one_word c =
    choose (eqb c (code "Q")) (Command.Closing Closing.NextDisconnect)
    (choose (eqb c (code "I")) (Command.Closing Closing.Attention)
    (choose (eqb c (code "V")) Command.View
    Command.Bad))

unfoldable pub with_number : (c n : ℕ) → Command
with_number c n =
    choose (eqb c (code "R")) (Command.Opening (Opening.RegisterSpsm n))  -- spsm
    (choose (eqb c (code "J")) (Command.Opening (Opening.RejectAllPending n))  -- link
    (choose (eqb c (code "Z")) (Command.Opening (Opening.DropPending n))  -- slot
    (choose (eqb c (code "G")) (Command.Opening (Opening.GiveUp n))  -- slot
    (choose (eqb c (code "H")) (Command.Closing (Closing.IncRef n))  -- slot
    (choose (eqb c (code "L")) (Command.Closing (Closing.DecRef n))  -- slot
    (choose (eqb c (code "D")) (Command.Closing (Closing.Disconnect n))  -- slot
    (choose (eqb c (code "E")) (Command.Closing (Closing.DisconnectByCid n))  -- cid
    (choose (eqb c (code "W")) (Command.Closing (Closing.Disconnected n))  -- link
    (choose (eqb c (code "U")) (Command.Queries n)  -- slot
    (choose (eqb c (code "t")) (Command.Tallies n)  -- slot
    (choose (eqb c (code "M")) (Command.Room n)  -- slot
    (choose (eqb c (code "x")) (Command.Portions (Portions.CancelJob n))  -- slot
    (choose (eqb c (code "n")) (Command.Portions (Portions.ShowJob n))  -- slot
    Command.Bad)))))))))))))

unfoldable pub two_words : (c : ℕ) (a : List ℕ) → Command
two_words c a = choose (is_number a) (with_number c (number_of a)) Command.Bad

unfoldable pub with_numbers : (c n m : ℕ) → Command
with_numbers c n m =
    choose (eqb c (code "X")) (Command.Opening (Opening.RejectPending n m))  -- slot result
    (choose (eqb c (code "B")) (Command.Receive n m)  -- slot size
    (choose (eqb c (code "y")) (Command.Closing (Closing.SendConnParamUpdateRes n m))  -- link result
    Command.Bad))

unfoldable pub three_words : (c : ℕ) (a b : List ℕ) (last : Word) → Command
three_words c a b last =
    choose (is_number a)
    (choose (eqb c (code "P")) (choose (is_flag b) (Command.Opening (Opening.NextPending (number_of a) (flag_of b))) Command.Bad)  -- link up
    (choose (eqb c (code "K")) (choose (is_hex_word b) (Command.Send (number_of a) last) Command.Bad)  -- slot hex
    (choose (is_number b) (with_numbers c (number_of a) (number_of b)) Command.Bad)))
    Command.Bad
