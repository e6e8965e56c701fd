-- The table of calls of four words and more (docs/CHANRUN.md), as Commands.antt has those of fewer.
use Rattle.std.specs.Prelude.{◌&&◌, List, ℕ, eqb}
use Prim.Native.Char.{code}
use Rattle.lists.specs.Choose.{choose}
use Rattle.text_hex_words.specs.HexWords.{is_hex_word}
use Rattle.text_words.specs.declared.Word.{Word}
use Rattle.script_fields_plain.specs.PlainFields.{is_number, number_of, is_size, is_flag, flag_of, is_role, central_of}
use Rattle.script_fields_config.specs.Configs.{is_config, config_of}
use Rattle.script_commands.specs.declared.Command.{Command}
use Rattle.script_commands.specs.declared.Command.TheVariants as Command
use Rattle.script_commands.specs.declared.Opening.TheVariants as Opening
use Rattle.script_commands.specs.declared.Closing.TheVariants as Closing
use Rattle.script_commands.specs.declared.Portions.TheVariants as Portions

unfoldable pub four_words : (c : ℕ) (a b d : List ℕ) (last : Word) → Command
four_words c a b d last =
    choose (is_number a && is_number b)
    (choose (eqb c (code "T")) (choose (is_number d) (Command.Make (number_of a) (number_of b) (number_of d)) Command.Bad)  -- n d m
    (choose (eqb c (code "O")) (choose (is_flag d) (Command.Opened (number_of a) (number_of b) (flag_of d)) Command.Bad)  -- slot link up
    (choose (eqb c (code "F")) (choose (is_hex_word d) (Command.Dispatch (number_of a) (number_of b) last) Command.Bad)  -- link cid hex
    (choose (eqb c (code "N")) (choose (is_size d) (Command.Portions (Portions.StartJob (number_of a) (number_of b) (number_of d))) Command.Bad)  -- slot length size
    (choose (eqb c (code "p")) (choose (is_size b && is_hex_word d) (Command.Portions (Portions.GivePortion (number_of a) (number_of b) last)) Command.Bad)  -- slot size hex
    Command.Bad)))))
    Command.Bad

-- S link listening role hex
unfoldable pub five_words : (c : ℕ) (a b d e : List ℕ) (last : Word) → Command
five_words c a b d e last =
    choose (eqb c (code "S") && is_number a && is_flag b && is_role d && is_hex_word e)
    (Command.Signal (number_of a) (flag_of b) (central_of d) last)
    Command.Bad

unfoldable pub six_words : (c : ℕ) (a b d e f : List ℕ) → Command
six_words c a b d e f =
    choose (is_number a)
    (choose (eqb c (code "A")) (choose (is_config b d e f) (Command.Opening (Opening.AcceptPending (number_of a) (config_of b d e f))) Command.Bad)  -- slot mtu mps policy credits
    (choose (eqb c (code "Y"))
    (choose (is_number b && is_number d && is_number e && is_number f)
    (Command.Closing (Closing.SendConnParamUpdateReq (number_of a) (number_of b) (number_of d) (number_of e) (number_of f)))  -- link min max latency timeout
    Command.Bad)
    Command.Bad))
    Command.Bad

-- C link spsm mtu mps policy credits
unfoldable pub seven_words : (c : ℕ) (a b d e f g : List ℕ) → Command
seven_words c a b d e f g =
    choose (eqb c (code "C") && is_number a && is_number b && is_config d e f g) (Command.Opening (Opening.Create (number_of a) (number_of b) (config_of d e f g))) Command.Bad
