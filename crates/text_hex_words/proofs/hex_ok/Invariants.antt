-- `text_hex_words::hex_ok` meets its contract: the digits passed are hex digits (Kept), and each return makes the tests of the definition.
use lib.ListN.{length}
use Rattle.lists.specs.Every.{Kept}
use Rattle.text_hex_words.specs.HexWords.{is_hex}
use Rattle.text_hex_words.proofs.hex_ok.Given as goal

abbrev pub invariant-loop-i : goal.invariant-loop-i
invariant-loop-i l = Kept is_hex (length l.word) l.word l.i
