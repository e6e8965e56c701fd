-- `text_decimal::read_number` meets its contract: what is read so far goes on with the rest (Reading), and each return makes the tests of the definition.
use Rattle.text_decimal.specs.DecimalLaws.{Reading}
use Rattle.text_decimal.proofs.read_number.Given as goal

abbrev pub invariant-loop-c : goal.invariant-loop-c
invariant-loop-c l = Reading l.word l.c-index l.n
