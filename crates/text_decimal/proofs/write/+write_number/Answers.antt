-- A last digit stands behind the rest (number_more, writes-append).
use native.Mathlib.Omega.{arith}
use Rattle.text_write.specs.Rows.{writes-append}
use Rattle.text_decimal.specs.NumberTextLaws.{number-one, number_more}
use Rattle.text_decimal.proofs.write.+write_number.Goals as goal

pub returns-then-n-lt10 : goal.returns-then-n-lt10
returns-then-n-lt10 t c = rw (number-one c.args.n c.if-n-lt10.true) c.write_character.ensures

pub returns : goal.returns
returns t c = rw (number_more c.args.n (omega arith) (omega arith)) (writes-append c.write_number-next.ensures c.write_character-2.ensures)
