-- `text_decimal::write_number` meets its contract; the measure is the number.
use Rattle.text_decimal.proofs.write.+write_number.Given as goal

abbrev pub decreases-write_number : goal.decreases-write_number
decreases-write_number l = l.n
