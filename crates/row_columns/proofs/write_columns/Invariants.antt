-- `row_columns::write_columns` meets its contract: the numbers passed are written (Writes), a column each (columns-more).
use lib.ListN.{take}
use Rattle.text_write.specs.Rows.{Writes}
use Rattle.row_columns.specs.Columns.{columns_text}
use Rattle.row_columns.proofs.write_columns.Given as goal

abbrev pub invariant-loop-n : goal.invariant-loop-n
invariant-loop-n l = Writes l.initial.out l.at (columns_text (take l.n-index l.numbers)) l.next l.out
