use mathlib.Core.Path.{refl, ap, ◌∙◌}
use lib.ListN.{length}
use lib.Seq.{take_all, length-sets}
use Rattle.text_write.specs.Rows.{writes-append}
use Rattle.row_columns.specs.Columns.{columns_text}
use Rattle.row_columns.specs.ColumnLaws.{columns-more}
use native.Mathlib.Omega.{arith}
use Rattle.row_columns.proofs.write_columns.Goals as goal

pub loop-n-init : goal.loop-n-init
unfolding columns_text
loop-n-init c = record { next = omega arith; buffer = refl }

pub loop-n-preserved : goal.loop-n-preserved
loop-n-preserved c =
    let l = c.loop-n in
    rw (columns-more c.args.numbers.now l.n-index (omega arith)) (writes-append (writes-append l.invariant c.write_character-behind.ensures) c.write_number-next.ensures)

pub shape_of-out : goal.shape_of-out
shape_of-out c = ap length c.loop-n.invariant.buffer ∙ simp length-sets

pub returns : goal.returns
returns c =
    let l = c.loop-n in
    rw (take_all l.n-index c.args.numbers.now (omega arith)) at l.invariant
