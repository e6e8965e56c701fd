-- `row_answer::write_answer` meets its contract: its pieces follow one another (writes-append).
use native.Mathlib.Omega.{arith}
use lib.ListN.{length-take}
use Rattle.text_write.specs.Rows.{writes-append}
use Rattle.row_answer.specs.Answers.{answer_text}
use Rattle.row_answer.proofs.write_answer.Goals as goal

pub slice_bounds-numbers-end : goal.slice_bounds-numbers-end
slice_bounds-numbers-end c = let k = c.columns_of-c.ensures in omega (arith, k.few, k.long)

pub slice_bounds-write_columns-end : goal.slice_bounds-write_columns-end
slice_bounds-write_columns-end c =
    let k = c.columns_of-c.ensures in
    rw length-take (omega (arith, k.few, k.long))

pub returns : goal.returns
unfolding answer_text
returns c =
    rw (← c.tells-x.ensures, ← c.columns_of-c.ensures.are)
    (writes-append
    (writes-append (writes-append c.write_number-number.ensures c.write_character-space.ensures) c.write_hex-next.ensures)
    c.write_columns.ensures)
