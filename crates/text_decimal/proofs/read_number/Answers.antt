use mathlib.Core.Path.{sym, ◌∙◌}
use borrow.Author.Tests.{lt-ltb, le-ltb}
use Rattle.lists.specs.Choose.{choose}
use Rattle.text_decimal.specs.Decimal.{number_read}
use Rattle.text_decimal.specs.DecimalLaws.{reading_more, reading_fails, reading_all, reading_spelt}
use native.Mathlib.Omega.{arith}
use Rattle.text_decimal.proofs.read_number.Goals as goal

pub returns-then-word-lt1 : goal.returns-then-word-lt1
unfolding number_read choose
returns-then-word-lt1 c = rw (lt-ltb _ 1 c.if-word-lt1.true)

pub returns-then-word-gt5 : goal.returns-then-word-gt5
unfolding number_read choose
returns-then-word-gt5 c = rw (le-ltb _ 1 c.if-word-lt1.false, lt-ltb 5 _ c.if-word-gt5.true)

pub returns-then-not-is_digit : goal.returns-then-not-is_digit
unfolding number_read choose
returns-then-not-is_digit c =
    let r = c.loop-c.invariant in
    rw (le-ltb _ 1 c.if-word-lt1.false, le-ltb 5 _ c.if-word-gt5.false, reading_fails r (sym c.is_digit.ensures ∙ c.if-not-is_digit.true) (omega arith))

pub loop-c-preserved : goal.loop-c-preserved
loop-c-preserved c = reading_more c.loop-c.invariant (sym c.is_digit.ensures ∙ c.if-not-is_digit.false) (omega arith)

pub returns-then-n-gt65535 : goal.returns-then-n-gt65535
unfolding number_read choose
returns-then-n-gt65535 c =
    let r = c.loop-c.invariant in
    rw (le-ltb _ 1 c.if-word-lt1.false, le-ltb 5 _ c.if-word-gt5.false, reading_all r (omega arith), reading_spelt r (omega arith), lt-ltb 65535 _ c.if-n-gt65535.true)

pub returns : goal.returns
unfolding number_read choose
returns c =
    let r = c.loop-c.invariant in
    rw (le-ltb _ 1 c.if-word-lt1.false, le-ltb 5 _ c.if-word-gt5.false, reading_all r (omega arith), reading_spelt r (omega arith), le-ltb 65535 _ c.if-n-gt65535.false)
