-- `text_hex::nibble` meets its contract, test by test; a hex digit is no less than what is taken from it (hexit).
use borrow.Author.Tests.{lt-ltb, le-ltb}
use Rattle.lists.specs.Choose.{choose}
use Rattle.text_hex.specs.Hex.{nibble_of}
use Rattle.text_hex.specs.HexLaws.{hexit}
use native.Mathlib.Omega.{arith}
use Rattle.text_hex.proofs.nibble.Goals as goal

pub overflow_sub-result : goal.overflow_sub-result
overflow_sub-result c = (hexit c.args.c c.requires).low c.if-c-lt58.true

pub overflow_sub-result-else-c-lt58 : goal.overflow_sub-result-else-c-lt58
overflow_sub-result-else-c-lt58 c = let h = (hexit c.args.c c.requires).letter c.if-c-lt58.false in omega arith

pub returns-then-c-lt58 : goal.returns-then-c-lt58
unfolding nibble_of choose
returns-then-c-lt58 c = rw (lt-ltb _ 58 c.if-c-lt58.true)

pub returns-else-c-lt58 : goal.returns-else-c-lt58
unfolding nibble_of choose
returns-else-c-lt58 c = rw (le-ltb _ 58 c.if-c-lt58.false)
