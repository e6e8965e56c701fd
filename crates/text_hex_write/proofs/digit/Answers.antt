-- `text_hex_write::digit` meets its contract, test by test.
use borrow.Author.Tests.{lt-ltb, le-ltb}
use Rattle.lists.specs.Choose.{choose}
use Rattle.text_hex_write.specs.HexText.{digit_of}
use Rattle.text_hex_write.proofs.digit.Goals as goal

pub returns-then-n-lt10 : goal.returns-then-n-lt10
unfolding digit_of choose
returns-then-n-lt10 c = rw (lt-ltb _ 10 c.if-n-lt10.true)

pub returns-else-n-lt10 : goal.returns-else-n-lt10
unfolding digit_of choose
returns-else-n-lt10 c = rw (le-ltb _ 10 c.if-n-lt10.false)
