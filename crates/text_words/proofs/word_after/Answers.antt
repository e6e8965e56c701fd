-- `text_words::word_after` meets its contract, test by test.
use borrow.Author.Tests.{lt-ltb, le-ltb}
use Rattle.lists.specs.Choose.{choose}
use Rattle.text_words.specs.Words.{word_after}
use Rattle.text_words.proofs.word_after.Goals as goal

pub returns-then-end-line : goal.returns-then-end-line
unfolding word_after choose
returns-then-end-line c = rw (lt-ltb _ _ c.if-end-line.true) c.word_at.ensures

pub returns-else-end-line : goal.returns-else-end-line
unfolding word_after choose
returns-else-end-line c = rw (le-ltb _ _ c.if-end-line.false) c.word_at-else-end-line.ensures
