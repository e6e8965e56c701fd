-- `text_words::word_at` meets its contract: `find` gives the end.
use Rattle.text_words.proofs.word_at.Goals as goal

pub returns : goal.returns
returns c = rw c.find.ensures
