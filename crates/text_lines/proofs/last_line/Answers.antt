-- `text_lines::last_line` meets its contract, test by test.
use Rattle.lists.specs.Choose.{choose}
use Rattle.text_lines.specs.Lines.{last_of}
use Rattle.text_lines.proofs.last_line.Goals as goal

pub returns-then-h : goal.returns-then-h
unfolding last_of choose
returns-then-h c = rw c.if-h.true

pub returns : goal.returns
unfolding last_of choose
returns c = rw c.if-h.false c.line_as.ensures
