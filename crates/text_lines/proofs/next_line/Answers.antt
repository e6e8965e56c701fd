-- `text_lines::next_line` meets its contract, test by test.
use borrow.Author.Tests.{lt-ltb, le-ltb}
use Rattle.lists.specs.Choose.{choose}
use Rattle.text_lines.specs.Lines.{next_of, long_as}
use Rattle.text_lines.proofs.next_line.Goals as goal

pub returns-then-skipping : goal.returns-then-skipping
unfolding next_of choose
returns-then-skipping c = rw (← c.find-at.ensures, ← c.least.ensures, lt-ltb _ _ c.if-at-least.true, c.if-skipping.true)

pub returns-then-at-least : goal.returns-then-at-least
unfolding next_of choose
returns-then-at-least c = rw (← c.find-at.ensures, ← c.least.ensures, lt-ltb _ _ c.if-at-least.true, c.if-skipping.false, c.line_as-found.ensures)

pub returns-then-left-buf : goal.returns-then-left-buf
unfolding next_of choose
returns-then-left-buf c = rw (← c.find-at.ensures, ← c.least.ensures, le-ltb _ _ c.if-at-least.false, ← c.left.ensures, lt-ltb _ _ c.if-left-buf.true)

pub returns-then-skipping-2 : goal.returns-then-skipping-2
unfolding next_of choose
returns-then-skipping-2 c = rw (← c.find-at.ensures, ← c.least.ensures, le-ltb _ _ c.if-at-least.false, ← c.left.ensures, le-ltb _ _ c.if-left-buf.false, c.if-skipping-2.true)

pub returns-then-is_note : goal.returns-then-is_note
unfolding next_of long_as choose
returns-then-is_note c = rw (← c.find-at.ensures, ← c.least.ensures, le-ltb _ _ c.if-at-least.false, ← c.text.ensures, ← c.is_note.ensures, ← c.left.ensures, le-ltb _ _ c.if-left-buf.false, c.if-skipping-2.false, c.if-is_note.true)

pub returns : goal.returns
unfolding next_of long_as choose
returns c = rw (← c.find-at.ensures, ← c.least.ensures, le-ltb _ _ c.if-at-least.false, ← c.text.ensures, ← c.is_note.ensures, ← c.left.ensures, le-ltb _ _ c.if-left-buf.false, c.if-skipping-2.false, c.if-is_note.false)
