-- `text_lines::own_length` meets its contract: the last octet, where there is one, is tested.
use native.Mathlib.Omega.{arith}
use lib.ListN.{length-take}
use borrow.Author.Tests.{ne_eqb}
use Rattle.lists.specs.Choose.{choose}
use Rattle.text_lines.specs.Lines.{own_of}
use Rattle.text_lines.proofs.own_length.Goals as goal

pub returns-then-octet-eq13 : goal.returns-then-octet-eq13
unfolding own_of choose
returns-then-octet-eq13 c = rw (← c.left-last.ensures, ← c.octet.ensures, c.if-octet-eq13.true, length-take) (omega (arith, c.left-last.ensures))

pub returns : goal.returns
unfolding own_of choose
returns c = rw (← c.left-last.ensures, ← c.octet.ensures, ne_eqb _ 13 c.if-octet-eq13.false)
