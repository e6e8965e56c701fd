-- `slot_frame::joining::length_at` meets its contract: the new length at its own place, the old one at every other.
use mathlib.Core.Path.{sym}
use lib.Dec.{eqb}
use borrow.Author.Tests.{eq-eqb, ne_eqb}
use Rattle.lists.specs.Choose.{choose_true, choose_false}
use Rattle.slot_frame.proofs.joining.length_at.Goals as goal

pub returns-then-at-k : goal.returns-then-at-k
returns-then-at-k c = let a = c.args in sym (choose_true (eqb a.at a.k) a.len a.old (eq-eqb a.at a.k c.if-at-k.true))

pub returns-else-at-k : goal.returns-else-at-k
returns-else-at-k c = let a = c.args in sym (choose_false (eqb a.at a.k) a.len a.old (ne_eqb a.at a.k c.if-at-k.false))
