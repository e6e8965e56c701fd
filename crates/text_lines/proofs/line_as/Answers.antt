-- `text_lines::line_as` meets its contract, test by test.
use mathlib.Core.Path.{ap, ◌∙◌}
use Prim.Native.Nat.{◌-◌}
use native.Mathlib.Omega.{arith}
use lib.ListN.{length}
use borrow.Author.Tests.{ne_eqb}
use Rattle.lists.specs.Choose.{choose}
use Rattle.text_lines.specs.Lines.{own_of, asked}
use Rattle.text_lines.specs.LineLaws.{own_within}
use borrow.Author.Rules.{rules}
use Rattle.text_lines.proofs.line_as.Goals as goal

pub returns-then-n-eq0 : goal.returns-then-n-eq0
unfolding asked choose
returns-then-n-eq0 c = rw (← c.text-line.ensures, ← c.own_length-n.ensures, c.if-n-eq0.true)

pub returns-then-is_note : goal.returns-then-is_note
unfolding asked choose
returns-then-is_note c = rw (← c.text-line.ensures, ← c.own_length-n.ensures, ne_eqb _ 0 c.if-n-eq0.false, ← c.is_note.ensures, c.if-is_note.true)

pub overflow_add-result : goal.overflow_add-result
overflow_add-result c =
    let args = c.args in
    let n = c.own_length-n.ensures ∙ ap (λ l. length (own_of l)) c.text-line.ensures in
    let some = c.if-n-eq0.false in
    let h = own_within args.buf.now args.start (args.end - args.start) (omega arith) in
    search rules

pub returns : goal.returns
unfolding asked choose
returns c = rw (← c.text-line.ensures, ← c.own_length-n.ensures, ne_eqb _ 0 c.if-n-eq0.false, ← c.is_note.ensures, c.if-is_note.false)
