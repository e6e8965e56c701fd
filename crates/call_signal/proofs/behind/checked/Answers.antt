-- `call_signal::behind::checked` meets its contract: what the check of the headers finds tells which case of the definition it is.
use Rattle.std.specs.Prelude.{◌≡◌, Err}
use mathlib.Core.Path.{sym, ap, ◌∙◌}
use mathlib.Core.List.{[]}
use borrow.Author.Tests.{eq-eqb, ne_eqb}
use Rattle.lists.specs.Choose.{choose}
use Rattle.signal_headers.specs.declared.BadHeader.TheVariants as BadHeader
use Rattle.definition.specs.Mem.{sizes}
use Rattle.definition.proofs.Ending.{end-still}
use Rattle.definition.specs.Signals.{checked}
use Rattle.call_signal.proofs.behind.checked.Goals as goal

pub returns-then-pdu-eq0 : goal.returns-then-pdu-eq0
unfolding choose sizes checked
returns-then-pdu-eq0 c =
    rw (
      ← c.check_headers.ensures,
      c.in-Ok.is,
      eq-eqb _ _ c.if-pdu-eq0.true,
      c.done.ensures,
    ) (sym (end-still _ _ _ _ _ _ _))

pub returns-in-Err-Cut : goal.returns-in-Err-Cut
unfolding choose sizes checked
returns-in-Err-Cut c =
    let bad : c.in-Err-Cut.field-0 ≡ BadHeader.Cut = c.in-Err-Cut.field-0-is in
    rw (← c.check_headers.ensures, c.in-Err-Cut.is ∙ ap Err bad, c.refused.ensures) (sym (end-still _ _ _ _ _ _ _))

pub returns-in-Err-Past : goal.returns-in-Err-Past
unfolding choose sizes checked
returns-in-Err-Past c =
    let bad : c.in-Err-Past.field-0 ≡ BadHeader.Past c.in-Err-Past.id = c.in-Err-Past.field-0-is in
    rw (← c.check_headers.ensures, c.in-Err-Past.is ∙ ap Err bad) (c.reject.ensures _ _ [])

pub returns-else-pdu-eq0 : goal.returns-else-pdu-eq0
unfolding choose sizes checked
returns-else-pdu-eq0 c =
    rw (
      ← c.check_headers.ensures,
      c.in-Ok.is,
      ne_eqb _ _ c.if-pdu-eq0.false,
      ← c.octet-code.ensures,
      ← c.octet-id.ensures,
      ← c.body-body.ensures,
    ) c.handled.ensures
