-- `signal_headers::rest` meets its contract: what `check_headers` answers tells which case of `rest_if` it is.
use Rattle.std.specs.Prelude.{Result}
use mathlib.Core.Path.{sym, ap, ◌∙◌}
use native.Mathlib.Omega.{arith}
use lib.ListN.{drop_of_length-le}
use Rattle.octets.specs.Sets.{tail-part}
use Rattle.signal_headers.specs.declared.BadHeader.{BadHeader}
use Rattle.signal_headers.specs.Headers.{rest_if, size_of}
use Rattle.signal_headers.proofs.rest.Goals as goal

pub returns-then-pdu-n : goal.returns-then-pdu-n
returns-then-pdu-n c =
    let s = c.args.pdu.now in
    sym (drop_of_length-le s {i = size_of s} (omega (arith, c.number-n.ensures, c.if-pdu-n.true)))
    ∙ ap (λ (k : Result (Unit {0}) BadHeader). rest_if k s) (sym c.in-Ok.is ∙ c.check_headers.ensures)

pub returns-else-pdu-n : goal.returns-else-pdu-n
returns-else-pdu-n c =
    let s = c.args.pdu.now in
    rw (c.number-n.ensures, tail-part) (ap (λ (k : Result (Unit {0}) BadHeader). rest_if k s) (sym c.in-Ok.is ∙ c.check_headers.ensures))

pub returns-in-Err : goal.returns-in-Err
returns-in-Err c =
    ap (λ (k : Result (Unit {0}) BadHeader). rest_if k c.args.pdu.now) (sym c.in-Err.is ∙ c.check_headers.ensures)
