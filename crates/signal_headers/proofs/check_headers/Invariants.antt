-- `signal_headers::check_headers` meets its contract: what is left of the PDU checks as the whole does, by the definition's one equation.
use mathlib.Core.Path.{◌≡◌}
use lib.ListN.{length}
use Rattle.signal_headers.specs.Headers.{headers_of}
use Rattle.signal_headers.proofs.check_headers.Given as goal

abbrev pub invariant-loop-t : goal.invariant-loop-t
invariant-loop-t l = headers_of l.pdu ≡ headers_of l.t

abbrev pub decreases-loop-t : goal.decreases-loop-t
decreases-loop-t l = length l.t
