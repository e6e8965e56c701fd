-- Which PDUs begin with a good credit signal.
use Rattle.std.specs.Prelude.{not, List, ℕ, eqb, get_or, None, Option, Result, Ok, Err}
use Rattle.signal_headers.specs.Headers.{headers_of, body_in}
use Rattle.signal_headers.specs.declared.BadHeader.{BadHeader}
use Rattle.signal_bodies.specs.LeCreditBodies.{le_credit_flow_ind}
use Rattle.definition.specs.Table.{when◌then◌else◌}
use Rattle.signal_forms.specs.declared.LeCreditFlowInd.{LeCreditFlowInd}

-- the credits that the PDU's first signal gives, where every header is good, its code is 0x16 and its body is one
abbrev pub behind_headers : (pdu : List ℕ) → Result (Unit {0}) BadHeader → Option LeCreditFlowInd
behind_headers pdu (Ok tt) = le_credit_flow_ind (body_in pdu)
behind_headers pdu (Err e) = None

unfoldable pub credits_in : (pdu : List ℕ) → Option LeCreditFlowInd
credits_in pdu = when not (eqb (get_or pdu 0 0) 0x16) then None else behind_headers pdu (headers_of pdu)
