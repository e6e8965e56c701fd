-- What the signal call leaves on octets: the call's own end (Ending.antt of `definition`), lifted through the two layouts.
use Rattle.std.specs.Prelude.{List, [], ℕ, length}
use Rattle.definition.specs.Ending.{end_of}
use Rattle.definition.specs.Signals.{signalled}
use Rattle.edge.specs.Edge.{Edge, on_table, flag}

-- The first signal of a PDU.
abbrev pub signal_edge : (table answer room signal : List ℕ) (link listening central : ℕ) (pdu : List ℕ) → Edge
signal_edge table answer room signal link listening central pdu = on_table table answer (λ t. end_of t [] room signal [] (signalled t (length room) (length signal) link (flag listening) (flag central) pdu))
