-- What the calls that end a channel leave on octets. Each is the call's own end (Ending.antt of `definition`), lifted through the two layouts.
use Rattle.std.specs.Prelude.{List, [], ℕ, length}
use Rattle.definition.specs.Closing.{disconnect, disconnect_by_cid, disconnected, next_disconnect}
use Rattle.definition.specs.Ending.{end_of}
use Rattle.edge.specs.Edge.{Edge, on_table}

-- Disconnects a slot.
abbrev pub disconnect_edge : (table answer room : List ℕ) (slot : ℕ) → Edge
disconnect_edge table answer room slot = on_table table answer (λ t. end_of t [] room [] [] (disconnect t (length room) slot))

-- Disconnects the slot of a CID.
abbrev pub disconnect_by_cid_edge : (table answer room : List ℕ) (cid : ℕ) → Edge
disconnect_by_cid_edge table answer room cid = on_table table answer (λ t. end_of t [] room [] [] (disconnect_by_cid t (length room) cid))

-- A link is down.
abbrev pub disconnected_edge : (table answer room : List ℕ) (link : ℕ) → Edge
disconnected_edge table answer room link = on_table table answer (λ t. end_of t [] room [] [] (disconnected t (length room) link))

-- The next disconnect that is due.
abbrev pub next_disconnect_edge : (table answer room signal : List ℕ) → Edge
next_disconnect_edge table answer room signal = on_table table answer (λ t. end_of t [] room signal [] (next_disconnect t (length room) (length signal)))
