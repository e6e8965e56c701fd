-- What the calls of connections that the peer asks for leave on octets. Each is the call's own end (Ending.antt of `definition`), lifted through the
-- two layouts.
use Rattle.std.specs.Prelude.{List, [], ℕ, length}
use Rattle.definition.specs.Ending.{served_of, end_of}
use Rattle.definition.specs.Pending.{next_pending, reject_all_pending, accept_pending, reject_numbered, drop_pending}
use Rattle.edge.specs.Edge.{Edge, on_table, alone, flag, config_of}

-- The lowest pending of a link; up: is the link up?
abbrev pub next_pending_edge : (table answer : List ℕ) (link up : ℕ) → Edge
next_pending_edge table answer link up = on_table table answer (λ t. alone (served_of (next_pending t link (flag up))))

-- Accepts the pending of a slot.
abbrev pub accept_pending_edge : (table answer signal : List ℕ) (slot mtu mps kind value credits : ℕ) → Edge
accept_pending_edge table answer signal slot mtu mps kind value credits = on_table table answer (λ t. end_of t [] [] signal [] (accept_pending t (length signal) slot (config_of mtu mps kind value credits)))

-- Rejects the pending of a slot with a result code; a number that is none is refusal 15.
abbrev pub reject_pending_edge : (table answer room signal : List ℕ) (slot result : ℕ) → Edge
reject_pending_edge table answer room signal slot result = on_table table answer (λ t. end_of t [] room signal [] (reject_numbered t (length room) (length signal) slot result))

-- Rejects the lowest pending of a link that nobody holds.
abbrev pub reject_all_pending_edge : (table answer room signal : List ℕ) (link : ℕ) → Edge
reject_all_pending_edge table answer room signal link = on_table table answer (λ t. end_of t [] room signal [] (reject_all_pending t (length room) (length signal) link))

-- Drops the pending of a slot.
abbrev pub drop_pending_edge : (table answer room : List ℕ) (slot : ℕ) → Edge
drop_pending_edge table answer room slot = on_table table answer (λ t. end_of t [] room [] [] (drop_pending t (length room) slot))
