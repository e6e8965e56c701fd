-- What the calls of our own attempts leave on octets. Each is the call's own end (Ending.antt of `definition`), lifted through the two layouts.
use Rattle.std.specs.Prelude.{List, [], ℕ, length}
use Rattle.definition.specs.Ending.{end_of}
use Rattle.definition.specs.Opening.{create, opened, give_up}
use Rattle.edge.specs.Edge.{Edge, on_table, flag, config_of}

-- Asks the peer for a channel.
abbrev pub create_edge : (table answer signal : List ℕ) (link spsm mtu mps kind value credits : ℕ) → Edge
create_edge table answer signal link spsm mtu mps kind value credits = on_table table answer (λ t. end_of t [] [] signal [] (create t (length signal) link spsm (config_of mtu mps kind value credits)))

-- Is the channel of a slot open?
abbrev pub opened_edge : (table answer room : List ℕ) (slot link up : ℕ) → Edge
opened_edge table answer room slot link up = on_table table answer (λ t. end_of t [] room [] [] (opened t (length room) slot link (flag up)))

-- Gives up an attempt.
abbrev pub give_up_edge : (table answer room : List ℕ) (slot : ℕ) → Edge
give_up_edge table answer room slot = on_table table answer (λ t. end_of t [] room [] [] (give_up t (length room) slot))
