-- What the two calls that hold a channel leave on octets. Each is the call's own end (Ending.antt of `definition`), lifted through the two layouts.
use Rattle.std.specs.Prelude.{List, [], ℕ, length}
use Rattle.definition.specs.Closing.{inc_ref, dec_ref}
use Rattle.definition.specs.Ending.{served_of, end_of}
use Rattle.edge.specs.Edge.{Edge, on_table, alone}

-- One hold more.
abbrev pub inc_ref_edge : (table answer : List ℕ) (slot : ℕ) → Edge
inc_ref_edge table answer slot = on_table table answer (λ t. alone (served_of (inc_ref t slot)))

-- One hold less.
abbrev pub dec_ref_edge : (table answer room : List ℕ) (slot : ℕ) → Edge
dec_ref_edge table answer room slot = on_table table answer (λ t. end_of t [] room [] [] (dec_ref t (length room) slot))
