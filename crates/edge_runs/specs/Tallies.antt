-- The tallies, at the octets: a run of entries is a run of the definition (`entries-state`), so what its rules say of the tallies holds of the octets (rules_tallies, Statement.antt).
use Rattle.std.specs.Prelude.{List, map}
use Rattle.definition.specs.Calls.{Call}
use Rattle.edge_runs.specs.Run.{Asked, call_in}

-- ---- a run of entries

abbrev pub calls_in : List Asked → List Call
calls_in es = map call_in es
