-- DEMAND 3 of runs of the code: its words (isolation, Statement.antt), of the states that the code leaves and of what it gives back.
-- Rests on the proof over the definition and on the law of runs (CodeRun.antt).
use Rattle.std.specs.Prelude.{◌≡◌, List, ℕ, take}
use Rattle.channel.specs.declared.Served.{Served}
use Rattle.definition.specs.Calls.{Call}
use Rattle.definition.specs.Run.{State}
use Rattle.isolation.specs.Statement.{marks_of, Isolated, handed}
use Rattle.rules_code.specs.CodeRun.{CodeRun}

-- What is the same in two runs of the code, from a and from b: what every call gives back (answer, table, number of octets), what it hands
-- out, every signal among it; and after every number i of calls nothing in any memory tells the two apart, but for that link's own jobs and frames.
pub record CodeIsolated (k j : ℕ) (a b : State) (cs ds : List Call) (rs qs : List Served) : Type 0 where
  pub served : rs ≡ qs
  pub handing : handed k a cs ≡ handed k b ds
  pub states : (i : ℕ) {a' b' : State} {rs' qs' : List Served} → CodeRun a (take i cs) rs' a' → CodeRun b (take i ds) qs' b' → Isolated k j (marks_of k j a (take i cs)) a' b'
