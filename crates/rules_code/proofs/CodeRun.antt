-- Runs of the code: calls of the public functions one after the other, each in the state that the last one left, from a making. They are the
-- runs of the definition: same states, same answers. Rests on the law for one call (Called.antt).
use Rattle.std.specs.Prelude.{◌≡◌, refl, List, [], ◌∷◌, map, ℕ, zero, suc}
use Rattle.std.proofs.Common.{ap, ap₂, ◌∙◌}
use Rattle.channel.specs.declared.Served.{Served}
use Rattle.definition.specs.Asking.{make}
use Rattle.definition.specs.Calls.{Call}
use Rattle.definition.specs.Ending.{End, served_of}
use Rattle.definition.specs.Run.{State, after, made, run, outcomes}
use Rattle.rules_code.proofs.Called.{called-after, called_served, meets}
use Rattle.rules_code.specs.CodeRun.{AllLend, CodeRun, First, Makes, call, makes, none}

pub makes_made : {n d m : ℕ} {room memory : List ℕ} {r : Served} {s : State} → Makes n d m room memory r s → s ≡ made n d m room memory
makes_made {memory = memory} (makes h) = ap (λ (x : End). record { table = x.served.table; room = x.room; memory = memory }) h

pub makes_answer : {n d m : ℕ} {room memory : List ℕ} {r : Served} {s : State} → Makes n d m room memory r s → r.answer ≡ (make n d m room).answer
makes_answer (makes h) = ap (λ (x : End). x.served.answer) h

-- ---- THE LAW, of runs

pub code-run : {s s' : State} {cs : List Call} {rs : List Served} → CodeRun s cs rs s' → s' ≡ run s cs
unfolding run
code-run none = refl
code-run (call {cs = cs} p q) = code-run q ∙ ap (λ (u : State). run u cs) (called-after p)

pub code_served : {s s' : State} {cs : List Call} {rs : List Served} → CodeRun s cs rs s' → rs ≡ map served_of (outcomes s cs)
unfolding outcomes
code_served none = refl
code_served (call {cs = cs} p q) =
    ap₂ (λ (r : Served) (rs : List Served). r ∷ rs) (called_served p) (code_served q ∙ ap (λ (u : State). map served_of (outcomes u cs)) (called-after p))

pub code-first : {s s' : State} {cs : List Call} {rs : List Served} (i : ℕ) → CodeRun s cs rs s' → First i s cs rs
code-first {s} zero q = record { reached = s; calls = none }
code-first {s} (suc i) none = record { reached = s; calls = none }
code-first (suc i) (call p q) = let z = code-first i q in record { reached = z.reached; calls = call p z.calls }

pub code_meets : (s : State) (cs : List Call) → AllLend s cs → CodeRun s cs (map served_of (outcomes s cs)) (run s cs)
unfolding run outcomes
code_meets s [] l = none
code_meets s (c ∷ cs) l = call (meets s c l.0) (code_meets (after s c) cs l.1)
