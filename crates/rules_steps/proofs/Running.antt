-- Every run keeps the laws (Runs.antt): they hold of every table that has its slots, a made table has them, and no call takes one away (Safe.antt of the definition).
use Rattle.std.specs.Prelude.{List, [], ◌∷◌, ℕ, ◌≤◌, leb}
use Rattle.std.proofs.Common.{lit≤, leb-true}
use Rattle.std.proofs.lemmas.Bool.{not-false}
use Rattle.lists.specs.Choose.{if_cases}
use Rattle.lists.specs.Both.{and_left, and_right}
use Rattle.channel.specs.Limits.{slots_most}
use Rattle.definition.specs.Asking.{Made, make}
use Rattle.definition.specs.Calls.{Call}
use Rattle.definition.specs.Run.{State, after, made}
use Rattle.definition.specs.Forms.{Fit}
use Rattle.definition.proofs.Safe.{safe}
use Rattle.rules_steps.proofs.Telling.{every_call_tells}
use Rattle.rules_steps.proofs.Identifiers.{identifiers_used}
use Rattle.rules_steps.proofs.Stepping.{every_step}
use Rattle.rules_steps.specs.Runs.{AllKeep, EveryRunKeeps}

made-fits : (n d m : ℕ) (room : List ℕ) → Fit (make n d m room).table
unfolding make
made-fits n d m room =
    if_cases F _ (λ _. record { fits = lit≤ tt })
    (λ e. if_cases F _ (λ _. record { fits = lit≤ tt }) (λ _. record { fits = leb-true n slots_most (and_left (leb n slots_most) _ (and_right (leb 1 n) _ (not-false _ e))) }))
  where
    F : Made → Type 0
    F o = Fit o.table

run-keeps : (s : State) → Fit s.table → (cs : List Call) → AllKeep s cs
unfolding after
run-keeps s fit [] = tt
run-keeps s fit (c ∷ cs) = (
  record {
    tells = every_call_tells s.table fit c _ _ _ _;
    identifier = identifiers_used s.table fit c _ _ _ _;
    steps = every_step s.table fit c _ _ _ _;
  },
  run-keeps (after s c) (safe s.table fit c _ _ _ _).fit cs,
)

pub every_run_keeps : EveryRunKeeps
every_run_keeps n d m room memory cs = run-keeps (made n d m room memory) (made-fits n d m room) cs
