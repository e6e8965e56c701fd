-- The rules of runs of the code: what rules/specs says of every state that a run reaches, of every state that the code leaves and of what it
-- gives back. Rests on those rules and on the law of runs (CodeRun.antt).
use Rattle.std.specs.Prelude.{◌≡◌, true, List, ℕ}
use Rattle.channel.specs.declared.Answer.TheVariants.{Done}
use Rattle.channel.specs.declared.Served.{Served}
use Rattle.definition.specs.Table.{slot_at}
use Rattle.definition.specs.Calls.{Call}
use Rattle.definition.specs.Run.{State}
use Rattle.rules.specs.Run.{AllFit}
use Rattle.rules.specs.Rules.{lasts}
use Rattle.rules_code.specs.CodeRun.{Makes, CodeRun, none, call}

-- The code reached s: `make` answered 0, and calls of the public functions followed, whose credits are numbers of 16 bits.
pub data CodeReached : State → Type 0 where
  reached : {n d m : ℕ} {room memory : List ℕ} {p : Served} {a s : State} {cs : List Call} {rs : List Served}
      → Makes n d m room memory p a → p.answer ≡ Done → CodeRun a cs rs s → AllFit cs → CodeReached s

-- ---- "Credits held plus received always equals the initial credits"

-- The connection in slot i lasts in every state that these calls left.
abbrev pub CodeLasts : (i : ℕ) {s s' : State} {cs : List Call} {rs : List Served} → CodeRun s cs rs s' → Type 0
CodeLasts i (none {s}) = lasts (slot_at s.table i).state ≡ true
CodeLasts i (call {s} p q) = (lasts (slot_at s.table i).state ≡ true) × CodeLasts i q
