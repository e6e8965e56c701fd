-- The tallies in runs of the code: what its calls add, told from the answers that they gave back, is what the table that it leaves has counted. Rests on the theorems over the definition
-- (Theorems.antt) and on the law of runs (crate rules_code).
use Rattle.std.specs.Prelude.{◌≡◌, true, false, List, ℕ, ◌<◌}
use Rattle.channel.specs.declared.Answer.TheVariants.{Done}
use Rattle.channel.specs.declared.Served.{Served}
use Rattle.channel.specs.declared.Tallies.{Tallies}
use Rattle.definition.specs.Table.{slot_at, no_tallies}
use Rattle.definition.specs.Calls.{Call}
use Rattle.definition.specs.Run.{State}
use Rattle.rules.specs.Run.{Fits}
use Rattle.rules_code.specs.Called.{Called}
use Rattle.rules_code.specs.CodeRun.{Makes, CodeRun, none, call}
use Rattle.rules_code.specs.Rules.{CodeReached}
use Rattle.rules_tallies.specs.Statement.{adds, resets, both}

-- ---- what the calls added, by what they gave back

unfoldable pub code_added : (i : ℕ) {s s' : State} {cs : List Call} {rs : List Served} → CodeRun s cs rs s' → Tallies
code_added i none = no_tallies
code_added i (call {s} {c = c} {r = r} p q) = both (adds s.table i c r.answer) (code_added i q)

-- None of them reset slot i, by the states that the code left.
abbrev pub CodeUnreset : (i : ℕ) {s s' : State} {cs : List Call} {rs : List Served} → CodeRun s cs rs s' → Type 0
CodeUnreset i none = Unit {0}
CodeUnreset i (call {s} {s'} p q) = (resets (slot_at s.table i).state (slot_at s'.table i).state ≡ false) × CodeUnreset i q

-- ---- from a making or a reset on

-- The code made s, or left it by a call that reset slot i.
pub data CodeSince (i : ℕ) : State → Type 0 where
  made : {n d m : ℕ} {room memory : List ℕ} {p : Served} {s : State} → Makes n d m room memory p s → p.answer ≡ Done → CodeSince i s
  left : {s s' : State} {c : Call} {r : Served} → CodeReached s → Called s c r s' → Fits c → i < s.table.n → resets (slot_at s.table i).state (slot_at s'.table i).state ≡ true → CodeSince i s'
