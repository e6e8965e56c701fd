-- The tallies in runs of the code: what its calls add, told from the answers that they gave back, is what the table that it leaves has counted. Rests on the theorems over the definition
-- (Theorems.antt) and on the law of runs (crate rules_code).
use Rattle.std.specs.Prelude.{◌≡◌, refl, true, false, List, ℕ, ◌%◌, ◌^◌, ◌<◌}
use Rattle.std.proofs.Common.{sym, ap, ap₂, ◌∙◌, subst, zero-add}
use Rattle.channel.specs.declared.Served.{Served}
use Rattle.channel.specs.declared.Tallies.{Tallies}
use Rattle.definition.specs.Table.{slot_at, no_tallies}
use Rattle.definition.specs.Calls.{Call}
use Rattle.definition.specs.Run.{State}
use Rattle.rules.specs.Run.{AllFit, Reached}
use Rattle.rules_code.proofs.Called.{called-after, called_served}
use Rattle.rules_code.specs.CodeRun.{CodeRun, none, call}
use Rattle.rules_code.proofs.CodeRun.{makes_made, makes_answer, code-run}
use Rattle.rules_code.specs.Rules.{CodeReached}
use Rattle.rules_code.proofs.Rules.{code-reached}
use Rattle.rules_tallies.specs.Statement.{adds, resets, both, added, Unreset, Totals, Since, making, reset}
use Rattle.rules_tallies.proofs.Theorems.{every-run, since_none, since_reached}
use Rattle.rules_tallies.specs.Code.{CodeSince, CodeUnreset, code_added, left, made}

code-added : (i : ℕ) {s s' : State} {cs : List Call} {rs : List Served} (q : CodeRun s cs rs s') → code_added i q ≡ added i s cs
unfolding code_added added
code-added i none = refl
code-added i (call {s} {c = c} {cs = cs} p q) =
    ap₂ both (ap (λ (x : Served). adds s.table i c x.answer) (called_served p)) (code-added i q ∙ ap (λ (u : State). added i u cs) (called-after p))

code_unreset : (i : ℕ) {s s' : State} {cs : List Call} {rs : List Served} (q : CodeRun s cs rs s') → CodeUnreset i q → Unreset i s cs
code_unreset i none u = tt
code_unreset i (call {s} {cs = cs} p q) u =
    (subst (λ (v : State). resets (slot_at s.table i).state (slot_at v.table i).state ≡ false) (called-after p) u.0, subst (λ (v : State). Unreset i v cs) (called-after p) (code_unreset i q u.1))

run_totals : {s s' : State} {cs : List Call} {rs : List Served} → Reached s → (q : CodeRun s cs rs s') → AllFit cs → (i : ℕ) → i < s.table.n → CodeUnreset i q
    → Totals (slot_at s.table i).tallies (code_added i q) (slot_at s'.table i).tallies
run_totals {s} {s'} {cs} r q f i h u =
    subst (λ (a : Tallies). Totals (slot_at s.table i).tallies a (slot_at s'.table i).tallies) (sym (code-added i q))
    (subst (λ (v : State). Totals (slot_at s.table i).tallies (added i s cs) (slot_at v.table i).tallies) (sym (code-run q)) (every-run s r cs f i h (code_unreset i q u)))

-- IN EVERY RUN OF THE CODE, UNTIL A RESET
pub code_every_run : {s s' : State} {cs : List Call} {rs : List Served} → CodeReached s → (q : CodeRun s cs rs s') → AllFit cs → (i : ℕ) → i < s.table.n → CodeUnreset i q
    → Totals (slot_at s.table i).tallies (code_added i q) (slot_at s'.table i).tallies
code_every_run g q = run_totals (code-reached g) q

code_since : {i : ℕ} {s : State} → CodeSince i s → Since i s
code_since {i} (made {n} {d} {m} {room} {memory} f e) = subst (λ (u : State). Since i u) (sym (makes_made f)) (making n d m room memory (sym (makes_answer f) ∙ e))
code_since {i} (left {s} {c = c} g p f h e) =
    subst (λ (u : State). Since i u) (sym (called-after p))
    (reset c (code-reached g) f h (subst (λ (v : State). resets (slot_at s.table i).state (slot_at v.table i).state ≡ true) (called-after p) e))

module _ {i : ℕ} {s s' : State} {cs : List Call} {rs : List Served} (since : CodeSince i s) (q : CodeRun s cs rs s') (fit : AllFit cs) (h : i < s.table.n) (u : CodeUnreset i q) where
  code_totals : Totals no_tallies (code_added i q) (slot_at s'.table i).tallies
  code_totals = subst (λ (y : Tallies). Totals y (code_added i q) (slot_at s'.table i).tallies) (since_none (code_since since)) (run_totals (since_reached (code_since since)) q fit i h u)

  pub code_sent_is_the_sum : (slot_at s'.table i).tallies.sends.frames ≡ (code_added i q).sends.frames % 2 ^ 64
  code_sent_is_the_sum = code_totals.sent ∙ ap (λ (k : ℕ). k % 2 ^ 64) (zero-add _)

  pub code_received_is_the_sum : (slot_at s'.table i).tallies.receives.frames ≡ (code_added i q).receives.frames % 2 ^ 64
  code_received_is_the_sum = code_totals.received ∙ ap (λ (k : ℕ). k % 2 ^ 64) (zero-add _)

  pub code_blocked_sends_are_the_sum : (slot_at s'.table i).tallies.sends.blocked ≡ (code_added i q).sends.blocked % 2 ^ 64
  code_blocked_sends_are_the_sum = code_totals.blocked_sends ∙ ap (λ (k : ℕ). k % 2 ^ 64) (zero-add _)

  pub code_blocked_receives_are_the_sum : (slot_at s'.table i).tallies.receives.blocked ≡ (code_added i q).receives.blocked % 2 ^ 64
  code_blocked_receives_are_the_sum = code_totals.blocked_receives ∙ ap (λ (k : ℕ). k % 2 ^ 64) (zero-add _)
