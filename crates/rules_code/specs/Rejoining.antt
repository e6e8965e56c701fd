-- Exact rejoining of runs of the code, from the frames that a send leaves in the caller's memory to the SDU that a take leaves there, whole. Rests on
-- exact rejoining over the definition's runs (crate rules_jobs) and on the law for one call (Called.antt).
use Rattle.std.specs.Prelude.{◌≡◌, List, [], ◌∷◌, ℕ, suc, ◌≤◌}
use Rattle.channel.specs.declared.Served.{Served}
use Rattle.definition.specs.Table.{slot_at}
use Rattle.definition.specs.Calls.{Window, Call}
use Rattle.definition.specs.Run.{State}
use Rattle.definition.specs.Numbers.{answer_number}
use Rattle.rules.specs.Run.{Fits}
use Rattle.rules_jobs.specs.Rejoin.{framing, Unchanged}
use Rattle.rules_jobs.specs.Taking.{taking}
use Rattle.rules_code.specs.Called.{Called}

-- ---- the frames, as they come to the code

-- From state s to state s' the code is called with these payloads, in this order, as frames for slot i on its link; and with other calls, that
-- leave the slot unchanged, but for its tallies.
pub data CodeArrives (i link : ℕ) : List (List ℕ) → State → State → Type 0 where
  all : {s : State} → CodeArrives i link [] s s
  between : {ps : List (List ℕ)} {s u s' : State} {c : Call} {r : Served} → Called s c r u → Fits c → Unchanged s u i → CodeArrives i link ps u s' → CodeArrives i link ps s s'
  comes : {ps : List (List ℕ)} {s u s' : State} {p : List ℕ} {r : Served} → Called s (framing link i p) r u → CodeArrives i link ps u s' → CodeArrives i link (p ∷ ps) s s'

-- ---- WHAT WAS SENT IS WHAT COMES OUT

-- From s to s' the code is called with n takes from slot i that are not refused; and with other calls, whatever they do, after which no fewer jobs wait there.
pub data CodeHandsOut (i : ℕ) : ℕ → State → State → Type 0 where
  all : {s : State} → CodeHandsOut i 0 s s
  between : {n : ℕ} {s u s' : State} {c : Call} {r : Served} → Called s c r u → Fits c → (slot_at s.table i).queue.count ≤ (slot_at u.table i).queue.count → CodeHandsOut i n u s'
      → CodeHandsOut i n s s'
  handed : {n : ℕ} {s u s' : State} {r : Served} (w v : Window) → Called s (taking i w v) r u → answer_number r.answer ≡ 0 → CodeHandsOut i n u s' → CodeHandsOut i (suc n) s s'
