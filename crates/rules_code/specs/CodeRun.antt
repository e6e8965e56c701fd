-- Runs of the code: calls of the public functions one after the other, each in the state that the last one left, from a making. They are the
-- runs of the definition: same states, same answers. Rests on the law for one call (Called.antt).
use Rattle.std.specs.Prelude.{◌≡◌, List, [], ◌∷◌, ℕ, take}
use Rattle.channel.specs.declared.Served.{Served}
use Rattle.definition.specs.Asking.{make}
use Rattle.definition.specs.Calls.{Call}
use Rattle.definition.specs.Ending.{end, end_made}
use Rattle.definition.specs.Run.{State, after}
use Rattle.rules_code.specs.Called.{Lends, Called}

-- ---- the making: the table that `make` gave back, the room that it left, and a memory of the caller's

pub data Makes (n d m : ℕ) (room memory : List ℕ) (r : Served) : State → Type 0 where
  makes : {room' : List ℕ} → end r room' [] [] ≡ end_made (make n d m room) → Makes n d m room memory r (record { table = r.table; room = room'; memory = memory })

-- ---- the calls: from state s to state s', and what each gave back

pub data CodeRun : State → List Call → List Served → State → Type 0 where
  none : {s : State} → CodeRun s [] [] s
  call : {s s' s'' : State} {c : Call} {cs : List Call} {r : Served} {rs : List Served} → Called s c r s' → CodeRun s' cs rs s'' → CodeRun s (c ∷ cs) (r ∷ rs) s''

-- ---- its first i calls are one too

pub record First (i : ℕ) (s : State) (cs : List Call) (rs : List Served) : Type 0 where
  pub reached : State
  pub calls : CodeRun s (take i cs) (take i rs) reached

-- ---- and every run whose calls are lent what safe code can lend is one: what the definition has meets every contract

abbrev pub AllLend : State → List Call → Type 0
AllLend s [] = Unit {0}
AllLend s (c ∷ cs) = Lends s c × AllLend (after s c) cs
