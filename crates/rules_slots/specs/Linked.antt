-- What a call that names a link answers and does hangs on that link's own slots and the free ones alone, proved in proofs/Linked.antt: a test that such a slot alone
-- can pass is passed by the same slots in both tables (`same_test`), so every search finds the same slot (`found-same`), and that slot is
-- equal in both (`slot-found`). One lemma a call, from the forms in Named.antt.
use Rattle.std.specs.Prelude.{◌≡◌, false, List, ℕ}
use Rattle.std.proofs.Math.Bool.{Bool, true}
use Rattle.channel.specs.declared.Slot.{Slot}
use Rattle.channel.specs.declared.Table.{Table}
use Rattle.definition.specs.Calls.{Holder, nobody, by}
use Rattle.rules_slots.specs.Words.{Free, Of}
use Rattle.rules_slots.specs.Answer.{SameTo}
use Rattle.rules_slots.specs.Named.{beside, Pair}

-- a test that a slot of link l or a free one alone can pass
abbrev pub Own : ℕ → (Slot → Bool) → Type 0
Own l p = (x : Slot) → ¬ Of l x → ¬ Free x → p x ≡ false

-- ---- the calls

-- what is said of slot i of both tables
abbrev pub To : ℕ → ℕ → Slot → Slot → Type 0
To l i x y = SameTo l x y

-- two tables that are the same to link l, the second as the first with other slots
abbrev pub See : ℕ → Table → List Slot → Type 0
See l t ys = Pair (To l) t (beside t ys t.spsms)

-- ---- all calls

abbrev pub has : Holder → Bool
has nobody = false
has (by l) = true

abbrev pub link_in : Holder → ℕ
link_in nobody = 0
link_in (by l) = l
