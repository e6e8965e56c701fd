-- A take that has passed the first refusals: what the definition has for the table is the work on its slot (Taking.antt), put into the table.
use Rattle.std.specs.Prelude.{◌≡◌, refl, Bool, ℕ, eqb, ltb, length, None, Option, Some}
use Rattle.std.proofs.Math.Path.{ap}
use Rattle.std.proofs.Common.{◌∙◌}
use Rattle.std.proofs.Math.Bool.{true, false}
use mathlib.Core.List.{List, [], ◌∷◌}
use Rattle.lists.specs.Choose.{choose, if_cases}
use Rattle.codes.specs.declared.Refusal.TheVariants.{ChannelClosed, InsufficientSpace}
use Rattle.signal_forms.specs.declared.Signal.TheVariants as Signal
use Rattle.signal_write.specs.Writer.{encode_of}
use Rattle.channel.specs.declared.Answer.TheVariants.{Done, Refused}
use Rattle.channel.specs.declared.Served.{Served}
use Rattle.channel.specs.declared.Slot.{Slot}
use Rattle.channel.specs.declared.Table.{Table}
use Rattle.definition.specs.Mem.{given, size, sizes}
use Rattle.definition.specs.Table.{width, slot_at, put_slot, next_id, with_account, with_queue}
use Rattle.definition.specs.Outcome.{Outcome, refuse, done}
use Rattle.definition.specs.Ending.{end, end_of, gave}
use Rattle.definition.specs.Frames.{oldest, crediting, grant_in, closed, taken, taken_on}
use Rattle.slot_work.specs.declared.Worked.{Worked}
use Rattle.slot_work.specs.Work.{end_kept}
use Rattle.slot_take.specs.Taking.{Take, keeps, granted_of, take_of, table_then, take_in, Took}

-- a grant's signal has octets, so an identifier is used
signal-long : (id s n : ℕ) → eqb (sizes (given (encode_of id (Signal.LeCreditFlowInd (crediting s n))) ∷ [])) 0 ≡ false
unfolding sizes size encode_of
signal-long id s n = refl

granted_in : (t : Table) (s : ℕ) (x : Slot) (g : Option ℕ) → take_in t s (granted_of t.d t.m s (next_id t) x g) ≡ taken t s x g
unfolding granted_of taken sizes choose
granted_in t s x None = refl
granted_in t s x (Some n) = rw (signal-long (next_id t) s n)

-- the slot's tests are the table's, in the same order; a slot that stays leaves its table
module _ (t : Table) (s : ℕ) (room out job : List ℕ) where
  tests : (b c d : Bool) (k : Take) (o : Outcome) → take_in t s k ≡ o
      → end_of t [] room out job (take_in t s (choose b (keeps (slot_at t s) (Refused ChannelClosed)) (choose c (keeps (slot_at t s) Done) (choose d (keeps (slot_at t s) (Refused InsufficientSpace)) k))))
      ≡ end_of t [] room out job (choose b (refuse t ChannelClosed) (choose c (done t) (choose d (refuse t InsufficientSpace) o)))
  unfolding choose sizes
  tests true c d k o h = end_kept t s (Refused ChannelClosed) [] room out job
  tests false true d k o h = end_kept t s Done [] room out job
  tests false false true k o h = end_kept t s (Refused InsufficientSpace) [] room out job
  tests false false false k o h = ap (end_of t [] room out job) h

  -- The definition's `taken_on` is the slot's work, put into the table, the room and the buffers.
  pub take_in_lem : end_of t [] room out job (take_in t s (take_of t.d t.m s (next_id t) (slot_at t s) (length job))) ≡ end_of t [] room out job (taken_on t s (length job))
  unfolding take_of
  take_in_lem =
      let x = slot_at t s in
      tests (closed x.state) (eqb x.queue.count 0) (ltb (length job) (oldest x)) _ _ (granted_in t s x (grant_in x))

-- ---- by which a call's proof reads it: the slot put into the table, which has used an identifier where a signal was written

put_in : (t : Table) (s : ℕ) (k : Take) (room out job : List ℕ) {r : Worked} {v : Served} {room' out' job' : List ℕ}
    → v ≡ gave r.answer (put_slot (table_then t r.octets) s r.slot) r.octets → Took (width t) s k room out job r room' out' job'
    → end v room' out' job' ≡ end_of t [] room out job (take_in t s k)
unfolding end_of
put_in t s k room out job p h = rw (p, h.gave, h.moved, h.told, h.handed)

pub takes_in : (t : Table) (s : ℕ) {x : Slot} {id : ℕ} (room out job : List ℕ) {r : Worked} {v : Served} {room' out' job' : List ℕ} → x ≡ slot_at t s → id ≡ next_id t
    → v ≡ gave r.answer (put_slot (table_then t r.octets) s r.slot) r.octets
    → Took (width t) s (take_of t.d t.m s id x (length job)) room out job r room' out' job'
    → end v room' out' job' ≡ end_of t [] room out job (taken_on t s (length job))
takes_in t s room out job e i p h = put_in t s (take_of t.d t.m s (next_id t) (slot_at t s) (length job)) room out job p (rw (e, i) at h) ∙ take_in_lem t s room out job

-- ---- of a slot a take changes account and queue alone

abbrev Alone : Slot → Take → Type 0
Alone x k = k.work.slot ≡ with_queue k.work.slot.queue (with_account k.work.slot.account x)

granted-alone : (d m s id : ℕ) (x : Slot) (g : Option ℕ) → Alone x (granted_of d m s id x g)
unfolding granted_of
granted-alone d m s id x None = refl
granted-alone d m s id x (Some n) = refl

pub take-alone : (d m s id : ℕ) (x : Slot) (size : ℕ) → Alone x (take_of d m s id x size)
unfolding take_of
take-alone d m s id x size =
    if_cases (Alone x) (closed x.state) (λ _. refl) λ _. if_cases (Alone x) (eqb x.queue.count 0) (λ _. refl) λ _.
    if_cases (Alone x) (ltb size (oldest x)) (λ _. refl) λ _. granted-alone d m s id x (grant_in x)
