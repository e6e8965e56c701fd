-- The slots that an outcome leaves as they are: what is shown of each form that an outcome has (Outcome.antt of crate definition), and what
-- that says of the room. `May` are the slots that may change.
use Rattle.std.specs.Prelude.{◌≡◌, Bool, true, false, drop, get_or, Err, Ok, Option, Result, Some}
use Rattle.std.proofs.Math.Path.{refl, sym, ap}
use Rattle.std.proofs.Common.{◌∙◌, subst, suc-mul, add_comm, zero-mul, arith, drop-drop, get_or-set_other, leb-false}
use mathlib.Core.List.{List, [], ◌∷◌, ◌++◌, map}
use Prim.Native.Nat.{ℕ, zero, suc, ◌+◌, ◌*◌, ◌<◌}
use Rattle.std.proofs.Math.ListN.{take}
use Rattle.lists.specs.Choose.{choose, if_cases}
use Rattle.lists.specs.Each.{map_first}
use Rattle.lists.specs.Both.{false_unless}
use Rattle.lists.specs.Sets.{take_split, drop_split}
use Rattle.channel.specs.declared.Answer.{Answer}
use Rattle.channel.specs.declared.Slot.{Slot}
use Rattle.channel.specs.declared.Table.{Table}
use Rattle.definition.specs.Mem.{Fill, Move, wipe, moves, parts}
use Rattle.definition.specs.Table.{gap, freed, slot_at, spent}
use Rattle.definition.specs.Outcome.{Outcome, still, only, change, filling, sweep, verdict, passed, gate}
use Rattle.definition.specs.Ending.{itself}
use Rattle.definition.proofs.Forms.{pass_slot}
use Rattle.definition.proofs.Lengths.{length-moves, length-parts}
use Rattle.rules_slots.specs.Kept.{Keeps, Like}
use Rattle.codes.specs.declared.Refusal.{Refusal}

pub as_is : {t : Table} → Like t t
as_is = record { slots = refl; n = refl; d = refl; m = refl; spsms = refl }

pub with-id : {t : Table} → Like t (spent t)
with-id = record { slots = refl; n = refl; d = refl; m = refl; spsms = refl }

only_other : (s i : ℕ) (ms : List Move) → ¬ (i ≡ s) → get_or (only s ms) i [] ≡ []
unfolding only
only_other zero zero ms h = absurd (h refl)
only_other zero (suc i) ms h = refl
only_other (suc s) zero ms h = refl
only_other (suc s) (suc i) ms h = only_other s i ms (λ e. h (ap suc e))

-- a slot that is not swept, in a list of n
swept_slot : (n i : ℕ) (p : Slot → Bool) (xs : List Slot) → (i < n → p (get_or xs i gap) ≡ false)
    → get_or (map_first n (λ x. choose (p x) (freed x) x) xs) i gap ≡ get_or xs i gap
unfolding choose
swept_slot zero i p xs h = refl
swept_slot (suc n) i p [] h = refl
swept_slot (suc n) zero p (x ∷ xs) h = ap (λ (b : Bool). choose b (freed x) x) (h (omega arith))
swept_slot (suc n) (suc i) p (x ∷ xs) h = swept_slot n i p xs (λ l. h (omega arith))

swept_moves : (n i : ℕ) (p : Slot → Bool) (xs : List Slot) → (i < n → p (get_or xs i gap) ≡ false)
    → get_or (map (λ x. choose {A = List Move} (p x) (wipe ∷ []) []) (take n xs)) i [] ≡ []
unfolding choose
swept_moves zero i p xs h = refl
swept_moves (suc n) i p [] h = refl
swept_moves (suc n) zero p (x ∷ xs) h = ap (λ (b : Bool). choose {A = List Move} b (wipe ∷ []) []) (h (omega arith))
swept_moves (suc n) (suc i) p (x ∷ xs) h = swept_moves n i p xs (λ l. h (omega arith))

pub fails : {Q : Type 0} (b : Bool) → (b ≡ true → Q) → ¬ Q → b ≡ false
fails b f off = false_unless b (λ e. off (f e))

other : (May : ℕ → Type 0) {s i : ℕ} → May s → ¬ May i → ¬ (i ≡ s)
other May h off e = off (subst May (sym e) h)

module _ {May : ℕ → Type 0} {Reg : Type 0} {t : Table} where
  pub still-keeps : {t' : Table} {a : Answer} {out : List Fill} → Like t t' → Keeps May Reg t (still t' a out)
  still-keeps q =
      record {
        slot = λ i _. ap (λ (xs : List Slot). get_or xs i gap) q.slots;
        moves = λ i _. refl;
        n = q.n;
        d = q.d;
        m = q.m;
        spsms = λ _. q.spsms;
      }

  pub change-keeps : {t' : Table} (s : ℕ) (y : Slot) (ms : List Move) {a : Answer} {out : List Fill} → Like t t' → May s → Keeps May Reg t (change t' s y ms a out)
  change-keeps {t'} s y ms q h =
      record {
        slot = λ i off. get_or-set_other t'.slots s i y gap (other May h off) ∙ ap (λ (xs : List Slot). get_or xs i gap) q.slots;
        moves = λ i off. only_other s i ms (other May h off);
        n = q.n;
        d = q.d;
        m = q.m;
        spsms = λ _. q.spsms;
      }

  -- a job's frame buffer filled: of the room nothing moves
  pub filling-keeps : (s : ℕ) (y : Slot) {a : Answer} {at octets : ℕ} {out : List Fill} → May s → Keeps May Reg t (filling t s y a at out octets)
  filling-keeps s y {a} {out = out} h =
      let k : Keeps May Reg t (change t s y [] a out) = change-keeps s y [] as_is h in
      record { slot = k.slot; moves = k.moves; n = k.n; d = k.d; m = k.m; spsms = k.spsms }

  pub sweep-keeps : (p : Slot → Bool) {a : Answer} → ((i : ℕ) → i < t.n → p (slot_at t i) ≡ true → May i) → Keeps May Reg t (sweep t p a)
  sweep-keeps p may =
      record {
        slot = λ i off. swept_slot t.n i p t.slots (λ h. fails _ (may i h) off);
        moves = λ i off. swept_moves t.n i p t.slots (λ h. fails _ (may i h) off);
        n = refl;
        d = refl;
        m = refl;
        spsms = λ _. refl;
      }

  pub if_keeps : {b : Bool} {x y : Outcome} → (b ≡ true → Keeps May Reg t x) → (b ≡ false → Keeps May Reg t y) → Keeps May Reg t (choose b x y)
  if_keeps {b} f g = if_cases (Keeps May Reg t) b f g

  -- a refusal, or an answer that changes no slot; or else
  pub else_keeps : {b : Bool} (t' : Table) (a : Answer) (out : List Fill) {y : Outcome} → Like t t' → (b ≡ false → Keeps May Reg t y) → Keeps May Reg t (choose b (still t' a out) y)
  else_keeps t' a out q g = if_keeps (λ _. still-keeps q) g

  passed-keeps : (v : Result (Unit {0}) Refusal) {o : Outcome} → (v ≡ Ok tt → Keeps May Reg t o) → Keeps May Reg t (passed t v o)
  passed-keeps (Ok tt) f = f refl
  passed-keeps (Err r) f = still-keeps as_is

  pub gate-keeps : (room signal link slot : Option ℕ) {o : Outcome} → Keeps May Reg t o → Keeps May Reg t (gate t room signal link slot o)
  gate-keeps room signal link slot f = passed-keeps (verdict t room signal link slot) (λ _. f)

  pub gate-at : (room signal link : Option ℕ) (s : ℕ) {o : Outcome} → (s < t.n → Keeps May Reg t o) → Keeps May Reg t (gate t room signal link (Some s) o)
  gate-at room signal link s f = passed-keeps (verdict t room signal link (Some s)) (λ v. f (leb-false t.n s (pass_slot t room signal link s v)))

-- ---- what no moves in a slot's part say of the room

module _ (js : List ℕ) where
  next-part : (w i : ℕ) (l : List ℕ) → take w (drop (i * w) (drop w l)) ≡ take w (drop (suc i * w) l)
  next-part w i l = ap (take w) (drop-drop (i * w) w l ∙ ap (λ (n : ℕ). drop n l) (add_comm w (i * w) ∙ sym (suc-mul i w)))

  pub part-kept : (w i : ℕ) (mss : List (List Move)) (room : List ℕ) → get_or mss i [] ≡ [] → take w (drop (i * w) (parts itself js w mss room)) ≡ take w (drop (i * w) room)
  unfolding parts moves
  part-kept w i [] room e = refl
  part-kept w zero (ms ∷ mss) room e =
      let r : List ℕ = parts itself js w mss (drop w room) in
      rw (zero-mul w, e) (take_split w room (take w room) r refl (length-parts itself js w mss (drop w room)))
  part-kept w (suc i) (ms ∷ mss) room e =
      let y : List ℕ = moves itself js (take w room) ms in
      let r : List ℕ = parts itself js w mss (drop w room) in
      sym (next-part w i (y ++ r))
      ∙ ap (λ (l : List ℕ). take w (drop (i * w) l)) (drop_split w room y r (length-moves itself js (take w room) ms) (length-parts itself js w mss (drop w room)))
      ∙ part-kept w i mss (drop w room) e
      ∙ next-part w i room
