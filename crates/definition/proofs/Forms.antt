-- What is said of a call slot by slot: P holds of every slot as it was, as it is left, and of the moves in its part of the room. And the
-- laws by which a call's proof shows it, one for each form that an outcome has (Outcome.antt).
use Rattle.std.specs.Prelude.{◌≡◌, Bool, leb, length, get_or, set, Err, Ok, Option, Result, Some}
use Rattle.std.proofs.Math.Path.{refl}
use Rattle.std.proofs.Common.{sym, ◌∙◌, ap, not-suc-le-zero, le_of_suc-le-suc, arith, length-take, length-set, get_or-take, leb-false}
use Rattle.std.proofs.Math.Bool.{true, false}
use Rattle.std.proofs.lemmas.Bool.{false≢true, not-false}
use mathlib.Core.List.{List, [], ◌∷◌, map}
use Prim.Native.Nat.{ℕ, zero, suc, ◌<◌}
use Rattle.std.proofs.Math.Seq.{take-set-lt}
use Rattle.lists.specs.Choose.{choose, if_cases}
use Rattle.lists.specs.Both.{and_left}
use Rattle.lists.specs.First.{first_passes}
use Rattle.lists.specs.Each.{take-map_first, length-map_first}
use Rattle.channel.specs.declared.Answer.{Answer}
use Rattle.channel.specs.declared.ChannelState.{ChannelState}
use Rattle.channel.specs.declared.ChannelState.TheVariants.{Disconnected, Connecting, PeerConnecting, Connected, ConnectFailed, PeerDisconnecting, Disconnecting}
use Rattle.channel.specs.declared.Slot.{Slot}
use Rattle.channel.specs.declared.Table.{Table}
use Rattle.definition.specs.Mem.{Fill, Move, wipe}
use Rattle.definition.specs.States.{is_disconnected}
use Rattle.definition.specs.Table.{gap, freed, slot_at, live, width, found, is_free, spent, registered, well_formed}
use Rattle.definition.specs.Outcome.{Outcome, still, only, change, filling, sweep, verdict, passed, gate}
use Rattle.definition.specs.Calls.{nobody, by, holder_in, holder}
use Rattle.definition.proofs.Tells.{not_stopped}
use Rattle.definition.specs.Forms.{Basis, Does, Each, Fit, Like, next, rest}
use Rattle.codes.specs.declared.Refusal.{Refusal}

-- ---- whose a slot is

-- in a state that is not Disconnected it is its link's: q is the test that found the state
pub in_use : (q : ChannelState → Bool) → q Disconnected ≡ false → (k : ChannelState) (l : ℕ) → q k ≡ true → holder_in k l ≡ by l
in_use q z Disconnected l e = absurd (false≢true (sym z ∙ e))
in_use q z (Connecting i) l e = refl
in_use q z (PeerConnecting i) l e = refl
in_use q z Connected l e = refl
in_use q z (ConnectFailed c) l e = refl
in_use q z (PeerDisconnecting i) l e = refl
in_use q z (Disconnecting a) l e = refl

free-nobody : (k : ChannelState) (l : ℕ) → is_disconnected k ≡ true → holder_in k l ≡ nobody
free-nobody Disconnected l e = refl
free-nobody (Connecting i) l e = absurd (false≢true e)
free-nobody (PeerConnecting i) l e = absurd (false≢true e)
free-nobody Connected l e = absurd (false≢true e)
free-nobody (ConnectFailed c) l e = absurd (false≢true e)
free-nobody (PeerDisconnecting i) l e = absurd (false≢true e)
free-nobody (Disconnecting a) l e = absurd (false≢true e)

-- ---- lists

module _ (P : Slot → Slot → List Move → Type 0) where
  each_set : ((x : Slot) → P x x []) → (xs : List Slot) (s : ℕ) (y : Slot) (ms : List Move) → s < length xs → P (get_or xs s gap) y ms → Each P xs (set xs s y) (only s ms)
  unfolding only
  each_set q [] s y ms h p = absurd (not-suc-le-zero h)
  each_set q (x ∷ xs) zero y ms h p = next p rest
  each_set q (x ∷ xs) (suc s) y ms h p = next (q x) (each_set q xs s y ms (le_of_suc-le-suc h) p)

  each_map : (f : Slot → Slot) (g : Slot → List Move) → ((x : Slot) → P x (f x) (g x)) → (xs : List Slot) → Each P xs (map f xs) (map g xs)
  each_map f g p [] = rest
  each_map f g p (x ∷ xs) = next (p x) (each_map f g p xs)

  swept : (x : Slot) (b : Bool) → P x x [] → (b ≡ true → P x (freed x) (wipe ∷ [])) → P x (choose b (freed x) x) (choose b (wipe ∷ []) [])
  unfolding choose
  swept x true q p = p refl
  swept x false q p = q

module _ {t : Table} where
  pub itself : Like t t
  itself = record { slots = refl; n = refl; d = refl; m = refl }

  pub with-id : Like t (spent t)
  with-id = record { slots = refl; n = refl; d = refl; m = refl }

  pub with-spsm : (spsm : ℕ) → Like t (registered t spsm)
  with-spsm spsm = record { slots = refl; n = refl; d = refl; m = refl }

-- ---- the refusals that come first let pass only a table that is well-formed, and a slot in use

pub pass_slot : (t : Table) (room signal link : Option ℕ) (s : ℕ) → verdict t room signal link (Some s) ≡ Ok tt → leb t.n s ≡ false
unfolding verdict
pass_slot t room signal link s e = (not_stopped _ _ _ (not_stopped _ _ _ (not_stopped _ _ _ (not_stopped _ _ _ (not_stopped _ _ _ e).1).1).1).1).0

pub pass_well : (t : Table) (room signal link slot : Option ℕ) → verdict t room signal link slot ≡ Ok tt → well_formed t ≡ true
unfolding verdict
pass_well t room signal link slot e = not-false _ (not_stopped _ _ _ e).0

-- ---- the forms of an outcome

module _ {P : Slot → Slot → List Move → Type 0} {t : Table} (on : Basis P t) where
  pub still_does : {t' : Table} {a : Answer} {out : List Fill} → Like t t' → Does P t (still t' a out)
  still_does q =
      record {
        parts = rw (q.n, q.slots) rest;
        slots = q.n;
        width = rw (q.d, q.m) refl;
        fit = record { fits = rw (q.n, q.slots) on.fit.fits };
      }

  pub change_does : {t' : Table} (s : ℕ) {y : Slot} {ms : List Move} {a : Answer} {out : List Fill}
      → Like t t' → leb t.n s ≡ false → P (slot_at t s) y ms → Does P t (change t' s y ms a out)
  change_does s {y} {ms} q h p =
      let lt : s < t.n = leb-false t.n s h in
      record {
        parts = rw (q.n, q.slots, take-set-lt t.n t.slots s y lt)
            (each_set P on.keeps (live t) s y ms (omega (arith, on.fit.fits, length-take t.n t.slots)) (rw (get_or-take t.n t.slots s gap lt) p));
        slots = q.n;
        width = rw (q.d, q.m) refl;
        fit = record { fits = rw (q.n, q.slots) (omega (arith, on.fit.fits, length-set t.slots s y)) };
      }

  -- a job's frame buffer filled: of the room nothing moves
  pub filling_does : (s : ℕ) {y : Slot} {a : Answer} {at octets : ℕ} {out : List Fill} → leb t.n s ≡ false → P (slot_at t s) y [] → Does P t (filling t s y a at out octets)
  filling_does s {y} {a} {out = out} h p =
      let c = change_does s {y = y} {ms = []} {a = a} {out = out} itself h p in
      record { parts = c.parts; slots = c.slots; width = c.width; fit = c.fit }

  pub sweep_does : (p : Slot → Bool) {a : Answer} → ((x : Slot) → p x ≡ true → P x (freed x) (wipe ∷ [])) → Does P t (sweep t p a)
  sweep_does p frees =
      let f : Slot → Slot = λ x. choose (p x) (freed x) x in
      record {
        parts = rw (take-map_first t.n f t.slots) (each_map P f (λ x. choose (p x) (wipe ∷ []) []) (λ x. swept P x (p x) (on.keeps x) (frees x)) (live t));
        slots = refl;
        width = refl;
        fit = record { fits = omega (arith, on.fit.fits, length-map_first t.n f t.slots) };
      }

  -- ---- a chain of tests

  pub if_does : {b : Bool} {x y : Outcome} → (b ≡ true → Does P t x) → (b ≡ false → Does P t y) → Does P t (choose b x y)
  if_does {b} f g = if_cases (Does P t) b f g

  -- a refusal, or an answer that changes no slot; or else
  pub else_does : {b : Bool} (t' : Table) (a : Answer) (out : List Fill) {y : Outcome} → Like t t' → (b ≡ false → Does P t y) → Does P t (choose b (still t' a out) y)
  else_does t' a out q g = if_does (λ _. still_does q) g

  -- the refusals that come first
  passed_does : (v : Result (Unit {0}) Refusal) {o : Outcome} → (v ≡ Ok tt → Does P t o) → Does P t (passed t v o)
  passed_does (Ok tt) f = f refl
  passed_does (Err r) f = still_does itself

  pub gate_does : (room signal link slot : Option ℕ) {o : Outcome} → (verdict t room signal link slot ≡ Ok tt → Does P t o) → Does P t (gate t room signal link slot o)
  gate_does room signal link slot f = passed_does (verdict t room signal link slot) f

  pub gate-at : (room signal link : Option ℕ) (s : ℕ) {o : Outcome} → (leb t.n s ≡ false → Does P t o) → Does P t (gate t room signal link (Some s) o)
  gate-at room signal link s f = passed_does (verdict t room signal link (Some s)) (λ v. f (pass_slot t room signal link s v))

-- ---- what searches tell of a slot

module _ (t : Table) (fit : Fit t) where
  -- the slot that a search found passes the test
  pub found-passes : (p : Slot → Bool) → leb t.n (found p t) ≡ false → p (slot_at t (found p t)) ≡ true
  found-passes p h =
      let lt : found p t < t.n = leb-false t.n (found p t) h in
      ap p (sym (get_or-take t.n t.slots (found p t) gap lt)) ∙ first_passes p gap (live t) (omega (arith, fit.fits, length-take t.n t.slots))

  -- a slot that is given out was nobody's
  pub free-slot : leb t.n (found is_free t) ≡ false → holder (slot_at t (found is_free t)) ≡ nobody
  free-slot a =
      let x : Slot = slot_at t (found is_free t) in
      free-nobody x.state x.link (and_left (is_disconnected x.state) _ (found-passes is_free a))
