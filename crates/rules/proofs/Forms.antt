-- The forms of an outcome and the gate before them, as steps: what a call's proof cites. Each is a law of lists.
use Rattle.std.specs.Prelude.{◌≡◌, refl, Bool, true, false, not, eqb, length, get_or, take, set, Option, Result}
use Rattle.std.proofs.Common.{sym, ap, ◌∙◌, subst, not-suc-le-zero, le_of_suc-le-suc, arith, lit≤, length-set, length-take, get_or-take}
use Rattle.std.proofs.lemmas.Bool.{false≢true}
use mathlib.Core.List.{List, [], ◌∷◌, map}
use Prim.Native.Nat.{ℕ, zero, suc, ◌≤◌, ◌<◌}
use Rattle.std.proofs.Math.Seq.{take-set-lt}
use Rattle.lists.specs.Choose.{choose, if_cases}
use Rattle.lists.specs.First.{first_passes}
use Rattle.lists.specs.Each.{take-map_first, length-map_first}
use Rattle.codes.specs.Codes.{refusal_number}
use Rattle.codes.specs.declared.Refusal.{Refusal}
use Rattle.channel.specs.declared.Answer.{Answer}
use Rattle.channel.specs.declared.Slot.{Slot}
use Rattle.channel.specs.declared.Table.{Table}
use Rattle.definition.specs.Mem.{Fill, Move, wipe}
use Rattle.definition.specs.Table.{gap, slot_at, live, found, is_disconnected, freed, spent, room_size, well_formed}
use Rattle.definition.specs.Outcome.{Outcome, still, change, filling, sweep, only, refuse, fails, verdict, passed, gate}
use Rattle.definition.specs.Tells.{InUse}
use Rattle.definition.proofs.Tells.{given_in_use}
use Rattle.rules.specs.Tests.{begun, Least}
use Rattle.rules.proofs.Tests.{begun-live}
use Rattle.rules.specs.Step.{Counting, Goes, Step, hold, free, Steps, rest, next, Numbered, kept, passes, Stepped}

-- ---- lists of slots

pub live-length : (t : Table) → t.n ≤ length t.slots → length (live t) ≡ t.n
live-length t h = length-take t.n t.slots ∙ omega arith

pub live_at : (t : Table) (s : ℕ) → s < t.n → get_or (live t) s gap ≡ slot_at t s
live_at t s h = get_or-take t.n t.slots s gap h

-- the slot that a search found passes the test
pub found-passes : (p : Slot → Bool) (t : Table) → t.n ≤ length t.slots → found p t < t.n → p (slot_at t (found p t)) ≡ true
found-passes p t l h = rw (← live_at t (found p t) h) (first_passes p gap (live t) (rw (live-length t l) h))

module _ {t : Table} {k : ℕ} where
  pub steps-set : (xs : List Slot) (s : ℕ) (y : Slot) (ms : List Move) → s < length xs → Step t k (get_or xs s gap) y ms → Steps t k xs (set xs s y) (only s ms)
  unfolding only
  steps-set [] s y ms h p = absurd (not-suc-le-zero h)
  steps-set (x ∷ xs) zero y ms h p = next p rest
  steps-set (x ∷ xs) (suc s) y ms h p = next (hold x.hold) (steps-set xs s y ms (le_of_suc-le-suc h) p)

  pub steps_map : (f : Slot → Slot) (g : Slot → List Move) → ((x : Slot) → Step t k x (f x) (g x)) → (xs : List Slot) → Steps t k xs (map f xs) (map g xs)
  steps_map f g p [] = rest
  steps_map f g p (x ∷ xs) = next (p x) (steps_map f g p xs)

-- ---- the forms

-- nothing changes but the output
pub stepped_still : (t : Table) (k : ℕ) (a : Answer) (out : List Fill) → passes a ≡ true → Stepped t k (still t a out)
stepped_still t k a out ok = record { answer = ok; n = refl; d = refl; m = refl; long = refl; identifier = kept; slots = rest }

pub stepped_spent : (t : Table) (k : ℕ) (a : Answer) (out : List Fill) → passes a ≡ true → Numbered t (spent t).identifier out → Stepped t k (still (spent t) a out)
stepped_spent t k a out ok i = record { answer = ok; n = refl; d = refl; m = refl; long = refl; identifier = i; slots = rest }

-- one slot changes, in the table as it was or with an identifier used
module _ (t : Table) (k s : ℕ) (y : Slot) (ms : List Move) (h : s < t.n) (l : t.n ≤ length t.slots) (p : Step t k (slot_at t s) y ms) where
  one : Steps t k (live t) (take t.n (set t.slots s y)) (only s ms)
  one =
      rw (take-set-lt t.n t.slots s y h)
      (steps-set (live t) s y ms (rw (live-length t l) h) (subst (λ (x : Slot). Step t k x y ms) (sym (live_at t s h)) p))

  pub stepped_change : (a : Answer) (out : List Fill) → passes a ≡ true → Stepped t k (change t s y ms a out)
  stepped_change a out ok = record { answer = ok; n = refl; d = refl; m = refl; long = length-set t.slots s y; identifier = kept; slots = one }

  pub stepped_change_spent : (a : Answer) (out : List Fill) → passes a ≡ true → Numbered t (spent t).identifier out → Stepped t k (change (spent t) s y ms a out)
  stepped_change_spent a out ok i = record { answer = ok; n = refl; d = refl; m = refl; long = length-set t.slots s y; identifier = i; slots = one }

  -- a job's frame buffer is filled
  pub stepped_filling : (a : Answer) (at : ℕ) (out : List Fill) (octets : ℕ) → passes a ≡ true → ms ≡ [] → Stepped t k (filling t s y a at out octets)
  stepped_filling a at out octets ok e =
      record { answer = ok; n = refl; d = refl; m = refl; long = length-set t.slots s y; identifier = kept; slots = rw e at one }

-- a connection that has begun, or begins, goes on
pub goes_on : {x y : Slot} → is_disconnected x.state ≡ false → begun y.state ≡ true → y.mtu ≡ x.mtu → (Least x → Least y) → Counting x y.state y.tallies → Goes x y
goes_on {x} {y} w b m f c = record { was = w; is = begun-live y.state b; stays = λ _. b; mtu = m; least = f; counts = c }

-- it is neither asked for any more, nor stands
pub ended : {A B : Type 0} → A → false ≡ true → B
ended _ e = absurd (false≢true e)

-- every slot that passes the test is freed
swept : (t : Table) (k : ℕ) (x : Slot) (b : Bool) → Step t k x (choose b (freed x) x) (choose b (wipe ∷ []) [])
unfolding choose
swept t k x true = free x.hold
swept t k x false = hold x.hold

pub stepped_sweep : (t : Table) (k : ℕ) (p : Slot → Bool) (a : Answer) → passes a ≡ true → Stepped t k (sweep t p a)
stepped_sweep t k p a ok =
    let f : Slot → Slot = λ x. choose (p x) (freed x) x in
    record {
      answer = ok;
      n = refl;
      d = refl;
      m = refl;
      long = length-map_first t.n f t.slots;
      identifier = kept;
      slots = rw (take-map_first t.n f t.slots) (steps_map f (λ x. choose (p x) (wipe ∷ []) []) (λ x. swept t k x (p x)) (live t));
    }

-- ---- the gate

-- In a run neither refusal 1 nor refusal 2 comes: the table is well-formed, and a room that is lent has the right length.
pub stepped_gate : (t : Table) (k : ℕ) (room signal link slot : Option ℕ) {o : Outcome} → well_formed t ≡ true → fails (λ size. not (eqb size (room_size t))) room ≡ false
    → (InUse t slot → Stepped t k o) → Stepped t k (gate t room signal link slot o)
unfolding verdict
stepped_gate t k room signal link slot {o} well sized f =
    if_cases P _ (λ e. absurd (false≢true (sym (ap not well) ∙ e)))
    (λ _. if_cases P _ (λ e. absurd (false≢true (sym sized ∙ e)))
    (λ _. if_cases P _ (λ _. stepped_still t k _ _ refl)
    (λ _. if_cases P _ (λ _. stepped_still t k _ _ refl)
    (λ _. if_cases P _ (λ _. stepped_still t k _ _ refl) (λ e. f (given_in_use t slot e))))))
  where
    P : Result (Unit {0}) Refusal → Type 0
    P v = Stepped t k (passed t v o)

-- and for whatever else holds of an outcome. Its refusals are 1, 2, 3, 4 and 6.
pub gate_refusals : (P : Outcome → Type 0) (t : Table) (room signal link slot : Option ℕ) {o : Outcome} → ((r : Refusal) → refusal_number r ≤ 6 → P (refuse t r)) → (InUse t slot → P o)
    → P (gate t room signal link slot o)
unfolding verdict
gate_refusals P t room signal link slot {o} stop f =
    if_cases Q _ (λ _. stop _ (lit≤ tt))
    (λ _. if_cases Q _ (λ _. stop _ (lit≤ tt))
    (λ _. if_cases Q _ (λ _. stop _ (lit≤ tt)) (λ _. if_cases Q _ (λ _. stop _ (lit≤ tt)) (λ _. if_cases Q _ (λ _. stop _ (lit≤ tt)) (λ e. f (given_in_use t slot e))))))
  where
    Q : Result (Unit {0}) Refusal → Type 0
    Q v = P (passed t v o)

pub gate_cases : (P : Outcome → Type 0) (t : Table) (room signal link slot : Option ℕ) {o : Outcome} → ((r : Refusal) → P (refuse t r)) → (InUse t slot → P o) → P (gate t room signal link slot o)
gate_cases P t room signal link slot stop f = gate_refusals P t room signal link slot (λ r _. stop r) f
