-- What a call keeps of a table's shape: the lengths of its arrays and its sizes, which is all that the table's octets need to give it back
-- (`Sized`, crate edge_layout), and every slot past N. And the laws by which a call's proof shows it, one for each form that an outcome has.
use Rattle.std.specs.Prelude.{◌≡◌, refl, Bool, true, false, List, [], ◌∷◌, ℕ, zero, suc, ◌+◌, ◌-◌, ◌/◌, ◌%◌, ◌^◌, ◌<◌, leb, length, get_or, drop, set, Err, Ok, Option, Result, Some}
use Rattle.std.proofs.Common.{ap, ◌∙◌, le_of_suc-le-suc, not-suc-le-zero, arith, length-set, length-append, length-drop, leb-false}
use Rattle.lists.specs.Choose.{choose, if_cases}
use Rattle.lists.specs.Each.{map_first, length-map_first}
use Rattle.channel.specs.Limits.{slots_most, depth_most}
use Rattle.channel.specs.declared.Answer.{Answer}
use Rattle.channel.specs.declared.Queue.{Queue}
use Rattle.channel.specs.declared.Slot.{Slot}
use Rattle.channel.specs.declared.Table.{Table}
use Rattle.definition.specs.Mem.{Fill, Move}
use Rattle.definition.specs.Table.{freed, gap, slot_at, is_registered, spent, registered}
use Rattle.definition.specs.Outcome.{Outcome, still, change, filling, sweep, verdict, passed, gate}
use Rattle.definition.specs.Frames.{queued, shifted}
use Rattle.definition.proofs.Forms.{pass_slot}
use Rattle.edge_layout.specs.Back.{Sized}
use Rattle.edge_sized.specs.Kept.{Kept, Like, Long}
use Rattle.codes.specs.declared.Refusal.{Refusal}

-- a job more, a job less
pub queued_long : (len : ℕ) (q : Queue) → length q.lens ≡ depth_most → length (queued len q).lens ≡ depth_most
queued_long len q h = length-set q.lens q.count len ∙ h

pub shifted-long : (q : Queue) → length q.lens ≡ depth_most → length (shifted q).lens ≡ depth_most
shifted-long q h = length-append (drop 1 q.lens) (0 ∷ []) ∙ omega (arith, length-drop 1 q.lens)

-- ---- slots

set_long : (xs : List Slot) (s : ℕ) (y : Slot) → Long y → ((i : ℕ) → Long (get_or xs i gap)) → (i : ℕ) → Long (get_or (set xs s y) i gap)
set_long [] s y h g i = g i
set_long (x ∷ xs) zero y h g zero = h
set_long (x ∷ xs) zero y h g (suc i) = g (suc i)
set_long (x ∷ xs) (suc s) y h g zero = g zero
set_long (x ∷ xs) (suc s) y h g (suc i) = set_long xs s y h (λ k. g (suc k)) i

each_long : (n : ℕ) (f : Slot → Slot) → ((x : Slot) → Long x → Long (f x)) → (xs : List Slot) → ((i : ℕ) → Long (get_or xs i gap)) → (i : ℕ) → Long (get_or (map_first n f xs) i gap)
each_long zero f h xs g i = g i
each_long (suc n) f h [] g i = g i
each_long (suc n) f h (x ∷ xs) g zero = h x (g zero)
each_long (suc n) f h (x ∷ xs) g (suc i) = each_long n f h xs (λ k. g (suc k)) i

-- past n nothing is touched
drop-set : (n : ℕ) (xs : List Slot) (s : ℕ) (y : Slot) → s < n → drop n (set xs s y) ≡ drop n xs
drop-set zero xs s y h = absurd (not-suc-le-zero h)
drop-set (suc n) [] s y h = refl
drop-set (suc n) (x ∷ xs) zero y h = refl
drop-set (suc n) (x ∷ xs) (suc s) y h = drop-set n xs s y (le_of_suc-le-suc h)

drop-each : (n : ℕ) (f : Slot → Slot) (xs : List Slot) → drop n (map_first n f xs) ≡ drop n xs
drop-each zero f xs = refl
drop-each (suc n) f [] = refl
drop-each (suc n) f (x ∷ xs) = drop-each n f xs

-- ---- a table

-- every slot, past the list's end too
slots-long : (xs : List Slot) (n : ℕ) → length xs ≡ n → ((i : ℕ) → i < n → Long (get_or xs i gap)) → (i : ℕ) → Long (get_or xs i gap)
slots-long [] n e g i = refl
slots-long (x ∷ xs) n e g zero = g zero (omega arith)
slots-long (x ∷ xs) n e g (suc i) = slots-long xs (n - 1) (omega arith) (λ k h. g (suc k) (omega arith)) i

pub long-at : {t : Table} → Sized t → (i : ℕ) → Long (slot_at t i)
long-at {t} w = slots-long t.slots slots_most w.slots w.lens

module _ {t : Table} where
  pub itself : Like t t
  itself = record { slots = refl; spsms = refl; n = refl; d = refl; m = refl }

  pub with-id : Like t (spent t)
  with-id = record { slots = refl; spsms = refl; n = refl; d = refl; m = refl }

  pub with-spsm : (spsm : ℕ) → Like t (registered t spsm)
  with-spsm spsm =
      record {
        slots = refl;
        spsms = if_cases (λ (xs : List ℕ). length xs ≡ length t.spsms) (is_registered t spsm) (λ _. refl) (λ _. length-set t.spsms (spsm / 8) (get_or t.spsms (spsm / 8) 0 + 2 ^ (spsm % 8)));
        n = refl;
        d = refl;
        m = refl;
      }

-- ---- the forms of an outcome

module _ {t : Table} (w : Sized t) where
  pub still-keeps : {t' : Table} {a : Answer} {out : List Fill} → Like t t' → Kept t (still t' a out)
  still-keeps q =
      record {
        sized = record { slots = rw q.slots w.slots; lens = rw q.slots w.lens; spsms = q.spsms ∙ w.spsms; n = rw q.n w.n; d = rw q.d w.d; m = rw q.m w.m };
        n = q.n;
        past = ap (λ (xs : List Slot). drop t.n xs) q.slots;
      }

  pub change-keeps : {t' : Table} (y : Slot) (ms : List Move) (s : ℕ) {a : Answer} {out : List Fill} → Like t t' → leb t.n s ≡ false → Long y → Kept t (change t' s y ms a out)
  change-keeps y ms s q h l =
      record {
        sized = record {
          slots = rw q.slots (length-set t.slots s y ∙ w.slots);
          lens = rw q.slots (λ i _. set_long t.slots s y l (long-at w) i);
          spsms = q.spsms ∙ w.spsms;
          n = rw q.n w.n;
          d = rw q.d w.d;
          m = rw q.m w.m;
        };
        n = q.n;
        past = rw q.slots (drop-set t.n t.slots s y (leb-false t.n s h));
      }

  pub filling-keeps : (y : Slot) (s : ℕ) {a : Answer} {at : ℕ} {out : List Fill} {octets : ℕ} → leb t.n s ≡ false → Long y → Kept t (filling t s y a at out octets)
  filling-keeps y s {a} {at} {out} {octets} h l =
      let c = change-keeps y [] s {a = a} {out = out} itself h l in
      record { sized = c.sized; n = c.n; past = c.past }

  pub sweep-keeps : (p : Slot → Bool) {a : Answer} → Kept t (sweep t p a)
  sweep-keeps p =
      let f : Slot → Slot = λ x. choose (p x) (freed x) x in
      record {
        sized = record {
          slots = length-map_first t.n f t.slots ∙ w.slots;
          lens = λ i _. each_long t.n f (λ x h. if_cases Long (p x) (λ _. refl) (λ _. h)) t.slots (long-at w) i;
          spsms = w.spsms;
          n = w.n;
          d = w.d;
          m = w.m;
        };
        n = refl;
        past = drop-each t.n f t.slots;
      }

  -- ---- a chain of tests

  pub if_keeps : {b : Bool} {x y : Outcome} → (b ≡ true → Kept t x) → (b ≡ false → Kept t y) → Kept t (choose b x y)
  if_keeps {b} f g = if_cases (Kept t) b f g

  -- a refusal, or an answer that changes no slot; or else
  pub else_keeps : {b : Bool} (t' : Table) (a : Answer) (out : List Fill) {y : Outcome} → Like t t' → (b ≡ false → Kept t y) → Kept t (choose b (still t' a out) y)
  else_keeps t' a out q g = if_keeps (λ _. still-keeps q) g

  passed-keeps : (v : Result (Unit {0}) Refusal) {o : Outcome} → (v ≡ Ok tt → Kept t o) → Kept t (passed t v o)
  passed-keeps (Ok tt) f = f refl
  passed-keeps (Err r) f = still-keeps itself

  -- the refusals that come first
  pub gate-keeps : (room signal link slot : Option ℕ) {o : Outcome} → Kept t o → Kept t (gate t room signal link slot o)
  gate-keeps room signal link slot p = passed-keeps (verdict t room signal link slot) (λ _. p)

  pub gate-at : (room signal link : Option ℕ) (s : ℕ) {o : Outcome} → (leb t.n s ≡ false → Kept t o) → Kept t (gate t room signal link (Some s) o)
  gate-at room signal link s f = passed-keeps (verdict t room signal link (Some s)) (λ v. f (pass_slot t room signal link s v))
