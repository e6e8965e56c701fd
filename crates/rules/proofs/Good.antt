-- What is true of every state that a run reaches, the octets of the room apart: a made table has it, and every call keeps it.
use Rattle.std.specs.Prelude.{◌≡◌, refl, Bool, true, false, ◌&&◌, ◌||◌, not, List, [], ◌∷◌, ℕ, zero, suc, ◌+◌, ◌-◌, ◌≤◌, ◌<◌, eqb, leb, length, get_or, take, replicate}
use Rattle.std.proofs.Common.{◌∙◌, subst, not-suc-le-zero, le_of_suc-le-suc, arith, leb-true, ltb-true, le-leb, eqb-true}
use Rattle.std.proofs.lemmas.List.{length-map}
use Rattle.std.proofs.lemmas.Bool.{eqb-false, not-false}
use Rattle.lists.specs.Choose.{if_cases}
use Rattle.lists.specs.Every.{every}
use Rattle.channel.specs.Limits.{slots_most, depth_most, packet_least, packet_most, credits_most, identifier_most, job_head}
use Rattle.channel.specs.declared.Answer.TheVariants.{Done}
use Rattle.channel.specs.declared.OpenJob.{OpenJob}
use Rattle.channel.specs.declared.Peer.{Peer}
use Rattle.channel.specs.declared.Slot.{Slot}
use Rattle.channel.specs.declared.Table.{Table}
use Rattle.definition.specs.Mem.{Fill, parts}
use Rattle.definition.specs.Table.{place_of, width, room_size, gap, fresh, slot_at, live, sizes_fit, is_open, job_fits, slot_fits, well_formed, next_id, spent}
use Rattle.definition.specs.Outcome.{Outcome}
use Rattle.definition.specs.Asking.{Made, make, blank}
use Rattle.definition.specs.Calls.{Call, jobs, bare, decide}
use Rattle.definition.specs.Run.{State, outcome, after}
use Rattle.definition.proofs.Lengths.{length-parts}
use Rattle.rules.specs.Run.{Fits, Reached, start, next}
use Rattle.lists.specs.Both.{and_left, and_right, and_both}
use Rattle.rules.specs.Step.{Numbered, kept, refused, told, Stepped}
use Rattle.rules.proofs.Forms.{live_at, live-length}
use Rattle.rules.specs.Sound.{Owing, Sound, AllSound}
use Rattle.rules.proofs.Every.{decide-steps}
use Rattle.rules.proofs.Keep.{sound_fresh, steps_sound}
use Rattle.rules.specs.Good.{Good, Sized, Sizes}

pub sizes-read : (n d m : ℕ) → sizes_fit n d m ≡ true → Sizes n d m
sizes-read n d m e =
    let a = and_right (leb 1 n) _ e in
    let b = and_right (leb n slots_most) _ a in
    let c = and_right (leb 1 d) _ b in
    let f = and_right (leb d depth_most) _ c in
    record {
      n_least = leb-true 1 n (and_left (leb 1 n) _ e);
      n-most = leb-true n slots_most (and_left (leb n slots_most) _ a);
      d_least = leb-true 1 d (and_left (leb 1 d) _ b);
      d_most = leb-true d depth_most (and_left (leb d depth_most) _ c);
      m_least = leb-true packet_least m (and_left (leb packet_least m) _ f);
      m_most = leb-true m packet_most (and_right (leb packet_least m) _ f);
    }

-- ---- one slot of many

pub sound_at : {d p : ℕ} (xs : List Slot) (s : ℕ) → AllSound d p xs → s < length xs → Sound d p (get_or xs s gap)
sound_at [] s a h = absurd (not-suc-le-zero h)
sound_at (x ∷ xs) zero a h = a.0
sound_at (x ∷ xs) (suc s) a h = sound_at xs s a.1 (le_of_suc-le-suc h)

module _ {t : Table} {room : List ℕ} (g : Good t room) where
  pub within : t.n ≤ length t.slots
  within = let z = sizes-read t.n t.d t.m g.sizes in let y = g.long in omega arith

  pub slot_sound : (s : ℕ) → s < t.n → Sound t.d (place_of t) (slot_at t s)
  slot_sound s h = subst (λ (x : Slot). Sound t.d (place_of t) x) (live_at t s h) (sound_at (live t) s g.slots (rw (live-length t within) h))

  pub few : t.d ≤ credits_most
  few = let z = sizes-read t.n t.d t.m g.sizes in omega arith

-- ---- refusal 1 finds nothing

owing_fits : {connected : Bool} {p : Peer} {j : OpenJob} → Owing connected p j → job_fits p.mps j ≡ true
owing_fits {p = p} {j} o = by (is_open j) refl
  where
    by : (b : Bool) → is_open j ≡ b → (not b || (leb j.taken j.length && (leb j.filled p.mps && leb j.filled (j.taken + 2)))) ≡ true
    by false e = refl
    by true e =
        let some = ltb-true 0 j.aside e in
        and_both _ _ (le-leb _ _ (o.taken some)) (and_both _ _ (le-leb _ _ (o.filled some).0) (le-leb _ _ (o.filled some).1))

sound_fits : (d p : ℕ) (x : Slot) → Sound d p x → slot_fits d p x ≡ true
unfolding slot_fits
sound_fits d p x s =
    and_both _ _ (le-leb _ _ s.holding.count)
    (and_both _ _ s.holding.lens
    (and_both _ _ (le-leb _ _ s.holding.have)
    (and_both _ _ (le-leb _ _ s.holding.want) (and_both _ _ (le-leb _ _ s.mtu)
    (and_both _ _ (le-leb _ _ s.sum) (and_both _ _ (owing_fits s.owing) (le-leb _ _ s.owing.sum)))))))

all_fit : (d p : ℕ) (xs : List Slot) → AllSound d p xs → every (slot_fits d p) xs ≡ true
unfolding every
all_fit d p [] a = refl
all_fit d p (x ∷ xs) a = and_both (slot_fits d p x) _ (sound_fits d p x a.0) (all_fit d p xs a.1)

pub good_formed : {t : Table} {room : List ℕ} → Good t room → well_formed t ≡ true
unfolding well_formed
good_formed {t} g = and_both (sizes_fit t.n t.d t.m) _ g.sizes (all_fit t.d (place_of t) (live t) g.slots)

-- ---- identifiers

pub next-id : (t : Table) → 1 ≤ t.identifier → t.identifier ≤ identifier_most → (1 ≤ next_id t) × (next_id t ≤ identifier_most)
next-id t l h = if_cases (λ (n : ℕ). (1 ≤ n) × (n ≤ identifier_most)) (eqb t.identifier 0) (λ _. omega arith) (λ _. (l, h))

spent-id : (t : Table) → (1 ≤ next_id t) × (next_id t ≤ identifier_most) → (1 ≤ (spent t).identifier) × ((spent t).identifier ≤ identifier_most)
spent-id t h = if_cases (λ (n : ℕ). (1 ≤ n) × (n ≤ identifier_most)) (eqb (next_id t) identifier_most) (λ _. omega arith) (λ e. let f = eqb-false (next_id t) identifier_most e in omega arith)

numbered : (t : Table) → (1 ≤ t.identifier) × (t.identifier ≤ identifier_most) → {i : ℕ} {out : List Fill} → Numbered t i out → (1 ≤ i) × (i ≤ identifier_most)
numbered t h kept = h
numbered t h refused = spent-id t (next-id t h.0 h.1)
numbered t h (told s) = spent-id t (next-id t h.0 h.1)

-- ---- a call keeps it

pub good-steps : {t : Table} {room : List ℕ} (g : Good t room) (c : Call) → Fits c → (out job : ℕ) → Stepped t (length (jobs t c)) (decide t (bare t c) (length (jobs t c)) (length room) out job)
good-steps {t} {room} g c f out job = decide-steps t c (length room) (within g) (good_formed g) g.size (few g) (slot_sound g) f out job

pub good_stepped : {t : Table} {room : List ℕ} → Good t room → {k : ℕ} {o : Outcome} → Stepped t k o → (js : List ℕ) → Good o.table (parts (λ x. x) js (width t) o.parts room)
good_stepped {t} {room} g {k} {o} p js =
    record {
      sizes = rw (p.n, p.d, p.m) g.sizes;
      long = p.long ∙ g.long;
      identifier = numbered t g.identifier p.identifier;
      slots = rw (p.d, p.m) (steps_sound p.slots g.slots);
      size = length-parts (λ x. x) js (width t) o.parts room ∙ g.size ∙ rw (p.n, p.d, p.m) refl;
    }

-- the steps of a call in a run
pub call_steps : (s : State) → Good s.table s.room → (c : Call) → Fits c → Stepped s.table (length (jobs s.table c)) (outcome s c)
call_steps s g c f = good-steps g c f _ _

pub good-after : (s : State) (c : Call) → Good s.table s.room → Fits c → Good (after s c).table (after s c).room
unfolding after
good-after s c g f = good_stepped g (call_steps s g c f) (jobs s.table c)

pub same-sizes : (s : State) (c : Call) → Good s.table s.room → Fits c → Sized s.table (after s c).table
unfolding after
same-sizes s c g f = let p = call_steps s g c f in record { n = p.n; d = p.d; m = p.m }

-- ---- a made table has it

all_fresh : (d p : ℕ) (n : ℕ) → AllSound d p (replicate n (fresh 0))
all_fresh d p zero = tt
all_fresh d p (suc n) = (sound_fresh d p 0, all_fresh d p n)

all_take : (d p n : ℕ) (xs : List Slot) → AllSound d p xs → AllSound d p (take n xs)
all_take d p zero xs a = tt
all_take d p (suc n) [] a = tt
all_take d p (suc n) (x ∷ xs) a = (a.0, all_take d p n xs a.1)

pub good-made : (n d m : ℕ) (room : List ℕ) → (make n d m room).answer ≡ Done → Good (make n d m room).table (make n d m room).room
unfolding make
good-made n d m room =
    if_cases P (not (sizes_fit n d m)) (λ _ e. let z : ◌≡◌ {A = ℕ} 0 1 = cc in absurd (omega arith))
    (λ fits. if_cases P (not (eqb (length room) (room_size (blank n d m)))) (λ _ e. let z : ◌≡◌ {A = ℕ} 0 1 = cc in absurd (omega arith))
    (λ same e.
    record {
      sizes = not-false (sizes_fit n d m) fits;
      long = refl;
      identifier = omega arith;
      slots = all_take d (m - job_head) n (replicate slots_most (fresh 0)) (all_fresh d (m - job_head) slots_most);
      size = length-map room (λ _. 0) ∙ eqb-true (length room) (room_size (blank n d m)) (not-false _ same);
    }))
  where
    P : Made → Type 0
    P o = o.answer ≡ Done → Good o.table o.room

pub reached-good : {s : State} → Reached s → Good s.table s.room
reached-good (start n d m room memory e) = good-made n d m room e
reached-good (next {s} c r f) = good-after s c (reached-good r) f
