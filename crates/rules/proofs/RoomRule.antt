-- The room rule (D): every octet of the room that holds no octet of a live job is zero, in every state that a run reaches. And what
-- follows for a slot that is given to a new connection (E). Rests on the places of one slot (Places.antt) and on the steps of every call.
use Rattle.std.specs.Prelude.{◌≡◌, refl, Bool, true, false, not, ℕ, zero, suc, ◌+◌, ◌*◌, ◌≤◌, ◌<◌, eqb, ltb, get_or, take, drop}
use Rattle.std.proofs.Common.{sym, ap, ◌∙◌, subst₂, not-suc-le-zero, le_of_suc-le-suc, mul-le-mul_right, arith, length-take, get_or-take, get_or-drop, take_at, drop_at, ltb-true, ltb-false}
use Rattle.std.proofs.Math.Path.{subst}
use mathlib.Core.List.{List, [], ◌∷◌, map}
use Rattle.std.proofs.Math.Nat.{suc-mul}
use Rattle.std.proofs.Math.ListN.{length, length-drop, get_or-map, get_or-eq_default}
use Rattle.std.proofs.Math.Seq.{length-take-le}
use Rattle.lists.specs.Choose.{if_cases}
use Rattle.sar_join.specs.declared.Assembly.{Assembly}
use Rattle.channel.specs.Limits.{depth_most}
use Rattle.channel.specs.declared.Answer.TheVariants.{Done}
use Rattle.channel.specs.declared.Queue.{Queue}
use Rattle.channel.specs.declared.Slot.{Slot}
use Rattle.channel.specs.declared.Table.{Table}
use Rattle.definition.specs.Mem.{Move, move, moves, parts}
use Rattle.definition.specs.Table.{place_of, width, room_size, gap, fresh, slot_at, live, sizes_fit}
use Rattle.definition.specs.Asking.{Made, make, blank}
use Rattle.definition.specs.Calls.{Call, jobs}
use Rattle.definition.specs.Run.{State, after}
use Rattle.definition.proofs.Lengths.{length-moves}
use Rattle.rules.specs.Run.{Fits, Reached, start}
use Rattle.rules.specs.Run as Run
use Rattle.rules.specs.Step.{Step, hold, go, accept, free, allocate, Steps, rest, next}
use Rattle.rules.proofs.Forms.{live_at, live-length}
use Rattle.rules.specs.Sound.{Sound, AllSound}
use Rattle.rules.specs.Good.{Good}
use Rattle.rules.proofs.Good.{sizes-read, within, call_steps, reached-good}
use Rattle.rules.specs.Places.{job_in, Clean}
use Rattle.rules.proofs.Places.{no-job, clean_jobs}
use Rattle.rules.specs.RoomRule.{AllClean}

-- ---- one slot and its part

wiped : (p : ℕ) (a : Assembly) (q : Queue) (part : List ℕ) → Clean p a q (map (λ _. 0) part)
wiped p a q part k j l e = get_or-map (λ _. 0) part (k * p + j) 0

step_clean : (t : Table) (k : ℕ) (js : List ℕ) {x y : Slot} {ms : List Move} (part : List ℕ) → Step t k x y ms → Sound t.d (place_of t) x → length part ≡ width t → t.d ≤ depth_most
    → Clean (place_of t) x.assembly x.queue part → Clean (place_of t) y.assembly y.queue (moves (λ x. x) js part ms)
unfolding moves move
step_clean t k js part (hold h) s l d c = c
step_clean t k js {x} part (go g a j o) s l d c = clean_jobs t k x js part s.holding l d c s.mtu j
step_clean t k js part (accept g) s l d c = subst₂ (λ (a : Assembly) (q : Queue). Clean (place_of t) a q part) (sym g.assembly) (sym g.queue) c
step_clean t k js part (free h) s l d c = wiped (place_of t) (fresh h).assembly (fresh h).queue part
step_clean t k js {x} part (allocate g) s l d c =
    λ i j f e.
    let z = ap (λ (y : Slot). y.assembly.have) (s.free g.was) in
    let n = ap (λ (y : Slot). y.queue.count) (s.free g.was) in
    c i j f (rw (no-job x.assembly x.queue i z n) (omega arith))

module _ (t : Table) (k : ℕ) (js : List ℕ) (d : t.d ≤ depth_most) where
  steps_clean : {xs ys : List Slot} {mss : List (List Move)} (room : List ℕ) → Steps t k xs ys mss → AllSound t.d (place_of t) xs → length room ≡ length xs * width t
      → AllClean (width t) (place_of t) xs room → AllClean (width t) (place_of t) ys (parts (λ x. x) js (width t) mss room)
  unfolding parts
  steps_clean room rest s l c = c
  steps_clean room (next {x} {y} {ms} {xs} {ys} {mss} p r) s l c =
      let w = width t in
      let first = moves (λ x. x) js (take w room) ms in
      let others = parts (λ x. x) js w mss (drop w room) in
      let long : length (take w room) ≡ w = length-take-le w room (omega (arith, suc-mul (length xs) w)) in
      let short : length (drop w room) ≡ length xs * w = length-drop w room ∙ omega (arith, suc-mul (length xs) w) in
      let same : length first ≡ w = length-moves (λ x. x) js (take w room) ms ∙ long in (
        subst (λ (part : List ℕ). Clean (place_of t) y.assembly y.queue part) (sym (take_at first others w same))
            (step_clean t k js (take w room) p s.0 long d c.0),
        subst (λ (rest : List ℕ). AllClean w (place_of t) ys rest) (sym (drop_at first others w same)) (steps_clean (drop w room) r s.1 short c.1),
      )

pub clean_after : (s : State) (a : Call) → Good s.table s.room → Fits a → AllClean (width s.table) (place_of s.table) (live s.table) s.room
    → AllClean (width (after s a).table) (place_of (after s a).table) (live (after s a).table) (after s a).room
unfolding after
clean_after s a g f c =
    let t = s.table in
    let p = call_steps s g a f in
    rw (p.d, p.m)
    (steps_clean t (length (jobs t a)) (jobs t a) (sizes-read t.n t.d t.m g.sizes).d_most s.room p.slots g.slots
    (g.size ∙ ap (λ (n : ℕ). n * width t) (sym (live-length t (within g)))) c)

-- a made room is all zero
all_zero : (w p : ℕ) (xs : List Slot) (room : List ℕ) → ((i : ℕ) → get_or room i 0 ≡ 0) → AllClean w p xs room
all_zero w p [] room z = tt
all_zero w p (x ∷ xs) room z = ((λ k j l e. part (k * p + j)), all_zero w p xs (drop w room) (λ i. get_or-drop w room i 0 ∙ z (w + i)))
  where
    part : (i : ℕ) → get_or (take w room) i 0 ≡ 0
    part i = cut (ltb i w) refl
      where
        cut : (b : Bool) → ltb i w ≡ b → get_or (take w room) i 0 ≡ 0
        cut true e = get_or-take w room i 0 (ltb-true i w e) ∙ z i
        cut false e = get_or-eq_default (take w room) 0 (omega (arith, length-take w room, ltb-false i w e))

clean_made : (n d m : ℕ) (room : List ℕ) → (make n d m room).answer ≡ Done → AllClean (width (make n d m room).table) (place_of (make n d m room).table) (live (make n d m room).table) (make n d m room).room
unfolding make
clean_made n d m room =
    if_cases P (not (sizes_fit n d m)) (λ _ e. let z : ◌≡◌ {A = ℕ} 0 1 = cc in absurd (omega arith))
    (λ _. if_cases P (not (eqb (length room) (room_size (blank n d m)))) (λ _ e. let z : ◌≡◌ {A = ℕ} 0 1 = cc in absurd (omega arith))
    (λ _ _. all_zero (width (blank n d m)) (place_of (blank n d m)) (live (blank n d m)) (map (λ _. 0) room) (λ i. get_or-map (λ _. 0) room i 0)))
  where
    P : Made → Type 0
    P o = o.answer ≡ Done → AllClean (width o.table) (place_of o.table) (live o.table) o.room

pub reached_clean : {s : State} → Reached s → AllClean (width s.table) (place_of s.table) (live s.table) s.room
reached_clean (start n d m room memory e) = clean_made n d m room e
reached_clean (Run.next {s} a r f) = clean_after s a (reached-good r) f (reached_clean r)

-- ---- the rule, octet by octet

part_clean : (w p : ℕ) (xs : List Slot) (room : List ℕ) (i : ℕ) → i < length xs → AllClean w p xs room → (k j : ℕ) → k * p + j < w → j < p → job_in (get_or xs i gap).assembly (get_or xs i gap).queue k ≤ j
    → get_or room (i * w + (k * p + j)) 0 ≡ 0
part_clean w p [] room i h c k j f g e = absurd (not-suc-le-zero h)
part_clean w p (x ∷ xs) room zero h c k j f g e =
    let z : 0 * w + (k * p + j) ≡ k * p + j = omega arith in
    rw (z, ← get_or-take w room (k * p + j) 0 f) (c.0 k j g e)
part_clean w p (x ∷ xs) room (suc i) h c k j f g e =
    let z : suc i * w + (k * p + j) ≡ w + (i * w + (k * p + j)) = omega (arith, suc-mul i w) in
    rw (z, ← get_or-drop w room (i * w + (k * p + j)) 0) (part_clean w p xs (drop w room) i (le_of_suc-le-suc h) c.1 k j f g e)

-- "Every octet of room that holds no octet of a live job is zero": octet j of place k of slot i.
pub room_rule : {s : State} → Reached s → (i k j : ℕ) → i < s.table.n → k ≤ s.table.d → j < place_of s.table
    → job_in (slot_at s.table i).assembly (slot_at s.table i).queue k ≤ j → get_or s.room (i * width s.table + (k * place_of s.table + j)) 0 ≡ 0
room_rule {s} r i k j h f g e =
    let t = s.table in
    let good = reached-good r in
    part_clean (width t) (place_of t) (live t) s.room i (rw (live-length t (within good)) h) (reached_clean r) k j
    (omega (arith, mul-le-mul_right (place_of t) f, suc-mul t.d (place_of t), suc-mul k (place_of t))) g (rw (live_at t i h) e)
