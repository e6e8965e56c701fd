-- A job that waits stands, octet for octet, until it is taken or its slot is freed: a call after which no fewer jobs wait in a slot leaves those that waited there as they
-- were. Rests on the kinds of step (crate rules) and on the jobs of a part (Waiting.antt).
use Rattle.std.specs.Prelude.{◌≡◌, get_or, take, set, replicate}
use Rattle.std.proofs.Math.Path.{refl, ap}
use Rattle.std.proofs.Common.{sym, ◌∙◌, subst, arith, length-drop, take_at, drop-drop, length-take-le}
use mathlib.Core.List.{List, [], ◌∷◌, ◌++◌}
use Prim.Native.Nat.{ℕ, zero, suc, ◌+◌, ◌*◌, ◌≤◌, ◌<◌}
use Rattle.std.proofs.Math.Nat.{suc-mul, zero-mul, mul-le-mul_right}
use Rattle.std.proofs.Math.ListN.{length, drop, length-take}
use Rattle.std.proofs.lemmas.List.{length-replicate}
use Rattle.std.proofs.Math.Seq.{sets, length-sets, drop-append-add, get_or-set_other}
use Rattle.lists.specs.Choose.{if_cases}
use Rattle.octets.specs.Octets.{part}
use Rattle.octets.specs.Sets.{part-before, part-after}
use Rattle.sar_join.specs.declared.Assembly.{Assembly}
use Rattle.sar_join.specs.Joining.{is_idle}
use Rattle.channel.specs.declared.Queue.{Queue}
use Rattle.channel.specs.declared.Slot.{Slot}
use Rattle.channel.specs.declared.Table.{Table}
use Rattle.definition.specs.Mem.{Move, fill, move, moves, parts}
use Rattle.definition.specs.Table.{place_of, width, gap, slot_at, live}
use Rattle.definition.specs.Frames.{queued}
use Rattle.definition.specs.Calls.{Call, jobs}
use Rattle.definition.specs.Run.{State, outcome, after}
use Rattle.definition.proofs.Lengths.{length-moves}
use Rattle.rules.specs.Run.{Fits}
use Rattle.rules.specs.Step.{Jobs, keep, leave, grow, finish, hand, Step, hold, go, accept, free, allocate, Steps, rest, next}
use Rattle.rules.proofs.Forms.{live_at, live-length}
use Rattle.rules.specs.Sound.{Holding, Sound}
use Rattle.rules.specs.Good.{Good}
use Rattle.rules.proofs.Good.{within, slot_sound, call_steps}
use Rattle.rules_jobs.specs.Waiting.{job_of}
use Rattle.rules_jobs.proofs.Waiting.{every-at, grown_jobs}
use Rattle.rules_jobs.specs.Rejoin.{part_of, job_at}
use Rattle.rules_jobs.proofs.Rejoin.{part-long}
use Rattle.rules_jobs.specs.Standing.{Moved}

-- ---- one slot and its part of the room

module _ (t : Table) (k : ℕ) (x : Slot) (js xs : List ℕ) (h : Holding t.d (place_of t) x.assembly x.queue) (m : x.mtu ≤ place_of t) (long : length xs ≡ width t) where
  abbrev p : ℕ
  p = place_of t

  abbrev c : ℕ
  c = x.queue.count

  -- what is written behind the jobs that wait changes none of them
  behind : (len : ℕ) (new ys : List ℕ) (at n : ℕ) → n < c → length new ≡ length xs → suc c * p ≤ at → job_of p (queued len x.queue) new n ≡ job_of p x.queue xs n
      → job_of p (queued len x.queue) (sets new at ys) n ≡ job_of p x.queue xs n
  behind len new ys at n l same b e =
      let o = get_or-set_other x.queue.lens c n len 0 (λ e. omega arith) in
      let w = every-at p x.queue.lens c n h.lens l in
      let q : suc n * p + p ≤ suc c * p = omega (arith, mul-le-mul_right p l, suc-mul n p, suc-mul (suc n) p, suc-mul c p) in
      let r : suc c * p ≤ length xs = omega (arith, mul-le-mul_right p h.count, suc-mul c p, suc-mul t.d p) in
      part-before 0 new at ys (suc n * p) (get_or (set x.queue.lens c len) n 0) (rw o (omega arith)) (rw o (omega arith)) ∙ e

  jobs-stay : {a : Assembly} {q : Queue} {ms : List Move} → Jobs t k x a q ms → c ≤ q.count → (n : ℕ) → n < c → job_of p q (moves (λ y. y) js xs ms) n ≡ job_of p x.queue xs n
  unfolding moves move fill
  jobs-stay keep f n l = refl
  jobs-stay leave f n l = grown_jobs t x xs (replicate p 0) 0 n h long (rw (length-replicate {A = ℕ} p 0) (omega arith)) l
  jobs-stay (grow b e g w) f n l = grown_jobs t x xs (take k js) x.assembly.have n h long (omega (arith, length-take k js)) l
  jobs-stay (finish {len} b e w g) f n l =
      let o = get_or-set_other x.queue.lens c n len 0 (λ e. omega arith) in
      let before : job_of p (queued len x.queue) xs n ≡ job_of p x.queue xs n = ap (λ (r : ℕ). part xs (suc n * p) r) o in
      let u = sets xs (suc c * p) (take x.assembly.have xs) in
      let v = sets u (suc c * p + x.assembly.have) (take k js) in
      let lu : length u ≡ length xs = length-sets xs (suc c * p) (take x.assembly.have xs) in
      let lv : length v ≡ length xs = length-sets u (suc c * p + x.assembly.have) (take k js) ∙ lu in
      let small = every-at p x.queue.lens c n h.lens l in
      let fits : suc n * p + p ≤ length xs = omega (arith, mul-le-mul_right p h.count, mul-le-mul_right p l, suc-mul n p, suc-mul t.d p) in
      if_cases (λ (ms : List Move). job_of p (queued len x.queue) (moves (λ y. y) js xs ms) n ≡ job_of p x.queue xs n) (is_idle x.assembly)
      (λ _. behind len xs (take k js) (suc c * p) n l refl (omega arith) before)
      (λ _. part-after 0 v 0 (replicate p 0) (suc n * p) (get_or (set x.queue.lens c len) n 0) (rw (length-replicate {A = ℕ} p 0) (omega (arith, suc-mul n p))) (rw o (omega arith))
      ∙ behind len u (take k js) (suc c * p + x.assembly.have) n l lu (omega arith) (behind len xs (take x.assembly.have xs) (suc c * p) n l refl (omega arith) before))
  jobs-stay (hand b some) f n l = absurd (omega arith)

step_stays : (t : Table) (k : ℕ) (js : List ℕ) {x y : Slot} {ms : List Move} (xs : List ℕ) → Step t k x y ms → Sound t.d (place_of t) x → length xs ≡ width t → x.queue.count ≤ y.queue.count
    → (n : ℕ) → n < x.queue.count → job_of (place_of t) y.queue (moves (λ y. y) js xs ms) n ≡ job_of (place_of t) x.queue xs n
unfolding moves
step_stays t k js xs (hold h) s long f n l = refl
step_stays t k js {x} xs (go g a j o) s long f n l = jobs-stay t k x js xs s.holding s.mtu long j f n l
step_stays t k js xs (accept g) s long f n l = ap (λ (q : Queue). job_of (place_of t) q xs n) g.queue
step_stays t k js xs (free h) s long f n l = absurd (omega arith)
step_stays t k js xs (allocate g) s long f n l = let z = ap (λ (q : Queue). q.count) g.queue in absurd (omega arith)

-- ---- all slots, one part after the other

module _ (js : List ℕ) (w : ℕ) (ms : List Move) (mss : List (List Move)) (room : List ℕ) (l : w ≤ length room) where
  long-first : length (moves (λ y. y) js (take w room) ms) ≡ w
  long-first = length-moves (λ y. y) js (take w room) ms ∙ length-take-le w room l

  part-first : part (parts (λ y. y) js w (ms ∷ mss) room) (0 * w) w ≡ moves (λ y. y) js (part room (0 * w) w) ms
  unfolding parts
  part-first = let z : 0 * w ≡ 0 = zero-mul w in rw z (take_at (moves (λ y. y) js (take w room) ms) (parts (λ y. y) js w mss (drop w room)) w long-first)

  part-later : (i : ℕ) → part (parts (λ y. y) js w (ms ∷ mss) room) (suc i * w) w ≡ part (parts (λ y. y) js w mss (drop w room)) (i * w) w
  unfolding parts
  part-later i =
      let z : suc i * w ≡ w + i * w = omega (arith, suc-mul i w) in
      let first = moves (λ y. y) js (take w room) ms in
      let others = parts (λ y. y) js w mss (drop w room) in
      let e : drop (w + i * w) (first ++ others) ≡ drop (i * w) others = ap (λ (n : ℕ). drop (n + i * w) (first ++ others)) (sym long-first) ∙ drop-append-add first others (i * w) in
      rw z (ap (take w) e)

part_behind : (w i : ℕ) (room : List ℕ) → part (drop w room) (i * w) w ≡ part room (suc i * w) w
part_behind w i room = let z : suc i * w ≡ w + i * w = omega (arith, suc-mul i w) in rw z (ap (take w) (drop-drop (i * w) w room))

steps-moved : (t : Table) (k w : ℕ) (js : List ℕ) {xs ys : List Slot} {mss : List (List Move)} (room : List ℕ) → Steps t k xs ys mss → length room ≡ length xs * w → (i : ℕ) → i < length xs
    → Moved t k js (get_or xs i gap) (get_or ys i gap) (part room (i * w) w) (part (parts (λ y. y) js w mss room) (i * w) w)
unfolding parts moves
steps-moved t k w js {xs} room rest l i h = record { ms = []; step = hold (get_or xs i gap).hold; is = refl }
steps-moved t k w js room (next {ms = ms} {xs = xs} {mss = mss} e r) l zero h = record { ms = ms; step = e; is = part-first js w ms mss room (omega (arith, suc-mul (length xs) w)) }
steps-moved t k w js room (next {ms = ms} {xs = xs} {mss = mss} e r) l (suc i) h =
    let q = steps-moved t k w js (drop w room) r (length-drop w room ∙ omega (arith, suc-mul (length xs) w)) i (omega arith) in
    record {
      ms = q.ms;
      step = q.step;
      is = part-later js w ms mss room (omega (arith, suc-mul (length xs) w)) i ∙ q.is ∙ ap (λ (old : List ℕ). moves (λ y. y) js old q.ms) (part_behind w i room);
    }

-- ---- THE LAW

pub jobs_stand : (s : State) → Good s.table s.room → (a : Call) → Fits a → (i : ℕ) → i < s.table.n → (slot_at s.table i).queue.count ≤ (slot_at (after s a).table i).queue.count
    → (n : ℕ) → n < (slot_at s.table i).queue.count → job_at (after s a) i n ≡ job_at s i n
unfolding after
jobs_stand s g a f i h le n l =
    let t = s.table in
    let p = call_steps s g a f in
    let js = jobs t a in
    let inside : i < length (live t) = subst (λ (b : ℕ). i < b) (sym (live-length t (within g))) h in
    let q = steps-moved t (length js) (width t) js s.room p.slots (g.size ∙ ap (λ (b : ℕ). b * width t) (sym (live-length t (within g)))) i inside in
    let was = live_at t i h in
    let is = live_at (outcome s a).table i (rw p.n h) in
    let new = parts (λ y. y) js (width t) (outcome s a).parts s.room in
    let z = step_stays t (length js) js (part_of s i) (subst (λ (y : Slot). Step t (length js) (get_or (live t) i gap) y q.ms) is q.step) (subst (λ (y : Slot). Sound t.d (place_of t) y) (sym was) (slot_sound g i h)) (part-long s g i h)
    (subst (λ (y : Slot). y.queue.count ≤ (slot_at (outcome s a).table i).queue.count) (sym was) le) n (subst (λ (y : Slot). n < y.queue.count) (sym was) l) in
    rw (p.d, p.m) (ap (λ (xs : List ℕ). job_of (place_of t) (slot_at (outcome s a).table i).queue xs n) q.is ∙ z ∙ ap (λ (y : Slot). job_of (place_of t) y.queue (part_of s i) n) was)
