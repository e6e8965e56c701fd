-- The jobs that wait in a slot's part of the room, octet for octet: a job that becomes whole, an assembly that grows, a job that is taken. Rests
-- on the laws of `sets` and `part`.
use Rattle.std.specs.Prelude.{◌≡◌, refl, true, leb, length, get_or, drop, set, replicate}
use Rattle.std.proofs.Math.Path.{sym, ap, subst}
use Rattle.std.proofs.Common.{◌∙◌, suc-mul, one-mul, mul-le-mul_right, arith, length-take, length-drop, take_at, get_or-set_same, get_or-set_other, get_or-take, get_or-drop, leb-true, eq-eqb, ne_eqb}
use mathlib.Core.List.{List, [], ◌∷◌, ◌++◌}
use Prim.Native.Nat.{ℕ, zero, suc, ◌+◌, ◌-◌, ◌*◌, ◌≤◌, ◌<◌}
use Rattle.std.proofs.Math.ListN.{take, get_or-append}
use Rattle.std.proofs.lemmas.List.{length-replicate}
use Rattle.std.proofs.Math.Seq.{sets, length-sets, take_all, ext_get_or}
use Rattle.std.proofs.lemmas.List.Edits.{sets-eq}
use Rattle.lists.specs.Choose.{choose_true, choose_false}
use Rattle.lists.specs.Every.{every}
use Rattle.octets.specs.Octets.{part}
use Rattle.octets.specs.Sets.{sets-append, sets-before, sets_inside, part_length, part_at, part-before, part-after, part_same}
use Rattle.sar_join.specs.Joining.{is_idle}
use Rattle.channel.specs.Limits.{depth_most}
use Rattle.channel.specs.declared.Slot.{Slot}
use Rattle.channel.specs.declared.Table.{Table}
use Rattle.definition.specs.Mem.{Move, fill, move, moves}
use Rattle.definition.specs.Table.{place_of, width}
use Rattle.definition.specs.Frames.{queued, finishing, shifted, moving_up}
use Rattle.lists.specs.Both.{and_left, and_right}
use Rattle.rules.specs.Sound.{Holding}
use Rattle.rules_jobs.specs.Waiting.{job_of}

-- A waiting job lies within its place.
pub every-at : (p : ℕ) (lens : List ℕ) (c k : ℕ) → every (λ n. leb n p) (take c lens) ≡ true → k < c → get_or lens k 0 ≤ p
unfolding every
every-at p [] c k e h = omega arith
every-at p (x ∷ xs) (suc c) zero e h = leb-true x p (and_left (leb x p) _ e)
every-at p (x ∷ xs) (suc c) (suc k) e h = every-at p xs c k (and_right (leb x p) _ e) (omega arith)
every-at p (x ∷ xs) zero k e h = absurd (omega arith)

-- ---- a job that becomes whole

module _ (t : Table) (x : Slot) (xs : List ℕ) (h : Holding t.d (place_of t) x.assembly x.queue) (long : length xs ≡ width t) (most : t.d ≤ depth_most)
    (free : x.queue.count < t.d) where
  abbrev p : ℕ
  p = place_of t

  abbrev c : ℕ
  c = x.queue.count

  fits : (n : ℕ) → n ≤ t.d → n * p + p ≤ length xs
  fits n l = omega (arith, mul-le-mul_right p l, suc-mul t.d p)

  -- what stands in the part once sdu was put at the next free place: it, and every job that waited before
  pub record Waits (sdu new : List ℕ) : Type 0 where
    pub whole : job_of p (queued (length sdu) x.queue) new c ≡ sdu
    pub others : (k : ℕ) → k < c → job_of p (queued (length sdu) x.queue) new k ≡ job_of p x.queue xs k

  placed : (sdu : List ℕ) → length sdu ≤ p → Waits sdu (sets xs (suc c * p) sdu)
  placed sdu w =
      let f = fits (suc c) (omega arith) in
      record {
        whole =
            ap (λ (n : ℕ). part (sets xs (suc c * p) sdu) (suc c * p) n) (get_or-set_same x.queue.lens c (length sdu) 0 (let z = h.long in let y = h.count in omega arith))
            ∙ part_same 0 xs (suc c * p) sdu (omega arith);
        others = λ k l.
            let n = get_or x.queue.lens k 0 in
            let m : n ≤ p = every-at p x.queue.lens c k h.lens l in
            let b : suc k * p + p ≤ suc c * p = omega (arith, mul-le-mul_right p l, suc-mul k p, suc-mul (suc k) p, suc-mul c p) in
            ap (λ (r : ℕ). part (sets xs (suc c * p) sdu) (suc k * p) r) (get_or-set_other x.queue.lens c k (length sdu) 0 (λ e. omega arith))
            ∙ part-before 0 xs (suc c * p) sdu (suc k * p) n (omega arith) (omega arith);
      }

  -- zeros in the place for assembly change no job
  zeroed : (sdu new : List ℕ) → length new ≡ length xs → length sdu ≤ p → Waits sdu new → Waits sdu (sets new 0 (replicate p 0))
  zeroed sdu new same w v =
      let f = fits (suc c) (omega arith) in
      let zs : length (replicate {A = ℕ} p 0) ≡ p = length-replicate p 0 in
      let len = get_or-set_same x.queue.lens c (length sdu) 0 (let z = h.long in let y = h.count in omega arith) in
      record {
        whole = part-after 0 new 0 (replicate p 0) (suc c * p) (get_or (set x.queue.lens c (length sdu)) c 0) (omega (arith, suc-mul c p)) (rw len (omega arith)) ∙ v.whole;
        others = λ k l.
            let n = get_or (set x.queue.lens c (length sdu)) k 0 in
            let m : n ≤ p = rw (get_or-set_other x.queue.lens c k (length sdu) 0 (λ e. omega arith)) (every-at p x.queue.lens c k h.lens l) in
            let b : suc k * p + p ≤ suc c * p = omega (arith, mul-le-mul_right p l, suc-mul k p, suc-mul (suc k) p, suc-mul c p) in
            part-after 0 new 0 (replicate p 0) (suc k * p) n (omega (arith, suc-mul k p)) (omega arith) ∙ v.others k l;
      }

  -- the moves of a frame that completes a job: of one that it carries alone, or of one that was assembled
  pub finish-alone : (js : List ℕ) → x.assembly.want ≡ 0 → length js ≤ p → Waits js (moves (λ y. y) js xs (finishing t x (length js)))
  unfolding moves move fill
  finish-alone js z w =
      subst (λ (ms : List Move). Waits js (moves (λ y. y) js xs ms)) (sym (choose_true (is_idle x.assembly) _ _ (eq-eqb x.assembly.want 0 z)))
      (subst (λ (ys : List ℕ). Waits js (sets xs (suc c * p) ys)) (sym (take_all (length js) js (omega arith))) (placed js w))

  pub finish-joined : (done js : List ℕ) → (x.assembly.want ≡ 0 → ⊥) → x.assembly.have ≡ length done → take (length done) xs ≡ done → length (done ++ js) ≤ p
      → Waits (done ++ js) (moves (λ y. y) js xs (finishing t x (length js)))
  unfolding moves move fill
  finish-joined done js some e there w =
      let q = suc c * p in
      let u = sets (sets xs q (take x.assembly.have xs)) (q + x.assembly.have) (take (length js) js) in
      let a : take x.assembly.have xs ≡ done = ap (λ (n : ℕ). take n xs) e ∙ there in
      let b : take (length js) js ≡ js = take_all (length js) js (omega arith) in
      let v : u ≡ sets xs q (done ++ js) = rw (a, b, e) (sym (sets-append xs q done js)) in
      subst (λ (ms : List Move). Waits (done ++ js) (moves (λ y. y) js xs ms)) (sym (choose_false (is_idle x.assembly) _ _ (ne_eqb x.assembly.want 0 some)))
      (zeroed (done ++ js) u (length-sets _ (q + x.assembly.have) (take (length js) js) ∙ length-sets xs q (take x.assembly.have xs)) w
      (subst (λ (ys : List ℕ). Waits (done ++ js) ys) (sym v) (placed (done ++ js) w)))

-- ---- an assembly that grows: what is there, and then the frame's octets

pub grown_there : (xs done js : List ℕ) → length done + length js ≤ length xs → take (length done) xs ≡ done → take (length (done ++ js)) (sets xs (length done) js) ≡ done ++ js
grown_there xs done js l e =
    ap (take (length (done ++ js))) (sets-eq js xs (length done) l ∙ ap (λ (r : List ℕ). r ++ js ++ drop (length done + length js) xs) e)
    ∙ take_at (done ++ js) (drop (length done + length js) xs) (length (done ++ js)) refl

-- and no job that waits is touched by it
pub grown_jobs : (t : Table) (x : Slot) (xs js : List ℕ) (at k : ℕ) → Holding t.d (place_of t) x.assembly x.queue → length xs ≡ width t → at + length js ≤ place_of t → k < x.queue.count
    → job_of (place_of t) x.queue (sets xs at js) k ≡ job_of (place_of t) x.queue xs k
grown_jobs t x xs js at k h long w l =
    let p = place_of t in
    let n = get_or x.queue.lens k 0 in
    let m : n ≤ p = every-at p x.queue.lens x.queue.count k h.lens l in
    let b : suc k * p ≤ t.d * p = (let y = h.count in mul-le-mul_right p (omega arith)) in
    part-after 0 xs at js (suc k * p) n (omega (arith, suc-mul k p)) (omega (arith, suc-mul t.d p))

-- ---- a job that is taken: the others move up

module _ (t : Table) (x : Slot) (xs : List ℕ) (h : Holding t.d (place_of t) x.assembly x.queue) (long : length xs ≡ width t) (most : t.d ≤ depth_most) where
  pub moved_up : (js : List ℕ) (k : ℕ) → suc k < x.queue.count
      → job_of (place_of t) (shifted x.queue) (moves (λ y. y) js xs (moving_up t x)) k ≡ job_of (place_of t) x.queue xs (suc k)
  unfolding moves move fill
  moved_up js k l = rw (one-mul (place_of t)) (ap (λ (r : ℕ). part new (suc k * p) r) lens ∙ ext_get_or 0 _ _ (here ∙ sym there) (λ i m. octet i (rw here at m)))
    where
      p : ℕ
      p = place_of t

      c : ℕ
      c = x.queue.count

      f : ℕ
      f = (c - 1) * p

      up : List ℕ
      up = take f (drop (2 * p) xs)

      new : List ℕ
      new = sets (sets xs p up) (c * p) (replicate p 0)

      n : ℕ
      n = get_or x.queue.lens (suc k) 0

      small : n ≤ p
      small = every-at p x.queue.lens c (suc k) h.lens l

      lens : get_or (drop 1 x.queue.lens ++ (0 ∷ [])) k 0 ≡ n
      lens =
          get_or-append (drop 1 x.queue.lens) (0 ∷ []) 0 k (rw length-drop (let z = h.long in let y = h.count in omega arith))
          ∙ get_or-drop 1 x.queue.lens k 0 ∙ ap (λ (r : ℕ). get_or x.queue.lens r 0) (omega arith)

      ends : f + p ≡ c * p
      ends = sym (suc-mul (c - 1) p) ∙ ap (λ (r : ℕ). r * p) (omega arith)

      whole : c * p + p ≤ length xs
      whole = let y = h.count in omega (arith, mul-le-mul_right p y, suc-mul t.d p)

      before : suc (suc k) * p ≤ c * p
      before = mul-le-mul_right p l

      up_long : length up ≡ f
      up_long = length-take f (drop (2 * p) xs) ∙ omega (arith, length-drop (2 * p) xs, ends, whole)

      new_long : length new ≡ length xs
      new_long = length-sets (sets xs p up) (c * p) (replicate p 0) ∙ length-sets xs p up

      here : length (part new (suc k * p) n) ≡ n
      here = part_length new (suc k * p) n (omega (arith, new_long, before, whole, small, suc-mul (suc k) p))

      there : length (part xs (suc (suc k) * p) n) ≡ n
      there = part_length xs (suc (suc k) * p) n (omega (arith, before, whole, small))

      octet : (i : ℕ) → i < n → get_or (part new (suc k * p) n) i 0 ≡ get_or (part xs (suc (suc k) * p) n) i 0
      octet i m =
          let a : suc k * p + i ≡ p + (k * p + i) = omega (arith, suc-mul k p) in
          let b : 2 * p + (k * p + i) ≡ suc (suc k) * p + i = omega (arith, suc-mul k p, suc-mul (suc k) p) in
          let g : k * p + i < f = omega (arith, ends, before, small, suc-mul k p, suc-mul (suc k) p) in
          part_at 0 new (suc k * p) n i m
          ∙ sets-before 0 (sets xs p up) (c * p) (replicate p 0) (suc k * p + i) (omega (arith, before, small, suc-mul (suc k) p))
          ∙ ap (λ (r : ℕ). get_or (sets xs p up) r 0) a
          ∙ sets_inside 0 xs p up (k * p + i) (omega (arith, up_long, ends, whole)) (omega (arith, up_long))
          ∙ get_or-take f (drop (2 * p) xs) (k * p + i) 0 g
          ∙ get_or-drop (2 * p) xs (k * p + i) 0
          ∙ ap (λ (r : ℕ). get_or xs r 0) b
          ∙ sym (part_at 0 xs (suc (suc k) * p) n i m)
