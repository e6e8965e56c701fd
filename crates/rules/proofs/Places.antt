-- The octets of one slot's part of the room, place by place: what each kind of step leaves there. The laws of `sets` carry it; the
-- rest is arithmetic on where a place begins.
use Rattle.std.specs.Prelude.{◌≡◌, refl, Bool, true, false, ℕ, zero, suc, ◌+◌, ◌-◌, ◌*◌, ◌≤◌, ◌<◌, eqb, ltb, length, get_or, take, drop, replicate}
use Rattle.std.proofs.Common.{sym, ap, ◌∙◌, subst, suc-mul, mul-le-mul_right, one-mul, arith, length-take, length-drop, get_or-take, get_or-drop, get_or-set_same, get_or-set_other, lt-ltb, le-ltb, ltb-true, ltb-false, eqb-true}
use mathlib.Core.List.{List, [], ◌∷◌}
use Rattle.std.proofs.lemmas.List.{length-replicate, get_or-replicate}
use Rattle.std.proofs.Math.ListN.{get_or-append}
use Rattle.std.proofs.lemmas.List.Edits.{sets}
use Rattle.std.proofs.Math.Seq.{length-sets}
use Rattle.std.proofs.lemmas.Bool.{eqb-false}
use Rattle.lists.specs.Choose.{choose_true, choose_false, if_cases}
use Rattle.octets.specs.Sets.{sets-before, sets-after, sets_inside}
use Rattle.sar_join.specs.declared.Assembly.{Assembly}
use Rattle.sar_join.specs.Joining.{is_idle, idle}
use Rattle.channel.specs.Limits.{depth_most}
use Rattle.channel.specs.declared.Queue.{Queue}
use Rattle.channel.specs.declared.Slot.{Slot}
use Rattle.channel.specs.declared.Table.{Table}
use Rattle.definition.specs.Mem.{Move, fill, move, moves}
use Rattle.definition.specs.Table.{place_of, width}
use Rattle.definition.specs.Frames.{queued, shifted}
use Rattle.rules.specs.Step.{Jobs, keep, leave, grow, finish, hand}
use Rattle.rules.specs.Sound.{Holding}
use Rattle.rules.specs.Places.{Clean, job_in}

-- ---- where a place is

-- another place lies wholly before or wholly behind
before : (p k c j : ℕ) → k < c → j < p → k * p + j < c * p
before p k c j h l = omega (arith, mul-le-mul_right p h, suc-mul k p)

behind : (p k c j : ℕ) → c < k → c * p + p ≤ k * p + j
behind p k c j h = omega (arith, mul-le-mul_right p h, suc-mul c p)

-- ---- what is written

zeros_at : (p at : ℕ) (part : List ℕ) (j : ℕ) → at + p ≤ length part → j < p → get_or (sets part at (replicate p 0)) (at + j) 0 ≡ 0
zeros_at p at part j h l =
    sets_inside 0 part at (replicate p 0) j (rw (length-replicate {A = ℕ} p 0) h) (rw (length-replicate {A = ℕ} p 0) l) ∙ get_or-replicate p j 0 0 l

-- what was written ends before, or begins after
outside : (part : List ℕ) (at : ℕ) (vs : List ℕ) (n i : ℕ) → length vs ≤ n → at + n ≤ i → get_or (sets part at vs) i 0 ≡ get_or part i 0
outside part at vs n i h l = sets-after 0 part at vs i (omega arith)

short : {A : Type 0} (n : ℕ) (l : List A) → length (take n l) ≤ n
short n l = omega (arith, length-take n l)

-- ---- the waiting jobs' lengths

waiting : (a b : Assembly) (q : Queue) (k : ℕ) → job_in a q (suc k) ≡ job_in b q (suc k)
waiting a b q k = refl

nothing_behind : (a : Assembly) (q : Queue) (k : ℕ) → q.count ≤ k → job_in a q (suc k) ≡ 0
nothing_behind a q k h = choose_false _ _ _ (le-ltb k q.count h)

stands : (a : Assembly) (q : Queue) (k : ℕ) → k < q.count → job_in a q (suc k) ≡ get_or q.lens k 0
stands a q k h = choose_true _ _ _ (lt-ltb k q.count h)

-- a job more, behind those that wait
queued_other : (a b : Assembly) (q : Queue) (len k : ℕ) → (k ≡ q.count → ⊥) → job_in b (queued len q) (suc k) ≡ job_in a q (suc k)
queued_other a b q len k e = go (ltb k q.count) refl
  where
    go : (t : Bool) → ltb k q.count ≡ t → job_in b (queued len q) (suc k) ≡ job_in a q (suc k)
    go true f =
        let h : k < q.count = ltb-true k q.count f in
        stands b (queued len q) k (omega arith) ∙ get_or-set_other q.lens q.count k len 0 e ∙ sym (stands a q k h)
    go false f =
        let h : q.count ≤ k = ltb-false k q.count f in
        nothing_behind b (queued len q) k (omega arith) ∙ sym (nothing_behind a q k h)

queued-last : (b : Assembly) (q : Queue) (len : ℕ) → q.count < length q.lens → job_in b (queued len q) (suc q.count) ≡ len
queued-last b q len h = stands b (queued len q) q.count (omega arith) ∙ get_or-set_same q.lens q.count len 0 h

-- a job fewer, at the front
shifted_at : (a : Assembly) (q : Queue) (k : ℕ) → q.count ≤ length q.lens → suc k < q.count → job_in a (shifted q) (suc k) ≡ job_in a q (suc (suc k))
shifted_at a q k l h =
    stands a (shifted q) k (omega arith)
    ∙ get_or-append (drop 1 q.lens) (0 ∷ []) 0 k (rw length-drop (omega arith))
    ∙ get_or-drop 1 q.lens k 0
    ∙ ap (λ (n : ℕ). get_or q.lens n 0) (omega arith)
    ∙ sym (stands a q (suc k) h)

shifted_behind : (a : Assembly) (q : Queue) (k : ℕ) → q.count ≤ suc k → job_in a (shifted q) (suc k) ≡ 0
shifted_behind a q k h = nothing_behind a (shifted q) k (omega arith)

-- no job at all
pub no-job : (a : Assembly) (q : Queue) (k : ℕ) → a.have ≡ 0 → q.count ≡ 0 → job_in a q k ≡ 0
no-job a q zero e f = e
no-job a q (suc k) e f = nothing_behind a q k (omega arith)

-- ---- what each kind of step leaves

module _ (t : Table) (k : ℕ) (x : Slot) (js part : List ℕ) (h : Holding t.d (place_of t) x.assembly x.queue) (long : length part ≡ width t) (most : t.d ≤ depth_most)
    (clean : Clean (place_of t) x.assembly x.queue part) where
  abbrev p : ℕ
  p = place_of t

  abbrev c : ℕ
  c = x.queue.count

  abbrev have : ℕ
  have = x.assembly.have

  -- a place of the part ends within it
  fits : (n : ℕ) → n ≤ t.d → n * p + p ≤ length part
  fits n l = omega (arith, mul-le-mul_right p l, suc-mul t.d p)

  clean_leave : Clean p idle x.queue (sets part 0 (replicate p 0))
  clean_leave zero j l e = let z : 0 * p + j ≡ 0 + j = omega arith in rw z (zeros_at p 0 part j (omega (arith, fits 0 (omega arith))) l)
  clean_leave (suc i) j l e =
      outside part 0 (replicate p 0) p (suc i * p + j) (omega (arith, length-replicate {A = ℕ} p 0)) (omega (arith, suc-mul i p)) ∙ clean (suc i) j l e

  clean_grow : (a : Assembly) → a.have ≡ have + k → a.have ≤ p → Clean p a x.queue (sets part have (take k js))
  clean_grow a s f zero j l e = outside part have (take k js) k (0 * p + j) (short k js) (omega arith) ∙ clean zero j l (omega arith)
  clean_grow a s f (suc i) j l e = outside part have (take k js) k (suc i * p + j) (short k js) (omega (arith, suc-mul i p)) ∙ clean (suc i) j l e

  -- a finished job stands at its place; the place for assembly is zero, and all other octets stay
  clean_finish : (len : ℕ) (new : List ℕ) → c < t.d → ((j : ℕ) → j < p → get_or new j 0 ≡ 0)
      → ((i : ℕ) → p ≤ i → i < suc c * p → get_or new i 0 ≡ get_or part i 0) → ((i : ℕ) → suc c * p + len ≤ i → get_or new i 0 ≡ get_or part i 0) → len ≤ p
      → Clean p idle (queued len x.queue) new
  clean_finish len new d zeroed left right w zero j l e = let z : 0 * p + j ≡ j = omega arith in rw z (zeroed j l)
  clean_finish len new d zeroed left right w (suc i) j l e = same_place (eqb i c) refl
    where
      apart : (i ≡ c → ⊥) → (b : Bool) → ltb i c ≡ b → get_or new (suc i * p + j) 0 ≡ 0
      apart other true f =
          let g = ltb-true i c f in
          left (suc i * p + j) (omega (arith, suc-mul i p)) (before p (suc i) (suc c) j (omega arith) l)
          ∙ clean (suc i) j l (rw (queued_other x.assembly idle x.queue len i other) at e)
      apart other false f =
          let g = ltb-false i c f in
          right (suc i * p + j) (omega (arith, behind p (suc i) (suc c) j (omega arith)))
          ∙ clean (suc i) j l (rw (queued_other x.assembly idle x.queue len i other) at e)

      same_place : (b : Bool) → eqb i c ≡ b → get_or new (suc i * p + j) 0 ≡ 0
      same_place true f =
          let g = eqb-true i c f in
          let q = queued-last idle x.queue len (let z = h.long in omega arith) in
          let r : len ≤ j = rw q at (subst (λ (n : ℕ). job_in idle (queued len x.queue) (suc n) ≤ j) g e) in
          right (suc i * p + j) (omega (arith, ap (λ (n : ℕ). suc n * p) g)) ∙ clean (suc i) j l (rw (nothing_behind x.assembly x.queue i (omega arith)) (omega arith))
      same_place false f = apart (eqb-false i c f) (ltb i c) refl

  clean_whole : (len : ℕ) → x.assembly.want ≡ 0 → len ≡ have + k → len ≤ p → c < t.d → Clean p idle (queued len x.queue) (sets part (suc c * p) (take k js))
  clean_whole len z e w d =
      let none = h.closed z in
      clean_finish len (sets part (suc c * p) (take k js)) d
      (λ j l. sets-before 0 part (suc c * p) (take k js) j (omega (arith, suc-mul c p)) ∙ (let q : 0 * p + j ≡ j = omega arith in rw q at (clean zero j l (omega arith))))
      (λ i _ g. sets-before 0 part (suc c * p) (take k js) i g) (λ i g. outside part (suc c * p) (take k js) k i (short k js) (omega arith)) w

  clean_joined : (len : ℕ) → len ≡ have + k → len ≤ p → c < t.d
      → Clean p idle (queued len x.queue) (sets (sets (sets part (suc c * p) (take have part)) (suc c * p + have) (take k js)) 0 (replicate p 0))
  clean_joined len e w d =
      let u = sets part (suc c * p) (take have part) in
      let v = sets u (suc c * p + have) (take k js) in
      let lv : length v ≡ length part = length-sets u (suc c * p + have) (take k js) ∙ length-sets part (suc c * p) (take have part) in
      let zs : length (replicate {A = ℕ} p 0) ≡ p = length-replicate p 0 in
      clean_finish len (sets v 0 (replicate p 0)) d
      (λ j l. let q : 0 + j ≡ j = omega arith in rw q at (zeros_at p 0 v j (omega (arith, fits 0 (omega arith))) l))
      (λ i f g. outside v 0 (replicate p 0) p i (omega arith) (omega arith)
      ∙ sets-before 0 u (suc c * p + have) (take k js) i (omega arith) ∙ sets-before 0 part (suc c * p) (take have part) i g)
      (λ i g. outside v 0 (replicate p 0) p i (omega arith) (omega (arith, suc-mul c p))
      ∙ outside u (suc c * p + have) (take k js) k i (short k js) (omega arith) ∙ outside part (suc c * p) (take have part) have i (short have part) (omega arith)) w

  -- later jobs move up one place, and the last that was occupied is zeroed
  clean_hand : 0 < c → Clean p x.assembly (shifted x.queue) (sets (sets part p (take ((c - 1) * p) (drop (2 * p) part))) (c * p) (replicate p 0))
  clean_hand some zero j l e =
      sets-before 0 _ (c * p) (replicate p 0) (0 * p + j) (omega (arith, mul-le-mul_right p some, suc-mul 0 p))
      ∙ sets-before 0 part p (take ((c - 1) * p) (drop (2 * p) part)) (0 * p + j) (omega arith) ∙ clean zero j l e
  clean_hand some (suc i) j l e = place (ltb (suc i) c) refl
    where
      f : ℕ
      f = (c - 1) * p

      moved : List ℕ
      moved = take f (drop (2 * p) part)

      up : List ℕ
      up = sets part p moved

      ends : f + p ≡ c * p
      ends = sym (suc-mul (c - 1) p) ∙ ap (λ (n : ℕ). n * p) (omega arith)

      moved-long : length moved ≡ f
      moved-long = length-take f (drop (2 * p) part) ∙ omega (arith, length-drop (2 * p) part, fits c h.count, ends)

      at-end : (b : Bool) → eqb (suc i) c ≡ b → (ltb (suc i) c ≡ false) → get_or (sets up (c * p) (replicate p 0)) (suc i * p + j) 0 ≡ 0
      at-end true g _ =
          let q : suc i * p + j ≡ c * p + j = ap (λ (n : ℕ). n * p + j) (eqb-true (suc i) c g) in
          rw q (zeros_at p (c * p) up j (rw (length-sets part p moved) (fits c h.count)) l)
      at-end false g g' =
          let q : c < suc i = (let m = eqb-false (suc i) c g in let n = ltb-false (suc i) c g' in omega arith) in
          let r = behind p (suc i) c j q in
          outside up (c * p) (replicate p 0) p (suc i * p + j) (omega (arith, length-replicate {A = ℕ} p 0)) r
          ∙ outside part p moved f (suc i * p + j) (omega (arith, moved-long)) (omega (arith, ends))
          ∙ clean (suc i) j l (rw (nothing_behind x.assembly x.queue i (omega arith)) (omega arith))

      place : (b : Bool) → ltb (suc i) c ≡ b → get_or (sets up (c * p) (replicate p 0)) (suc i * p + j) 0 ≡ 0
      place true g =
          let n = ltb-true (suc i) c g in
          let q : suc i * p + j ≡ p + (i * p + j) = omega (arith, suc-mul i p) in
          let r : 2 * p + (i * p + j) ≡ suc (suc i) * p + j = omega (arith, suc-mul i p, suc-mul (suc i) p) in
          let inside : i * p + j < f = before p i (c - 1) j (omega arith) l in
          sets-before 0 up (c * p) (replicate p 0) (suc i * p + j) (before p (suc i) c j n l)
          ∙ ap (λ (n : ℕ). get_or up n 0) q
          ∙ sets_inside 0 part p moved (i * p + j) (omega (arith, moved-long, ends, fits c h.count)) (omega (arith, moved-long))
          ∙ get_or-take f (drop (2 * p) part) (i * p + j) 0 inside
          ∙ get_or-drop (2 * p) part (i * p + j) 0
          ∙ ap (λ (n : ℕ). get_or part n 0) r
          ∙ clean (suc (suc i)) j l (rw (shifted_at x.assembly x.queue i (let z = h.long in let y = h.count in omega arith) n) at e)
      place false g = at-end (eqb (suc i) c) refl g

  pub clean_jobs : {a : Assembly} {q : Queue} {ms : List Move} → x.mtu ≤ p → Jobs t k x a q ms → Clean p a q (moves (λ x. x) js part ms)
  unfolding moves move fill
  clean_jobs m keep = clean
  clean_jobs m leave = clean_leave
  clean_jobs m (grow {a} b e l w) = clean_grow a e (omega arith)
  clean_jobs m (finish {len} b e w f) =
      if_cases (λ (ms : List Move). Clean p idle (queued len x.queue) (moves (λ x. x) js part ms)) (is_idle x.assembly)
      (λ z. clean_whole len (eqb-true x.assembly.want 0 z) e (omega arith) f) (λ _. clean_joined len e (omega arith) f)
  clean_jobs m (hand b some) = rw (one-mul p) (clean_hand some)
