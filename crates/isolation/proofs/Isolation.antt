-- Demand 3, proved: by induction on the calls, from `rel_parts` and `rel_memory` (Same), `contained_step` (Contained), `memory_masked`
-- (Masked), and `safe`, `down_clears` and `hands` (crate definition).
use Rattle.std.specs.Prelude.{◌≡◌, true, false, ◌&&◌, ℕ, zero, suc, ◌*◌, ◌<◌, eqb, leb, length, take, get_or}
use Rattle.std.proofs.Math.Path.{refl, sym, ap, ap₂, subst}
use Rattle.std.proofs.Common.{◌∙◌, arith, get_or-take, eqb-true, eq-eqb, ne_eqb, leb-true}
use Rattle.std.proofs.Math.Bool.{Bool, and-false}
use Rattle.std.proofs.lemmas.Bool.{false≢true, not-false}
use mathlib.Core.List.{List, [], ◌∷◌, map}
use Rattle.std.proofs.lemmas.List.{length-map, length-replicate}
use Rattle.lists.specs.Choose.{choose, if_cases}
use Rattle.lists.specs.Both.{and_left, and_right}
use Rattle.channel.specs.Limits.{slots_most}
use Rattle.channel.specs.declared.Slot.{Slot}
use Rattle.channel.specs.declared.Table.{Table}
use Rattle.definition.specs.Table.{fresh, gap, slot_at, live, width, room_size}
use Rattle.definition.specs.Outcome.{Outcome}
use Rattle.definition.specs.Asking.{Made, blank, make}
use Rattle.definition.specs.Calls.{Window, Call, frame, sends, portions, down, plain, jobs, bare, carrier, frames_out, job_out, decide, Holder, is_by}
use Rattle.definition.specs.Numbers.{answer_number}
use Rattle.definition.specs.Ending.{itself}
use Rattle.definition.specs.Run.{State, lent, out_window, job_window, outcome, room_left, memory_left, after, made, run, outcomes}
use Rattle.definition.proofs.Public.{framed-bare, framed-count, sent-bare, sent-count, portioned-bare, portioned-count}
use Rattle.definition.specs.Forms.{Fit}
use Rattle.definition.specs.Safe.{Safe, Without}
use Rattle.definition.proofs.Safe.{safe, down_clears}
use Rattle.definition.proofs.Lengths.{length-parts}
use Rattle.definition.specs.Mem.{Fill, fills}
use Rattle.definition.specs.Handed.{OwnFills}
use Rattle.definition.proofs.Handed.{hands}
use Rattle.isolation.specs.Statement.{carries, is_down, over_after, Exchanged, sent, portioned, framed, Alike, same, exchanged, AlikeRuns, Marks, unmarked, memory_marks, marked, marks_from, marks_of, Isolated, Handed, handed_by, handed, Demand3}
use Rattle.isolation.specs.Statement as Statement
use Rattle.isolation.proofs.Words.{owns-is, jobs-is, carries-is, frames_out-is, job_out-is, not-assembling}
use Rattle.isolation.specs.Same.{Rel, nil, cons}
use Rattle.isolation.proofs.Same.{rel_take, rel_drop, rel_map, rel_lent, rel_length, rel_parts, rel_fills, rel_memory}
use Rattle.isolation.specs.Contained.{Off, Clean}
use Rattle.isolation.proofs.Contained.{clean_dark, Contained, contained_step, contained_without, contained_dead, contained_clean, contained_slot}
use Rattle.isolation.proofs.Masked.{clean_stretch, clean_nobodys, memory_masked}
use Rattle.isolation.specs.Isolation.{Agree, Common, Start, hot, out_and_job, state}

agree_same : (xs : List ℕ) → Rel Agree xs xs (map (λ _. false) xs)
agree_same [] = nil
agree_same (x ∷ xs) = cons (λ _. refl) (agree_same xs)

agree_true : (xs ys : List ℕ) → length xs ≡ length ys → Rel Agree xs ys (map (λ _. true) xs)
agree_true [] [] e = nil
agree_true [] (y ∷ ys) e = absurd (omega arith)
agree_true (x ∷ xs) [] e = absurd (omega arith)
agree_true (x ∷ xs) (y ∷ ys) e = cons (λ f. absurd (false≢true (sym f))) (agree_true xs ys (omega arith))

agree_jobs : (xs ys : List ℕ) (b : Bool) → length xs ≡ length ys → (b ≡ false → xs ≡ ys) → Rel Agree xs ys (map (λ _. b) xs)
agree_jobs xs ys true e f = agree_true xs ys e
agree_jobs xs ys false e f = subst (λ (zs : List ℕ). Rel Agree xs zs (map (λ _. false) xs)) (f refl) (agree_same xs)

agree_at : {xs ys : List ℕ} {ms : List Bool} → Rel Agree xs ys ms → (i : ℕ) → get_or ms i false ≡ false → get_or xs i 0 ≡ get_or ys i 0
agree_at nil i e = refl
agree_at (cons h r) zero e = h e
agree_at (cons h r) (suc i) e = agree_at r i e

agree_clean : {xs ys : List ℕ} {ms : List Bool} → Rel Agree xs ys ms → Clean ms → xs ≡ ys
agree_clean nil c = refl
agree_clean (cons h r) (cons e c) = ap₂ (λ (x : ℕ) (xs : List ℕ). x ∷ xs) (h e) (agree_clean r c)

clean_jobs : (xs : List ℕ) (b : Bool) → b ≡ false → Clean (map (λ _. b) xs)
clean_jobs xs b e = rel_map Off (λ _. b) (λ _. b) (λ _. b) (λ x. e) xs

exchanged_common : {k : ℕ} {t : Table} {c d : Call} → Exchanged k t c d → Common k t c d
exchanged_common {t = t} (sent {s = s} {x = x} {y = y} {out = o} h e) = record { bare = sent-bare t s x y o; count = sent-count t s x y o e; out = refl; job = refl; frames = refl; tray = refl }
exchanged_common {t = t} (portioned {s = s} {x = x} {y = y} {out = o} h e) = record { bare = portioned-bare t s x y o; count = portioned-count t s x y o e; out = refl; job = refl; frames = refl; tray = refl }
exchanged_common {k} {t} (framed {cid = cid} {x = x} {y = y} e f) = record { bare = framed-bare t k cid x y (λ n. f (not-assembling t cid n)); count = framed-count t k cid x y e; out = refl; job = refl; frames = refl; tray = refl }

exchanged_carries : {k : ℕ} {t : Table} {c d : Call} → Exchanged k t c d → carries k t c ≡ true
exchanged_carries (sent h e) = h
exchanged_carries (portioned h e) = h
exchanged_carries {k} (framed e f) = eq-eqb k k refl

module _ {k j over : ℕ} {t : Table} {c : Call} where
  alike_common : {d : Call} → Alike k j over t c d → Common k t c d
  alike_common same = record { bare = refl; count = refl; out = refl; job = refl; frames = refl; tray = refl }
  alike_common (exchanged g h) = exchanged_common h

  alike_jobs : {d : Call} → Alike k j over t c d → hot k j over t c ≡ false → jobs t c ≡ jobs t d
  alike_jobs same f = refl
  alike_jobs (exchanged g h) f = absurd (false≢true (sym f ∙ ap₂ (λ (a b : Bool). a && b) (eq-eqb over j g) (sym (carries-is k t c) ∙ exchanged_carries h)))

-- a link-down that ends a life leaves no slot of its link
clears : (k : ℕ) (t : Table) (c : Call) (count room out job : ℕ) → is_down k c ≡ true
    → answer_number (decide t (bare t c) count room out job).answer ≡ 0 → Without k (live (decide t (bare t c) count room out job).table)
unfolding decide bare
clears k t (frame link cid payload) count room out job e = absurd (false≢true e)
clears k t (sends s sdu w) count room out job e = absurd (false≢true e)
clears k t (portions s octets w) count room out job e = absurd (false≢true e)
clears k t (down link) count room out job e = rw (eqb-true k link e) (down_clears t link room)
clears k t (plain r v w) count room out job e = absurd (false≢true e)

-- where a call hands out what is link k's nothing is compared
unless : (b b' : Bool) (x y : List ℕ) → b ≡ b' → (b ≡ false → x ≡ y) → choose b [] x ≡ choose b' [] y
unfolding choose
unless true true x y e f = refl
unless false false x y e f = f refl
unless true false x y e f = absurd (false≢true (sym e))
unless false true x y e f = absurd (false≢true e)

module _ (k j : ℕ) where
  -- what a call does to the marks, in the definition's words
  abbrev told : Table → Outcome → Marks → Call → Marks
  told t o m c =
      let js = map (λ _. hot k j m.over t c) (jobs t c) in
      record {
        over = over_after k m.over o c;
        room = room_left unmarked js t o m.room;
        memory = memory_marks o (out_window c) (job_window c) (is_by k (frames_out t c)) (is_by k (job_out t c)) js m.room m.memory;
      }

  marked-told : (t : Table) (o : Outcome) (m : Marks) (c : Call) → marked k j t o m c ≡ told t o m c
  unfolding marked
  marked-told t o m c = rw (carries-is k t c, jobs-is t c, frames_out-is k t c, job_out-is k t c) refl

  record Kept (t : Table) (ra rb ma mb : List ℕ) (m : Marks) : Type 0 where
    room : Rel Agree ra rb m.room
    memory : Rel Agree ma mb m.memory
    contained : Contained k (width t) (eqb m.over j) (live t) m.room
    sized : length ra ≡ room_size t
    fit : Fit t
    early : m.over < j → Clean m.memory

  -- no mark stands in the room outside that life
  room_clean : {t : Table} {ra rb ma mb : List ℕ} {m : Marks} → Kept t ra rb ma mb m → ¬ (m.over ≡ j) → Clean m.room
  room_clean {t} {m = m} h n =
      contained_dead k (width t) (live t) m.room (subst (λ (b : Bool). Contained k (width t) b (live t) m.room) (ne_eqb m.over j n) h.contained)

  isolated : {t : Table} {ra rb ma mb : List ℕ} {m : Marks} → Kept t ra rb ma mb m → Isolated k j m (state t ra ma) (state t rb mb)
  isolated {t} {ra} {rb} {ma} {mb} {m} h =
      record {
        table = refl;
        size = rel_length Agree h.memory;
        memory = agree_at h.memory;
        sizes = (h.sized, sym (rel_length Agree h.room) ∙ h.sized);
        room = λ s lt e. agree_clean (rel_take Agree (width t) (rel_drop Agree (s * width t) h.room))
            (contained_slot k (width t) _ (live t) m.room s h.contained
            (rw (get_or-take t.n t.slots s gap lt) (sym (owns-is k t s) ∙ e)));
        places = agree_at h.room;
        before = λ lt. ap₂ (state t) (agree_clean h.room (room_clean h (λ e. omega arith))) (agree_clean h.memory (h.early lt));
        down = λ lt. agree_clean h.room (room_clean h (λ e. omega arith));
      }

  -- One call. The second run's outcome and windows are the first's.
  module _ (t : Table) (ra rb ma mb : List ℕ) (m : Marks) (h : Kept t ra rb ma mb m) (c d : Call) (e : Alike k j m.over t c d) where
    abbrev o : Outcome
    o = outcome (state t ra ma) c

    lengths : (v w : Window) → v ≡ w → length (lent w mb) ≡ length (lent v ma)
    lengths v w q = ap (λ (u : Window). length (lent u mb)) (sym q) ∙ sym (rel_length Agree (rel_lent Agree v h.memory))

    agreed : outcome (state t rb mb) d ≡ o
    agreed =
        let q = alike_common e in
        rw (← q.bare, ← q.count, ← rel_length Agree h.room, lengths (out_window c) (out_window d) q.out, lengths (job_window c) (job_window d) q.job) refl

    -- the second run's state, told by the first's outcome
    next_b : State
    next_b =
        state o.table (room_left itself (jobs t d) t o rb) (memory_left itself (jobs t d) o (out_window c) (job_window c) rb mb)

    afters : after (state t rb mb) d ≡ next_b
    unfolding after next_b
    afters =
        let q = alike_common e in
        ap (λ (p : Outcome). state p.table (room_left itself (jobs t d) t p rb) (memory_left itself (jobs t d) p (out_window d) (job_window d) rb mb)) agreed
        ∙ ap₂ (λ (v w : Window). state o.table (room_left itself (jobs t d) t o rb) (memory_left itself (jobs t d) o v w rb mb)) (sym q.out) (sym q.job)

    jobs_agree : Rel Agree (jobs t c) (jobs t d) (map (λ _. hot k j m.over t c) (jobs t c))
    jobs_agree = agree_jobs (jobs t c) (jobs t d) (hot k j m.over t c) (alike_common e).count (alike_jobs e)

    -- what the call hands out is marked only where it is that link's
    handed_out : memory_left unmarked (map (λ _. hot k j m.over t c) (jobs t c)) o (out_window c) (job_window c) m.room m.memory
        ≡ memory_marks o (out_window c) (job_window c) (is_by k (frames_out t c)) (is_by k (job_out t c)) (map (λ _. hot k j m.over t c) (jobs t c)) m.room m.memory
    handed_out =
        memory_masked t k (carrier t c) (frames_out t c) (job_out t c) _ m.room m.memory o (out_window c) (job_window c) (hands t h.fit c _ _ _ _)
        (λ g f e. clean_jobs (jobs t c) _ (ap (λ (x : Bool). eqb m.over j && x) (ap (is_by k) e ∙ f) ∙ and-false (eqb m.over j)))
        (λ g f from n p. clean_stretch k (width t) _ (live t) m.room p.slot from n h.contained
        (rw (get_or-take t.n t.slots p.slot gap p.within) (ap (is_by k) p.whose ∙ f)) p.low p.high)

    -- what it hands out of another's, or of nobody's, is equal
    fills_same : (g : Holder) (fs gs : List Fill) → fs ≡ gs → OwnFills t (carrier t c) g fs → is_by k g ≡ false
        → fills itself (Statement.jobs t c) ra fs ≡ fills itself (Statement.jobs t d) rb gs
    fills_same g fs gs q p f =
        ap (λ (js : List ℕ). fills itself js ra fs) (jobs-is t c)
        ∙ agree_clean (rel_fills Agree itself itself unmarked (λ x _. refl) jobs_agree h.room fs)
        (clean_nobodys t (carrier t c) g _ m.room
        (λ e. clean_jobs (jobs t c) _ (ap (λ (x : Bool). eqb m.over j && x) (ap (is_by k) e ∙ f) ∙ and-false (eqb m.over j)))
        (λ from n p. clean_stretch k (width t) _ (live t) m.room p.slot from n h.contained
        (rw (get_or-take t.n t.slots p.slot gap p.within) (ap (is_by k) p.whose ∙ f)) p.low p.high)
        p)
        ∙ ap (λ (l : List Fill). fills itself (jobs t d) rb l) q
        ∙ ap (λ (js : List ℕ). fills itself js rb gs) (sym (jobs-is t d))

    handed-same : handed_by k (state t ra ma) c ≡ handed_by k (state t rb mb) d
    handed-same =
        let p = hands t h.fit c _ _ _ _ in
        ap₂ out_and_job
        (unless _ _ _ _ (alike_common e).frames
        (λ f. fills_same (frames_out t c) o.out (outcome (state t rb mb) d).out (ap (λ (x : Outcome). x.out) (sym agreed)) p.out (sym (frames_out-is k t c) ∙ f)))
        (unless _ _ _ _ (alike_common e).tray
        (λ f. fills_same (job_out t c) o.job (outcome (state t rb mb) d).job (ap (λ (x : Outcome). x.job) (sym agreed)) p.tray (sym (job_out-is k t c) ∙ f)))

    -- before that life the call marks nothing
    still_early : m.over < j → Clean (told t o m c).memory
    still_early lt =
        let live-not : eqb m.over j ≡ false = ne_eqb m.over j (λ e. omega arith) in
        subst Clean handed_out
        (rel_memory Off unmarked unmarked unmarked (λ x. refl) (clean_jobs (jobs t c) _ (ap (λ (x : Bool). x && is_by k (carrier t c)) live-not))
        o (out_window c) (job_window c) (room_clean h (λ e. omega arith)) (h.early lt))

    kept-told : Kept o.table (after (state t ra ma) c).room next_b.room (after (state t ra ma) c).memory next_b.memory (told t o m c)
    unfolding after next_b over_after
    kept-told =
        let b : Bool = hot k j m.over t c in
        let js : List Bool = map (λ _. b) (jobs t c) in
        let s : Safe t (carrier t c) o = safe t h.fit c _ _ _ _ in
        let ms : List Bool = room_left unmarked js t o m.room in
        let now : Contained k (width t) (eqb m.over j) (live o.table) ms =
        contained_step k (width t) (eqb m.over j) (carrier t c) js (λ f. clean_jobs (jobs t c) b f) s.parts m.room h.contained in
        record {
          room = rel_parts Agree itself itself unmarked (λ x _. refl) jobs_agree (width t) h.room o.parts;
          memory = subst (λ (l : List Bool). Rel Agree (after (state t ra ma) c).memory next_b.memory l) handed_out
              (rel_memory Agree itself itself unmarked (λ x _. refl) jobs_agree o (out_window c) (job_window c) h.room h.memory);
          contained = rw s.width
              (if_cases (λ (n : ℕ). Contained k (width t) (eqb n j) (live o.table) ms) _
              (λ f. contained_clean k (width t) _ (live o.table) ms
              (contained_without k (width t) _ (live o.table) ms
              (clears k t c _ _ _ _ (and_left _ _ f) (eqb-true _ _ (and_right (is_down k c) _ f))) now))
              (λ _. now));
          sized = length-parts itself (jobs t c) (width t) o.parts ra ∙ h.sized ∙ rw (s.slots, s.width) refl;
          fit = s.fit;
          early = if_cases (λ (n : ℕ). n < j → Clean (told t o m c).memory) _ (λ _ lt. still_early (omega arith)) (λ _ lt. still_early lt);
        }

    kept : Kept o.table (after (state t ra ma) c).room next_b.room (after (state t ra ma) c).memory next_b.memory (marked k j t o m c)
    kept =
        subst (Kept o.table (after (state t ra ma) c).room next_b.room (after (state t ra ma) c).memory next_b.memory) (sym (marked-told t o m c)) kept-told

  record Both (m : Marks) (a b : State) (x y : List Outcome) (u v : List Handed) : Type 0 where
    states : Isolated k j m a b
    called : x ≡ y
    told : u ≡ v

  runs : (cs ds : List Call) (t : Table) (ra rb ma mb : List ℕ) (m : Marks) → Kept t ra rb ma mb m → AlikeRuns k j m.over (state t ra ma) cs ds
      → Both (marks_from k j (state t ra ma) m cs) (run (state t ra ma) cs) (run (state t rb mb) ds) (outcomes (state t ra ma) cs) (outcomes (state t rb mb) ds) (handed k (state t ra ma) cs) (handed k (state t rb mb) ds)
  unfolding run outcomes handed marks_from marked after next_b
  runs [] [] t ra rb ma mb m h e = record { states = isolated h; called = refl; told = refl }
  runs [] (d ∷ ds) t ra rb ma mb m h e = absurd e
  runs (c ∷ cs) [] t ra rb ma mb m h e = absurd e
  runs (c ∷ cs) (d ∷ ds) t ra rb ma mb m h e =
      let a : State = after (state t ra ma) c in
      let b : State = next_b t ra rb ma mb m h c d e.0 in
      let more = runs cs ds a.table a.room b.room a.memory b.memory (marked k j t (outcome (state t ra ma) c) m c) (kept t ra rb ma mb m h c d e.0) e.1 in
      let q = sym (afters t ra rb ma mb m h c d e.0) in
      record {
        states = subst (λ (z : State). Isolated k j (marks_from k j a (marked k j t (outcome (state t ra ma) c) m c) cs) (run a cs) (run z ds)) q more.states;
        called = ap₂ (λ (x : Outcome) (xs : List Outcome). x ∷ xs) (sym (agreed t ra rb ma mb m h c d e.0)) (more.called ∙ ap (λ (z : State). outcomes z ds) q);
        told = ap₂ (λ (x : Handed) (xs : List Handed). x ∷ xs) (handed-same t ra rb ma mb m h c d e.0) (more.told ∙ ap (λ (z : State). handed k z ds) q);
      }

start : (n d m : ℕ) (room : List ℕ) → answer_number (make n d m room).answer ≡ 0 → Start n d m room (make n d m room)
unfolding make
start n d m room =
    if_cases (λ (x : Made). answer_number x.answer ≡ 0 → Start n d m room x) _
    (λ _ (e : ◌≡◌ {A = ℕ} 1 0). absurd (omega arith))
    (λ f. if_cases (λ (x : Made). answer_number x.answer ≡ 0 → Start n d m room x) _
    (λ _ (e : ◌≡◌ {A = ℕ} 2 0). absurd (omega arith))
    (λ g _. record {
      table = refl;
      room = refl;
      size = eqb-true _ _ (not-false _ g);
      fits = leb-true n slots_most (and_left (leb n slots_most) _ (and_right (leb 1 n) _ (not-false _ f)));
    }))

zeroed : (xs ys : List ℕ) → length xs ≡ length ys → ◌≡◌ {A = List ℕ} (map (λ _. 0) xs) (map (λ _. 0) ys)
zeroed [] [] e = refl
zeroed [] (y ∷ ys) e = absurd (omega arith)
zeroed (x ∷ xs) [] e = absurd (omega arith)
zeroed (x ∷ xs) (y ∷ ys) e = ap (λ (r : List ℕ). 0 ∷ r) (zeroed xs ys (omega arith))

at-end : (k j n d m : ℕ) (room₁ room₂ memory : List ℕ) → answer_number (make n d m room₁).answer ≡ 0 → answer_number (make n d m room₂).answer ≡ 0
    → (cs ds : List Call) → AlikeRuns k j 0 (made n d m room₁ memory) cs ds
    → Both k j (marks_of k j (made n d m room₁ memory) cs) (run (made n d m room₁ memory) cs) (run (made n d m room₂ memory) ds)
    (outcomes (made n d m room₁ memory) cs) (outcomes (made n d m room₂ memory) ds) (handed k (made n d m room₁ memory) cs) (handed k (made n d m room₂ memory) ds)
at-end k j n d m room₁ room₂ memory h₁ h₂ cs ds =
    let s₁ = start n d m room₁ h₁ in
    let s₂ = start n d m room₂ h₂ in
    let zs : List ℕ = map (λ _. 0) room₁ in
    let t : Table = blank n d m in
    let q : (make n d m room₂).room ≡ zs = s₂.room ∙ zeroed room₂ room₁ (s₂.size ∙ sym s₁.size) in
    rw (s₁.table, s₁.room, s₂.table, q) λ e.
    runs k j cs ds t zs zs memory memory (record { over = 0; room = map unmarked zs; memory = map unmarked memory })
    (record {
      room = agree_same zs;
      memory = agree_same memory;
      contained = contained_clean k (width t) _ (live t) _ (clean_dark zs);
      sized = length-map room₁ (λ _. 0) ∙ s₁.size;
      fit = record { fits = omega (arith, s₁.fits, length-replicate {A = Slot} slots_most (fresh 0)) };
      early = λ _. clean_dark memory;
    }) e

-- runs that are alike are alike as far as any call
so_far : (k j : ℕ) (i over : ℕ) (s : State) (cs ds : List Call) → AlikeRuns k j over s cs ds → AlikeRuns k j over s (take i cs) (take i ds)
so_far k j zero over s cs ds e = tt
so_far k j (suc i) over s [] [] e = tt
so_far k j (suc i) over s [] (d ∷ ds) e = e
so_far k j (suc i) over s (c ∷ cs) [] e = e
so_far k j (suc i) over s (c ∷ cs) (d ∷ ds) e = (e.0, so_far k j i (over_after k over (outcome s c) c) (after s c) cs ds e.1)

pub isolation : Demand3
isolation k j n d m room₁ room₂ memory cs ds h₁ h₂ e = (
  (at-end k j n d m room₁ room₂ memory h₁ h₂ cs ds e).called,
  (at-end k j n d m room₁ room₂ memory h₁ h₂ cs ds e).told,
  λ i. (at-end k j n d m room₁ room₂ memory h₁ h₂ (take i cs) (take i ds) (so_far k j i 0 (made n d m room₁ memory) cs ds e)).states,
)

-- "In demand 3 the tallies are part of the state" (document 02): the tallies of every slot s are equal in both runs, link k's own too, after every number i of calls.
pub isolation_tallies : (k j n d m : ℕ) (room₁ room₂ memory : List ℕ) (cs ds : List Call) → answer_number (make n d m room₁).answer ≡ 0 → answer_number (make n d m room₂).answer ≡ 0
    → AlikeRuns k j 0 (made n d m room₁ memory) cs ds
    → (i s : ℕ) → (slot_at (run (made n d m room₁ memory) (take i cs)).table s).tallies ≡ (slot_at (run (made n d m room₂ memory) (take i ds)).table s).tallies
isolation_tallies k j n d m room₁ room₂ memory cs ds h₁ h₂ e i s = ap (λ (t : Table). (slot_at t s).tallies) ((isolation k j n d m room₁ room₂ memory cs ds h₁ h₂ e).2 i).table
