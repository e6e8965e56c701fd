-- A take that answers a job hands out the oldest, whole, and leaves the others in their order; a buffer that is too short leaves all, and one of the slot's MTU
-- never is. So the job that was rejoined is the job taken (F). Rests on the jobs of a part (Waiting.antt).
use Rattle.std.specs.Prelude.{◌≡◌, refl, Bool, true, false, not, List, [], ◌∷◌, ℕ, ◌+◌, ◌-◌, ◌*◌, ◌≤◌, ◌<◌, min, eqb, ltb, length, get_or, take, drop, None, Ok, Option, Some}
use Rattle.std.proofs.Common.{sym, ap, ◌∙◌, subst, append-nil, suc-mul, one-mul, mul-le-mul_right, arith, length-take, length-drop, ext_get_or, le-ltb, lt-ltb, ltb-true, ltb-false, eq-eqb, ne_eqb, eqb-true}
use Rattle.std.proofs.lemmas.List.Edits.{sets}
use Rattle.std.proofs.Math.Seq.{length-sets}
use Rattle.std.proofs.lemmas.Bool.{lt-leb, eqb-false}
use Rattle.lists.specs.Choose.{choose_true, choose_false, if_cases}
use Rattle.octets.specs.Octets.{part}
use Rattle.octets.specs.Sets.{part_length, part_at, sets-before, sets-after, sets_inside}
use Rattle.codes.specs.declared.Refusal.{Refusal}
use Rattle.codes.specs.declared.Refusal.TheVariants.{InsufficientSpace}
use Rattle.channel.specs.Limits.{signal_most}
use Rattle.channel.specs.declared.Answer.TheVariants.{Done, Refused, Job}
use Rattle.channel.specs.declared.Queue.{Queue}
use Rattle.channel.specs.declared.Slot.{Slot}
use Rattle.channel.specs.declared.Table.{Table}
use Rattle.definition.specs.Mem.{Fill, held, fill, fills, written, moves, parts}
use Rattle.definition.specs.Table.{place_of, width, room_size, slot_at, well_formed}
use Rattle.definition.specs.Outcome.{Outcome, refuse, verdict}
use Rattle.definition.specs.Calls.{Window, Call, jobs, bare, decide, serve}
use Rattle.definition.specs.Run.{State, lent, out_window, job_window, outcome, after}
use Rattle.definition.specs.Numbers.{answer_number}
use Rattle.definition.proofs.Numbers.{refused_not_0}
use Rattle.definition.specs.Frames.{moving_up, grant_in, taken, receive, oldest}
use Rattle.rules.specs.Run.{Reached, next}
use Rattle.rules.specs.Tests.{begun}
use Rattle.rules.proofs.Tests.{begun_takes, takes_begun, connected-begun}
use Rattle.rules.proofs.Forms.{gate_refusals, gate_cases}
use Rattle.rules.specs.Sound.{Sound}
use Rattle.rules.specs.Good.{Good}
use Rattle.rules.proofs.Good.{sizes-read, slot_sound, good_formed, same-sizes, reached-good}
use Rattle.rules_jobs.specs.Waiting.{job_of}
use Rattle.rules_jobs.proofs.Waiting.{every-at, moved_up}
use Rattle.rules_jobs.specs.Rejoin.{part_of, job_at, Rejoined}
use Rattle.rules_jobs.proofs.Rejoin.{part-fits, part-long, changes, job-after}
use Rattle.rules_jobs.proofs.Standing.{jobs_stand}
use Rattle.rules_jobs.specs.Taking.{First, Hands, HandsOut, Passed, Taken, all, between, handed, sized, taking}

-- ---- parts of parts

part-part : (xs : List ℕ) (b w o n : ℕ) → b + w ≤ length xs → o + n ≤ w → part (part xs b w) o n ≡ part xs (b + o) n
part-part xs b w o n h l =
    let inner = part_length xs b w h in
    let here : length (part (part xs b w) o n) ≡ n = part_length (part xs b w) o n (omega arith) in
    let there : length (part xs (b + o) n) ≡ n = part_length xs (b + o) n (omega arith) in
    ext_get_or 0 _ _ (here ∙ sym there) (λ k m. octet k (rw here at m))
  where
    octet : (k : ℕ) → k < n → get_or (part (part xs b w) o n) k 0 ≡ get_or (part xs (b + o) n) k 0
    octet k q =
        let e : b + (o + k) ≡ b + o + k = omega arith in
        part_at 0 (part xs b w) o n k q ∙ part_at 0 xs b w (o + k) (omega arith) ∙ ap (λ (i : ℕ). get_or xs i 0) e ∙ sym (part_at 0 xs (b + o) n k q)

hands : (t : Table) (i : ℕ) (x : Slot) (g : Option ℕ) → Hands t i x (taken t i x g)
unfolding taken
hands t i x None = record { slot = _; queue = refl; slots = refl; parts = refl; answer = refl; job = refl }
hands t i x (Some n) = record { slot = _; queue = refl; slots = refl; parts = refl; answer = refl; job = refl }

-- what is not refused has passed them, unless it says that no job waits
passed : (s : State) (i : ℕ) (w v : Window) → answer_number (outcome s (taking i w v)).answer ≡ 0
    → (eqb (slot_at s.table i).queue.count 0 ≡ true → (outcome s (taking i w v)).answer ≡ Done → ⊥) → Passed s.table i (sized v s) (outcome s (taking i w v))
unfolding decide serve bare receive
passed s i w v =
    gate_cases P t _ _ _ _ refused
    (λ h. if_cases P _ (λ _. refused _)
    (λ b. if_cases P _ (λ c e f. absurd (f c refl))
    (λ c. if_cases P _ (λ _. refused _)
    (λ d e f.
    let n = eqb-false (slot_at t i).queue.count 0 c in
    record { used = h; on = takes_begun (slot_at t i).state b; some = omega arith; fits = ltb-false (sized v s) (oldest (slot_at t i)) d; is = refl }))))
  where
    t : Table
    t = s.table

    P : Outcome → Type 0
    P o = answer_number o.answer ≡ 0 → (eqb (slot_at t i).queue.count 0 ≡ true → o.answer ≡ Done → ⊥) → Passed t i (sized v s) o

    refused : (r : Refusal) → P (refuse t r)
    refused r e f = absurd (eqb-false _ 0 (refused_not_0 r) e)

verdict-passes : (t : Table) (room signal i : ℕ) → well_formed t ≡ true → room ≡ room_size t → signal_most ≤ signal → i < t.n → verdict t (Some room) (Some signal) None (Some i) ≡ Ok tt
unfolding verdict
verdict-passes t room signal i well size l h =
    choose_false _ _ _ (ap not well) ∙ choose_false _ _ _ (ap not (eq-eqb room (room_size t) size)) ∙ choose_false _ _ _ (le-ltb signal signal_most l)
    ∙ choose_false _ _ _ refl ∙ choose_false _ _ _ (lt-leb t.n i h)

-- where a job waits, and the signal buffer is as long as any signal
module _ (s : State) (g : Good s.table s.room) (i : ℕ) (h : i < s.table.n) (b : begun (slot_at s.table i).state ≡ true) (c : 0 < (slot_at s.table i).queue.count)
    (w v : Window) (l : signal_most ≤ sized w s) where
  fits-passed : oldest (slot_at s.table i) ≤ sized v s → Passed s.table i (sized v s) (outcome s (taking i w v))
  unfolding decide serve bare receive
  fits-passed f =
      record {
        used = h;
        on = b;
        some = c;
        fits = f;
        is =
            rw (verdict-passes s.table (length s.room) (sized w s) i (good_formed g) g.size l h)
            (choose_false _ _ _ (begun_takes (slot_at s.table i).state b) ∙ choose_false _ _ _ (ne_eqb (slot_at s.table i).queue.count 0 (λ z. omega arith))
            ∙ choose_false _ _ _ (le-ltb (sized v s) (oldest (slot_at s.table i)) f));
      }

  short-stays : sized v s < oldest (slot_at s.table i) → outcome s (taking i w v) ≡ refuse s.table InsufficientSpace
  unfolding decide serve bare receive
  short-stays f =
      rw (verdict-passes s.table (length s.room) (sized w s) i (good_formed g) g.size l h)
      (choose_false _ _ _ (begun_takes (slot_at s.table i).state b) ∙ choose_false _ _ _ (ne_eqb (slot_at s.table i).queue.count 0 (λ z. omega arith))
      ∙ choose_true _ _ _ (lt-ltb (sized v s) (oldest (slot_at s.table i)) f))

-- ---- the oldest job, as the room has it

module _ (s : State) (g : Good s.table s.room) (i : ℕ) (h : i < s.table.n) (c : 0 < (slot_at s.table i).queue.count) where
  abbrev x : Slot
  x = slot_at s.table i

  abbrev p : ℕ
  p = place_of s.table

  ok : Sound s.table.d p x
  ok = slot_sound g i h

  inside : 1 * p + oldest x ≤ width s.table
  inside =
      let y = ok.holding.count in
      let small = every-at p x.queue.lens x.queue.count 0 ok.holding.lens c in
      omega (arith, small, mul-le-mul_right p y, mul-le-mul_right p c, suc-mul s.table.d p, suc-mul 0 p)

  oldest-is : job_at s i 0 ≡ take (oldest x) (drop (i * width s.table + p) s.room)
  oldest-is =
      let e : i * width s.table + 1 * p ≡ i * width s.table + p = omega arith in
      part-part s.room (i * width s.table) (width s.table) (1 * p) (oldest x) (part-fits g i h) inside ∙ ap (λ (k : ℕ). part s.room k (oldest x)) e

  oldest-long : length (job_at s i 0) ≡ oldest x
  oldest-long = part_length (part_of s i) (1 * p) (oldest x) (rw (part-long s g i h) inside)

  oldest-within : oldest x ≤ x.mtu
  oldest-within = every-at x.mtu x.queue.lens x.queue.count 0 ok.within.lens c

passed_takes : (s : State) → Good s.table s.room → (i : ℕ) (w v : Window) → Passed s.table i (sized v s) (outcome s (taking i w v)) → Taken s (taking i w v) v i
unfolding fills fill
passed_takes s g i w v y =
    let h = y.used in
    let c = y.some in
    let t = s.table in
    let x = slot_at t i in
    let p = place_of t in
    let js = jobs t (taking i w v) in
    let z = subst (λ (o : Outcome). Hands t i x o) (sym y.is) (hands t i x (grant_in x)) in
    let n = changes s (taking i w v) g tt i h z.slot (moving_up t x) z.slots z.parts in
    let q = ap (λ (y : Slot). y.queue) n.slot ∙ z.queue in
    let long = oldest-long s g i h c in
    record {
      answer = z.answer ∙ ap (Job x.link) (sym long);
      fits = rw long y.fits;
      octets =
          ap (λ (fs : List Fill). fills (λ x. x) js s.room fs) (z.job ∙ ap (λ (n : ℕ). held (i * width t + n) (oldest x) ∷ []) (one-mul p))
          ∙ append-nil _ ∙ sym (oldest-is s g i h c);
      count = ap (λ (r : Queue). r.count) q;
      others = λ k m.
          let new = moves (λ y. y) js (part_of s i) (moving_up t x) in
          job-after s (taking i w v) g tt i z.slot new n.slot n.room k ∙ ap (λ (r : Queue). job_of p r new k) z.queue
          ∙ moved_up t x (part_of s i) (slot_sound g i h).holding (part-long s g i h) (sizes-read t.n t.d t.m g.sizes).d_most js k m;
    }

pub takes_whole : {s : State} → Reached s → (i link n : ℕ) (w v : Window) → (outcome s (taking i w v)).answer ≡ Job link n → Taken s (taking i w v) v i
takes_whole {s} r i link n w v e =
    passed_takes s (reached-good r) i w v (passed s i w v (ap answer_number e) (λ _ z. let f : Done ≡ Job link n = sym z ∙ e in let q : ◌≡◌ {A = ℕ} 0 1 = cc in absurd (omega arith)))

-- So does one that is not refused, where a job waits.
pub takes_waiting : {s : State} → Reached s → (i : ℕ) (w v : Window) → 0 < (slot_at s.table i).queue.count → answer_number (outcome s (taking i w v)).answer ≡ 0 → Taken s (taking i w v) v i
takes_waiting {s} r i w v c e = passed_takes s (reached-good r) i w v (passed s i w v e (λ z. absurd (let q = eqb-true (slot_at s.table i).queue.count 0 z in omega arith)))

-- ---- when it is refused by 12: "A buffer shorter than the job should now be refused and the job kept for the next call" (document 02)

-- a buffer that is put back as it was
part_back : (xs : List ℕ) (from n : ℕ) → sets xs from (part xs from n) ≡ xs
part_back xs from n = ext_get_or 0 _ _ (length-sets xs from ys) (λ k _. octet k)
  where
    ys : List ℕ
    ys = part xs from n

    long : length ys ≡ min n (length xs - from)
    long = length-take n (drop from xs) ∙ ap (min n) (length-drop from xs)

    octet : (k : ℕ) → get_or (sets xs from ys) k 0 ≡ get_or xs k 0
    octet k = by (ltb k from) refl (ltb k (from + length ys)) refl
      where
        by : (b : Bool) → ltb k from ≡ b → (c : Bool) → ltb k (from + length ys) ≡ c → get_or (sets xs from ys) k 0 ≡ get_or xs k 0
        by true e c f = sets-before 0 xs from ys k (ltb-true k from e)
        by false e false f = sets-after 0 xs from ys k (ltb-false k (from + length ys) f)
        by false e true f =
            let l = ltb-false k from e in
            let m = ltb-true k (from + length ys) f in
            let z : from + (k - from) ≡ k = omega arith in
            rw z at (sets_inside 0 xs from ys (k - from) (omega (arith, long)) (omega arith) ∙ part_at 0 xs from n (k - from) (omega (arith, long)))

-- a refusal that changes nothing leaves the state
refused-leaves : (s : State) (a : Call) (r : Refusal) → outcome s a ≡ refuse s.table r → after s a ≡ s
unfolding after parts written fills
refused-leaves s a r e =
    let m = s.memory in
    let out = out_window a in
    let tray = job_window a in
    let back : sets m tray.from (lent tray m) ≡ m = part_back m tray.from tray.size in
    rw (e, back, part_back m out.from out.size) refl

-- Where a job waits that is longer than the buffer, the call comes to that refusal, and leaves table, room and memory as they were.
pub short-refused : {s : State} → Reached s → (i : ℕ) → i < s.table.n → begun (slot_at s.table i).state ≡ true → 0 < (slot_at s.table i).queue.count
    → (w v : Window) → signal_most ≤ sized w s → sized v s < length (job_at s i 0)
    → ((outcome s (taking i w v)).answer ≡ Refused InsufficientSpace) × (after s (taking i w v) ≡ s)
short-refused {s} r i h b c w v l f =
    let g = reached-good r in
    let e = short-stays s g i h b c w v l (rw (oldest-long s g i h c) at f) in
    (ap (λ (o : Outcome). o.answer) e, refused-leaves s (taking i w v) InsufficientSpace e)

-- It is refused so nowhere else: a job waits, and is longer than the buffer.
pub short-only : {s : State} → Reached s → (i : ℕ) (w v : Window) → answer_number (outcome s (taking i w v)).answer ≡ 12
    → (i < s.table.n) × (0 < (slot_at s.table i).queue.count) × (sized v s < length (job_at s i 0))
unfolding decide serve bare receive
short-only {s} r i w v =
    gate_refusals P t _ _ _ _ (λ r n e. absurd (omega arith))
    (λ h. if_cases P _ (λ _ e. absurd (omega arith))
    (λ _. if_cases P _ (λ _ e. absurd (omega arith))
    (λ c. if_cases P _
    (λ d e.
    let n = eqb-false (slot_at t i).queue.count 0 c in
    let some : 0 < (slot_at t i).queue.count = omega arith in
    let long = oldest-long s (reached-good r) i h some in
    (h, some, subst (λ (k : ℕ). sized v s < k) (sym long) (ltb-true (sized v s) (oldest (slot_at t i)) d)))
    (λ _ e. let n = ap answer_number (hands t i (slot_at t i) (grant_in (slot_at t i))).answer in absurd (omega arith)))))
  where
    t : Table
    t = s.table

    P : Outcome → Type 0
    P o = answer_number o.answer ≡ 12 → (i < t.n) × (0 < (slot_at t i).queue.count) × (sized v s < length (job_at s i 0))

-- So a buffer of the slot's MTU is never too short.
pub mtu_suffices : {s : State} → Reached s → (i : ℕ) (w v : Window) → (slot_at s.table i).mtu ≤ sized v s → answer_number (outcome s (taking i w v)).answer ≡ 12 → ⊥
mtu_suffices {s} r i w v m e =
    let z = short-only r i w v e in
    let g = reached-good r in
    omega (arith, m, z.2, oldest-long s g i z.0 z.1, oldest-within s g i z.0 z.1)

pub handed_out : {i n : ℕ} {s s' : State} → HandsOut i n s s' → Reached s → i < s.table.n → n < (slot_at s.table i).queue.count → First s s' i n
handed_out all r h l = record { reached = r; some = l; is = refl }
handed_out {i} {n} {s} (between a f c q) r h l =
    let g = reached-good r in
    let z = handed_out q (next a r f) (subst (λ (k : ℕ). i < k) (sym (same-sizes s a g f).n) h) (omega arith) in
    record { reached = z.reached; some = z.some; is = z.is ∙ jobs_stand s g a f i h c n l }
handed_out {i} {s = s} (handed {n} w v e q) r h l =
    let y = takes_waiting r i w v (omega arith) e in
    let c = y.count in
    let z = handed_out q (next (taking i w v) r tt) (subst (λ (k : ℕ). i < k) (sym (same-sizes s (taking i w v) (reached-good r) tt).n) h) (omega arith) in
    record { reached = z.reached; some = z.some; is = z.is ∙ y.others n l }

-- ---- the job that was rejoined is the job taken

-- With no other job before it, and a buffer that holds it, it is taken: exactly its octets, and its length.
pub rejoined_taken : {s : State} → Reached s → (i : ℕ) (sdu : List ℕ) (jobs' : ℕ → List ℕ) → Rejoined s i sdu 0 jobs' → (w v : Window) → signal_most ≤ sized w s → length sdu ≤ sized v s
    → (fills (λ x. x) (jobs s.table (taking i w v)) s.room (outcome s (taking i w v)).job ≡ sdu)
    × ((outcome s (taking i w v)).answer ≡ Job (slot_at s.table i).link (length sdu))
rejoined_taken {s} r i sdu jobs' j w v l big =
    let g = reached-good r in
    let e = j.count in
    let some : 0 < (slot_at s.table i).queue.count = omega arith in
    let long = oldest-long s g i j.used some in
    let z = passed_takes s g i w v (fits-passed s g i j.used (connected-begun (slot_at s.table i).state j.on) some w v l (rw (← long, j.whole) big)) in
    (z.octets ∙ j.whole, z.answer ∙ ap (λ (xs : List ℕ). Job (slot_at s.table i).link (length xs)) j.whole)
