-- What a run of entries tells its caller is what the outcomes of the definition's run say, and what it hands out (`told-spelled`): numbers, answers and tables from the
-- outcomes, and of a signal as many octets as the answer tells.
use Rattle.std.specs.Prelude.{◌≡◌, false, ℕ, zero, suc, ◌≤◌, ◌<◌, length, take, drop, get_or}
use Rattle.std.proofs.Math.Path.{refl, sym, ap, ap₂}
use Rattle.std.proofs.Common.{◌∙◌, not-suc-le-zero, le_of_suc-le-suc, arith, length-take, length-drop}
use mathlib.Core.List.{List, [], ◌∷◌, map}
use Rattle.std.proofs.lemmas.List.Edits.{sets}
use Rattle.std.proofs.Math.Seq.{length-sets, take-nil}
use Rattle.octets.specs.Sets.{sets-out, sets_append_right}
use Rattle.channel.specs.declared.Served.{Served}
use Rattle.definition.specs.Mem.{fills, written}
use Rattle.definition.specs.Calls.{Window, Call, frame, sends, portions, down, plain, jobs}
use Rattle.definition.specs.Ending.{itself, served_of, End, end_of}
use Rattle.definition.specs.Run.{State, lent, out_window, job_window, outcome, after, outcomes}
use Rattle.edge_layout.specs.Back.{Sized}
use Rattle.edge_answer.specs.Answers.{answer_octets}
use Rattle.isolation.specs.Statement.{frames_out, handed_by, handed}
use Rattle.lists.specs.Choose.{choose_false}
use Rattle.isolation.proofs.Words.{jobs-is}
use Rattle.edge_sized.proofs.Sized.{after-sized}
use Rattle.edge_sized.specs.Said.{is_send}
use Rattle.edge_sized.proofs.Said.{said_length, said_first, said_told}
use Rattle.edge_runs.specs.Run.{EdgeState, Asked, call_in, edge_of, BuffersApart, Told, count_in, signal_in, told_by, told}
use Rattle.edge_runs.specs.Lift.{spelled, end_in}
use Rattle.edge_runs.proofs.Lift.{whole, number_is, answer-is, table_is, out-is, entered-spelled}
use Rattle.edge_runs.specs.Telling.{telling, tellings}

-- ---- octets written over the start of a list

over_cons : (y v : ℕ) (l vs : List ℕ) → sets (y ∷ l) 0 (v ∷ vs) ≡ v ∷ sets l 0 vs
over_cons y v l vs = sets_append_right vs (v ∷ []) l 0

-- of an octet there is what was written, or none
over_le : (l xs : List ℕ) (i : ℕ) → i < length xs → get_or (sets l 0 xs) i 0 ≤ get_or xs i 0
over_le [] xs i h = rw (sets-out {A = ℕ} [] 0 xs (omega arith)) (omega arith)
over_le (y ∷ l) [] i h = absurd (not-suc-le-zero h)
over_le (y ∷ l) (v ∷ vs) zero h = rw (over_cons y v l vs) (omega arith)
over_le (y ∷ l) (v ∷ vs) (suc i) h = rw (over_cons y v l vs) (over_le l vs i (le_of_suc-le-suc h))

-- the first n octets, if as many were written, are of what was written
pub over_take : (n : ℕ) (l xs : List ℕ) → n ≤ length xs → take n (sets l 0 xs) ≡ take n (take (length l) xs)
over_take zero l xs h = refl
over_take (suc n) [] xs h = rw (sets-out {A = ℕ} [] 0 xs (omega arith)) refl
over_take (suc n) (y ∷ l) [] h = absurd (not-suc-le-zero h)
over_take (suc n) (y ∷ l) (v ∷ vs) h = rw (over_cons y v l vs) (ap (λ (r : List ℕ). v ∷ r) (over_take n l vs (le_of_suc-le-suc h)))

-- ---- how many octets the answer tells: no more than were written, however short the lent answer is

count_le : (a : List ℕ) (s : Served) → count_in (sets a 0 (answer_octets s)) ≤ s.octets
unfolding answer_octets
count_le a s =
    let x = answer_octets s in
    omega (arith, over_le a x 2 (omega arith), over_le a x 3 (omega arith), over_le a x 4 (omega arith), over_le a x 5 (omega arith))

-- ---- the octets of a signal

module _ (s : State) (c : Call) where
  -- what stands in the lent buffers, with the room that a run has
  pub out_written : (end_in s c).out ≡ sets (lent (out_window c) s.memory) (outcome s c).at (fills itself (jobs s.table c) s.room (outcome s c).out)
  unfolding end_of written
  out_written = ap (λ (e : End). e.out) (whole s c)

  pub job-written : (end_in s c).job ≡ sets (lent (job_window c) s.memory) 0 (fills itself (jobs s.table c) s.room (outcome s c).job)
  unfolding end_of written
  job-written = ap (λ (e : End). e.job) (whole s c)

  -- in the words of demand 3
  said : (k : ℕ) → frames_out k s.table c ≡ false → (handed_by k s c).out ≡ fills itself (jobs s.table c) s.room (outcome s c).out
  said k e = choose_false _ _ _ e ∙ ap (λ (js : List ℕ). fills itself js s.room (outcome s c).out) (jobs-is s.table c)

  -- a call that writes no frames writes its signal at the start of its buffer, and tells no more of it
  from-buffer : is_send c ≡ false → (n : ℕ) → n ≤ (outcome s c).octets → take n (end_in s c).out ≡ take n (take (length (lent (out_window c) s.memory)) (fills itself (jobs s.table c) s.room (outcome s c).out))
  from-buffer e n h =
      let xs : List ℕ = fills itself (jobs s.table c) s.room (outcome s c).out in
      let count = length (jobs s.table c) in
      let out = length (lent (out_window c) s.memory) in
      let tray = length (lent (job_window c) s.memory) in
      let long = said_length s.table c e count (length s.room) out tray (jobs s.table c) s.room in
      let most = said_told s.table c e count (length s.room) out tray in
      ap (take n) out_written
      ∙ ap (λ (k : ℕ). take n (sets (lent (out_window c) s.memory) k xs)) (said_first s.table c e count (length s.room) out tray)
      ∙ over_take n (lent (out_window c) s.memory) xs (omega (arith, long, most, h))

-- what demand 3 says is handed out, of a call that writes no frames, is its signal
module _ (k : ℕ) (s : State) where
  signal-is : (c : Call) (n : ℕ) → n ≤ (outcome s c).octets → signal_in c (take n (end_in s c).out) ≡ take n (take (length (lent (out_window c) s.memory)) (signal_in c (handed_by k s c).out))
  signal-is (frame link cid payload) n h = from-buffer s (frame link cid payload) refl n h ∙ ap (λ (x : List ℕ). take n (take 0 x)) (sym (said s (frame link cid payload) k refl))
  signal-is (sends slot sdu out) n h = sym (ap (take n) (take-nil (length (lent out s.memory))) ∙ take-nil n)
  signal-is (portions slot octets out) n h = sym (ap (take n) (take-nil (length (lent out s.memory))) ∙ take-nil n)
  signal-is (down link) n h = from-buffer s (down link) refl n h ∙ ap (λ (x : List ℕ). take n (take 0 x)) (sym (said s (down link) k refl))
  signal-is (plain r out tray) n h = from-buffer s (plain r out tray) refl n h ∙ ap (λ (x : List ℕ). take n (take (length (lent out s.memory)) x)) (sym (said s (plain r out tray) k refl))

-- the memory keeps its length, and so does what is lent of it
lent_length : (w : Window) (x y : List ℕ) → length x ≡ length y → length (lent w x) ≡ length (lent w y)
lent_length w x y e =
    length-take w.size (drop w.from x) ∙ omega (arith, length-take w.size (drop w.from y), length-drop w.from x, length-drop w.from y)

after-length : (s : State) (c : Call) → length (after s c).memory ≡ length s.memory
unfolding after
after-length s c =
    let o = outcome s c in
    let js = jobs s.table c in
    let x : List ℕ = written itself js s.room 0 o.job (lent (job_window c) s.memory) in
    let m : List ℕ = sets s.memory (job_window c).from x in
    length-sets m (out_window c).from (written itself js s.room o.at o.out (lent (out_window c) m)) ∙ length-sets s.memory (job_window c).from x

module _ (k : ℕ) where
  told-one : (s : State) → Sized s.table → (a : Asked)
      → told_by a (edge_of (spelled s) a) ≡ telling (length (lent (out_window (call_in a)) s.memory)) a.answer (call_in a) (outcome s (call_in a)) (handed_by k s (call_in a))
  told-one s w a =
      let o = outcome s (call_in a) in
      let n : ℕ = count_in (sets a.answer 0 (answer_octets (served_of o))) in
      let z = signal-is k s (call_in a) n (count_le a.answer (served_of o)) in
      rw (number_is s w a, answer-is s w a, table_is s w a, out-is s w a, z) refl

  pub told-spelled : (s : State) → Sized s.table → (es : List Asked) → BuffersApart es → (memory : List ℕ) → length memory ≡ length s.memory
      → told (spelled s) es ≡ tellings memory es (outcomes s (map call_in es)) (handed k s (map call_in es))
  unfolding told tellings outcomes handed
  told-spelled s w [] h memory e = refl
  told-spelled s w (a ∷ es) h memory e =
      let c = call_in a in
      ap₂ (λ (x : Told) (xs : List Told). x ∷ xs)
      (told-one s w a ∙ ap (λ (n : ℕ). telling n a.answer c (outcome s c) (handed_by k s c)) (lent_length (out_window c) s.memory memory (sym e)))
      (ap (λ (x : EdgeState). told x es) (entered-spelled s w a h.0) ∙ told-spelled (after s c) (after-sized s c w) es h.1 memory (e ∙ sym (after-length s c)))
