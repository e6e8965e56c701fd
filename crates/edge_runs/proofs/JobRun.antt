-- A run of jobs (l2cap_send_run) is the entries l2cap_send that its jobs are, one after the other, each lent what the ones before it left of the output: so it leaves table, room and memory, and its
-- answers are the octets that these entries answer. What holds of every run of entries holds of one with runs of jobs in it.
use Rattle.std.specs.Prelude.{◌≡◌, ℕ, ◌+◌, ◌-◌, ◌≤◌, ◌<◌, take}
use Rattle.std.proofs.Math.Path.{refl}
use Rattle.std.proofs.Common.{sym, ap, ◌∙◌, inr, arith, get_or-drop, ext_get_or}
use mathlib.Core.List.{List, [], ◌++◌, map}
use Rattle.std.proofs.Math.ListN.{length, get_or, drop, length-drop}
use Rattle.std.proofs.lemmas.List.Edits.{sets}
use Rattle.std.proofs.Math.Seq.{length-sets}
use Rattle.lists.specs.Choose.{choose}
use Rattle.octets.specs.Octets.{u16_at, part}
use Rattle.octets.specs.Sets.{sets_inside, sets_over, sets-whole, cut_at, store, part_length, part_at, part_same}
use Rattle.definition.specs.Mem.{fills, written}
use Rattle.definition.specs.Frames as Frames
use Rattle.definition.specs.Calls.{Window}
use Rattle.definition.specs.Ending.{itself, end_of}
use Rattle.definition.specs.Run.{State, lent, run}
use Rattle.edge_layout.specs.Layout.{spell, read}
use Rattle.edge_layout.specs.Back.{Sized}
use Rattle.edge.specs.Edge.{on_table, lifted}
use Rattle.edge_placed.specs.Frames.{send_edge}
use Rattle.edge_placed.specs.Sent.{octets_within}
use Rattle.edge_run.specs.Run.{Lent, begun}
use Rattle.edge_send_run.specs.Jobs.{job_size, job_call, lent_by, jobs_run, send_run_edge}
use Rattle.edge_runs.specs.Entries.{send, leaves}
use Rattle.edge_runs.specs.Run.{EdgeState, Asked, call_in, edge_of, BuffersApart, entered, entries, told}
use Rattle.edge_runs.specs.Lift.{spelled}
use Rattle.edge_runs.proofs.Lift.{entries-spelled}
use Rattle.edge_runs.specs.Made.{answers_in, made_by}
use Rattle.edge_runs.proofs.Made.{none_written, answer-long, made, made-apart, by_apart, Makes, run_makes}
use Rattle.edge_runs.specs.JobRun.{job_asked, left, verdict_of}

-- ---- a part of a list, written and lent

-- what is written into a part that was written
nested : (m : List ℕ) (f : ℕ) (xs : List ℕ) (k : ℕ) (ys : List ℕ) → f + length xs ≤ length m → k + length ys ≤ length xs → sets (sets m f xs) (f + k) ys ≡ sets m f (sets xs k ys)
nested m f xs k ys h g =
    let w = length xs in
    let n = sets m f xs in
    let long : f + w ≤ length n = omega (arith, length-sets m f xs) in
    let same : part n f w ≡ xs = part_same 0 m f xs h in
    let zs = sets xs k ys in
    let zw : length zs ≡ w = length-sets xs k ys in
    let around : List ℕ → List ℕ = λ l. take f n ++ l ++ drop (f + w) n in
    let whole : sets xs 0 zs ≡ zs = sets-whole xs zs (sym zw) in
    let at : f + 0 ≡ f = omega arith in
    sym (store f w n ys k long g)
    ∙ ap (λ (l : List ℕ). around (sets l k ys)) same
    ∙ ap around (sym whole)
    ∙ ap (λ (l : List ℕ). around (sets l 0 zs)) (sym same)
    ∙ store f w n zs 0 long (omega arith)
    ∙ ap (λ (i : ℕ). sets n i zs) at
    ∙ sets_over m f xs zs (sym zw)

-- a part written over itself
itself_put : (m : List ℕ) (f n : ℕ) → f + n ≤ length m → sets m f (part m f n) ≡ m
itself_put m f n h =
    let xs = part m f n in
    let long = part_length m f n h in
    let at : f + 0 ≡ f = omega arith in
    sym (rw at at (store f n m xs 0 h (omega arith))) ∙ ap (λ (l : List ℕ). take f m ++ l ++ drop (f + n) m) (sets-whole xs xs refl) ∙ cut_at f n m

-- what is lent of it
lent-left : (m : List ℕ) (f : ℕ) (xs : List ℕ) (k : ℕ) → f + length xs ≤ length m → k ≤ length xs → part (sets m f xs) (f + k) (length xs - k) ≡ drop k xs
lent-left m f xs k h g =
    let n = sets m f xs in
    let long : length (part n (f + k) (length xs - k)) ≡ length xs - k = part_length n (f + k) (length xs - k) (omega (arith, length-sets m f xs)) in
    ext_get_or 0 (part n (f + k) (length xs - k)) (drop k xs) (long ∙ sym (length-drop k xs))
    (λ i l.
    let e : f + k + i ≡ f + (k + i) = omega arith in
    let less : i < length xs - k = rw long at l in
    part_at 0 n (f + k) (length xs - k) i less
    ∙ ap (λ (j : ℕ). get_or n j 0) e
    ∙ sets_inside 0 m f xs (k + i) h (omega arith)
    ∙ sym (get_or-drop k xs i 0))

-- the entries that the run is
abbrev pub job_entries : (table memory : List ℕ) → Window → (jobs answers : List ℕ) → List Asked
job_entries table memory w jobs answers = made_by (verdict_of table) (made jobs (job_size jobs) (job_call jobs) (job_asked jobs w) (length jobs) 0 0 (lent_by table (lent w memory) 0 answers))

module _ (jobs memory room : List ℕ) (w : Window) (fits : w.from + w.size ≤ length memory) where
  abbrev stands : Lent → EdgeState
  stands l = record { table = l.table; room = room; memory = sets memory w.from l.out }

  abbrev Within : Lent → Type 0
  Within l = (length l.out ≡ w.size) × (l.wrote ≤ w.size)

  send-long : (table answer out : List ℕ) (slot : ℕ) (sdu : List ℕ) → length (send_edge table answer out slot sdu).out ≡ length out
  unfolding on_table lifted end_of written
  send-long table answer out slot sdu =
      let o = Frames.send (read table).table slot (length sdu) (length out) in
      length-sets out o.at (fills itself sdu [] o.out)

  send-quiet : (table answer out : List ℕ) (slot : ℕ) (sdu : List ℕ) → (send_edge table answer out slot sdu).job ≡ []
  unfolding on_table lifted end_of
  send-quiet table answer out slot sdu = none_written sdu [] 0 (Frames.send (read table).table slot (length sdu) (length out)).job

  keeps : (from at : ℕ) (answer : List ℕ) (l : Lent) → Within l → Within (job_call jobs from at answer l)
  keeps from at answer l h =
      let slot = get_or jobs from 0 in
      let sdu = part jobs (from + 3) (u16_at jobs (from + 1)) in
      let out = drop l.wrote l.out in
      let e = h.0 in
      (length-sets l.out l.wrote (send_edge l.table answer out slot sdu).out ∙ e, omega (arith, octets_within l.table out sdu slot, length-drop l.wrote l.out, h.1))

  lent_is : (l : Lent) → Within l → lent (left w l) (sets memory w.from l.out) ≡ drop l.wrote l.out
  lent_is l h =
      let e = h.0 in
      let g = h.1 in
      rw e at (lent-left memory w.from l.out l.wrote (omega arith) (omega arith))

  step : (from at : ℕ) (answer : List ℕ) (l : Lent) → Within l → stands (job_call jobs from at answer l) ≡ entered (stands l) (job_asked jobs w from answer l)
  unfolding entered leaves choose
  step from at answer l h =
      let slot = get_or jobs from 0 in
      let sdu = part jobs (from + 3) (u16_at jobs (from + 1)) in
      let e = h.0 in
      let g = h.1 in
      let out = drop l.wrote l.out in
      let long : length (send_edge l.table answer out slot sdu).out ≡ length l.out - l.wrote = send-long l.table answer out slot sdu ∙ length-drop l.wrote l.out in
      rw (lent_is l h, send-quiet l.table answer out slot sdu, nested memory w.from l.out l.wrote (send_edge l.table answer out slot sdu).out (omega arith) (omega arith)) refl

  told_so : (from at : ℕ) (answer : List ℕ) (l : Lent) → Within l → (job_call jobs from at answer l).answers ≡ sets l.answers at (edge_of (stands l) (job_asked jobs w from answer l)).answer
  unfolding leaves
  told_so from at answer l h = rw (lent_is l h)

  long : (from : ℕ) (answer : List ℕ) (l : Lent) → length (edge_of (stands l) (job_asked jobs w from answer l)).answer ≡ length answer
  unfolding leaves
  long from answer l =
      let slot = get_or jobs from 0 in
      let sdu = part jobs (from + 3) (u16_at jobs (from + 1)) in
      let out = lent (left w l) (sets memory w.from l.out) in
      answer-long l.table answer (λ t. end_of t sdu [] out [] (Frames.send t slot (length sdu) (length out)))

  module _ (table answers : List ℕ) where
    abbrev l : Lent
    l = lent_by table (lent w memory) 0 answers

    first : stands l ≡ record { table = table; room = room; memory = memory }
    first = ap (λ (m : List ℕ). record { table = table; room = room; memory = m }) (itself_put memory w.from w.size fits)

    makes : Makes jobs (job_size jobs) (job_call jobs) (job_asked jobs w) stands Within keeps step told_so long 0 l (job_entries table memory w jobs answers) (begun (verdict_of table) l (jobs_run table (lent w memory) jobs answers)).lent
    makes = run_makes jobs (job_size jobs) (job_call jobs) (job_asked jobs w) stands Within keeps step told_so long (verdict_of table) l (part_length memory w.from w.size fits, omega arith)

    -- it leaves what they leave
    pub jobs-entered : (answer : List ℕ)
        → record { table = (send_run_edge table answer (lent w memory) jobs answers).table; room = room; memory = sets memory w.from (send_run_edge table answer (lent w memory) jobs answers).out }
        ≡ entries (record { table = table; room = room; memory = memory }) (job_entries table memory w jobs answers)
    jobs-entered answer = makes.0 ∙ ap (λ (s : EdgeState). entries s (job_entries table memory w jobs answers)) first

    -- and its answers are theirs
    pub jobs-answered : (answer : List ℕ) → (send_run_edge table answer (lent w memory) jobs answers).answers ≡ sets answers 0 (answers_in (told (record { table = table; room = room; memory = memory }) (job_entries table memory w jobs answers)))
    jobs-answered answer = makes.1 ∙ ap (λ (s : EdgeState). sets answers 0 (answers_in (told s (job_entries table memory w jobs answers)))) first

    -- no two of their buffers overlap: a send is lent one
    pub jobs-apart : BuffersApart (job_entries table memory w jobs answers)
    jobs-apart =
        by_apart (verdict_of table) (made jobs (job_size jobs) (job_call jobs) (job_asked jobs w) (length jobs) 0 0 l)
        (made-apart jobs (job_size jobs) (job_call jobs) (job_asked jobs w) (λ from answer l. inr (omega arith)) (length jobs) 0 0 l)

-- So the octets that it leaves are those of the definition's run, a send a call.
pub jobs-spelled : (s : State) → Sized s.table → (answer jobs answers : List ℕ) (w : Window) → w.from + w.size ≤ length s.memory
    → record { table = (send_run_edge (spell s.table) answer (lent w s.memory) jobs answers).table; room = s.room; memory = sets s.memory w.from (send_run_edge (spell s.table) answer (lent w s.memory) jobs answers).out }
    ≡ spelled (run s (map call_in (job_entries (spell s.table) s.memory w jobs answers)))
jobs-spelled s z answer jobs answers w fits =
    jobs-entered jobs s.memory s.room w fits (spell s.table) answers answer
    ∙ entries-spelled s z (job_entries (spell s.table) s.memory w jobs answers) (jobs-apart jobs s.memory s.room w fits (spell s.table) answers)
