-- A run of frames (l2cap_dispatch_run) is the entries l2cap_dispatch that its frames are, one after the other: so it leaves table, room and memory, and its answers are the octets that these entries
-- answer. What holds of every run of entries holds of one with runs of frames in it.
use Rattle.std.specs.Prelude.{◌≡◌, ℕ, ◌+◌, length}
use Rattle.std.proofs.Math.Path.{refl}
use Rattle.std.proofs.Common.{◌∙◌, inl, arith}
use mathlib.Core.List.{List, [], map}
use Rattle.std.proofs.lemmas.List.Edits.{sets}
use Rattle.lists.specs.Choose.{choose}
use Rattle.octets.specs.Octets.{u16_at, part}
use Rattle.definition.specs.Calls.{frame, jobs, frame_in}
use Rattle.definition.specs.Ending.{end_of}
use Rattle.definition.specs.Run.{State, run}
use Rattle.edge_layout.specs.Layout.{spell, read}
use Rattle.edge_layout.specs.Back.{Sized}
use Rattle.edge.specs.Edge.{on_table, lifted}
use Rattle.edge_placed.specs.Frames.{dispatch_edge}
use Rattle.edge_run.specs.Run.{Lent, begun}
use Rattle.edge_dispatch_run.specs.Frames.{frame_size, frame_call, lent_by, frames_run, dispatch_run_edge}
use Rattle.edge_runs.specs.Entries.{leaves}
use Rattle.edge_runs.specs.Run.{EdgeState, Asked, call_in, edge_of, BuffersApart, entered, entries, told}
use Rattle.edge_runs.specs.Lift.{spelled}
use Rattle.edge_runs.proofs.Lift.{entries-spelled}
use Rattle.edge_runs.specs.Made.{answers_in, made_by}
use Rattle.edge_runs.proofs.Made.{none_written, answer-long, made, made-apart, by_apart, Makes, run_makes}
use Rattle.edge_runs.specs.FrameRun.{frame_asked, verdict_of}

-- the entries that the run is
abbrev pub frame_entries : (table room frames answers : List ℕ) → List Asked
frame_entries table room frames answers = made_by (verdict_of table room) (made frames (frame_size frames) (frame_call frames) (frame_asked frames) (length frames) 0 0 (lent_by table room answers))

module _ (frames memory : List ℕ) where
  -- a frame is lent no memory, and leaves it
  abbrev stands : Lent → EdgeState
  stands l = record { table = l.table; room = l.room; memory = memory }

  quiet : (table answer room : List ℕ) (link cid : ℕ) (p : List ℕ) → ((dispatch_edge table answer room link cid p).out ≡ []) × ((dispatch_edge table answer room link cid p).job ≡ [])
  unfolding on_table lifted end_of
  quiet table answer room link cid p =
      let t = (read table).table in
      let o = frame_in t (length room) link cid p in
      (none_written (jobs t (frame link cid p)) room o.at o.out, none_written (jobs t (frame link cid p)) room 0 o.job)

  step : (from at : ℕ) (answer : List ℕ) (l : Lent) → stands (frame_call frames from at answer l) ≡ entered (stands l) (frame_asked frames from answer l)
  unfolding entered leaves choose
  step from at answer l =
      let q = quiet l.table answer l.room (u16_at frames from) (u16_at frames (from + 2)) (part frames (from + 6) (u16_at frames (from + 4))) in
      rw (q.0, q.1)

  told_so : (from at : ℕ) (answer : List ℕ) (l : Lent) → (frame_call frames from at answer l).answers ≡ sets l.answers at (edge_of (stands l) (frame_asked frames from answer l)).answer
  unfolding leaves
  told_so from at answer l = refl

  long : (from : ℕ) (answer : List ℕ) (l : Lent) → length (edge_of (stands l) (frame_asked frames from answer l)).answer ≡ length answer
  unfolding leaves
  long from answer l =
      let p = part frames (from + 6) (u16_at frames (from + 4)) in
      let link = u16_at frames from in
      let cid = u16_at frames (from + 2) in
      answer-long l.table answer (λ t. end_of t (jobs t (frame link cid p)) l.room [] [] (frame_in t (length l.room) link cid p))

  module _ (table room answers : List ℕ) where
    makes : Makes frames (frame_size frames) (frame_call frames) (frame_asked frames) stands (λ _. Unit {0}) (λ _ _ _ _ _. tt) (λ from at answer l _. step from at answer l)
        (λ from at answer l _. told_so from at answer l) long 0 (lent_by table room answers) (frame_entries table room frames answers) (begun (verdict_of table room) (lent_by table room answers) (frames_run table room frames answers)).lent
    makes =
        run_makes frames (frame_size frames) (frame_call frames) (frame_asked frames) stands (λ _. Unit {0}) (λ _ _ _ _ _. tt) (λ from at answer l _. step from at answer l)
        (λ from at answer l _. told_so from at answer l) long (verdict_of table room) (lent_by table room answers) tt

    -- it leaves what they leave
    pub run-entered : (answer : List ℕ)
        → record { table = (dispatch_run_edge table answer room frames answers).table; room = (dispatch_run_edge table answer room frames answers).room; memory = memory }
        ≡ entries (record { table = table; room = room; memory = memory }) (frame_entries table room frames answers)
    run-entered answer = makes.0

    -- and its answers are theirs
    pub run-answered : (answer : List ℕ) → (dispatch_run_edge table answer room frames answers).answers ≡ sets answers 0 (answers_in (told (record { table = table; room = room; memory = memory }) (frame_entries table room frames answers)))
    run-answered answer = makes.1

    -- no two of their buffers overlap: a frame is lent none
    pub run-apart : BuffersApart (frame_entries table room frames answers)
    run-apart =
        by_apart (verdict_of table room) (made frames (frame_size frames) (frame_call frames) (frame_asked frames) (length frames) 0 0 (lent_by table room answers))
        (made-apart frames (frame_size frames) (frame_call frames) (frame_asked frames) (λ from answer l. inl (omega arith)) (length frames) 0 0 (lent_by table room answers))

-- So the octets that it leaves are those of the definition's run, a frame a call.
pub run-spelled : (s : State) → Sized s.table → (answer frames answers : List ℕ)
    → record { table = (dispatch_run_edge (spell s.table) answer s.room frames answers).table; room = (dispatch_run_edge (spell s.table) answer s.room frames answers).room; memory = s.memory }
    ≡ spelled (run s (map call_in (frame_entries (spell s.table) s.room frames answers)))
run-spelled s w answer frames answers =
    run-entered frames s.memory (spell s.table) s.room answers answer
    ∙ entries-spelled s w (frame_entries (spell s.table) s.room frames answers) (run-apart frames s.memory (spell s.table) s.room answers)
