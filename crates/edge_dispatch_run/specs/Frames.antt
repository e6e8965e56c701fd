-- What a run of frames leaves on octets: what the frames leave one after the other (`dispatch_edge`), each of them a call of the run (crate edge_run).
use Rattle.std.specs.Prelude.{List, [], ℕ, ◌+◌, length, None, Some}
use Rattle.std.proofs.lemmas.List.Edits.{sets}
use Rattle.octets.specs.Octets.{u16_at, part}
use Rattle.definition.specs.Outcome.{verdict}
use Rattle.edge_layout.specs.Layout.{read}
use Rattle.edge.specs.Edge.{Edge}
use Rattle.edge_placed.specs.Frames.{dispatch_edge}
use Rattle.edge_run.specs.declared.Ended.{Ended}
use Rattle.edge_run.specs.Run.{Lent, Ran, RunEdge, ended, ran, begun, told}

-- A frame of a run: link, CID and the payload's length, of two octets each, the lower first; then the payload.
abbrev pub frame_size : List ℕ → (from : ℕ) → ℕ
frame_size frames from = 6 + u16_at frames (from + 4)

abbrev pub frame_edge : List ℕ → (from : ℕ) → (answer : List ℕ) → Lent → Edge
frame_edge frames from answer l = dispatch_edge l.table answer l.room (u16_at frames from) (u16_at frames (from + 2)) (part frames (from + 6) (u16_at frames (from + 4)))

-- it takes the next sixteen octets of the answers
abbrev pub frame_call : List ℕ → (from at : ℕ) → (answer : List ℕ) → Lent → Lent
frame_call frames from at answer l =
    let e = frame_edge frames from answer l in
    record { table = e.table; room = e.room; out = []; wrote = 0; answers = sets l.answers at e.answer }

-- what a run of frames works on
abbrev pub lent_by : (table room answers : List ℕ) → Lent
lent_by table room answers = record { table = table; room = room; out = []; wrote = 0; answers = answers }

-- the frames of a run, one after the other
abbrev pub frames_run : (table room frames answers : List ℕ) → Ran
frames_run table room frames answers = ran frames (frame_size frames) (frame_call frames) (length frames) 0 0 (lent_by table room answers)

-- what the code leaves behind them
abbrev pub left_by : Ended → (table room answers : List ℕ) → Ran
left_by e table room answers = ended e.stop e.count e.used (record { table = table; room = room; out = []; wrote = e.wrote; answers = answers })

-- A run of frames.
abbrev pub dispatch_run_edge : (table answer room frames answers : List ℕ) → RunEdge
dispatch_run_edge table answer room frames answers =
    told answer (begun (verdict (read table).table (Some (length room)) None None None) (lent_by table room answers) (frames_run table room frames answers))
