-- A turn of the run's loop: one frame comes in, its answer over the next sixteen octets of the answers; and the loop's three ends.
use Rattle.std.specs.Prelude.{◌≡◌, refl, Bool, true, false, List, [], ℕ, suc, ◌+◌, ◌-◌, ◌*◌, ◌≤◌, leb, length}
use Rattle.std.proofs.Common.{sym, ap, ◌∙◌, arith, leb-true, leb-false, le-leb}
use Rattle.std.proofs.lemmas.List.Edits.{sets}
use Rattle.std.proofs.lemmas.Bool.{lt-leb}
use Rattle.octets.specs.Octets.{u16_at, part}
use Rattle.edge.specs.Edge.{Edge, edge}
use Rattle.edge_scan.specs.Scan.{valid_octets}
use Rattle.edge_placed.specs.Valid.{frame_valid}
use Rattle.edge_run.specs.Run.{Lent, Ran, answer_size}
use Rattle.edge_run.specs.Running.{Running, running_turn}
use Rattle.edge_dispatch_run.specs.Frames.{frame_size, frame_edge, frame_call, lent_by}

-- a payload is in the run where it fits behind the six octets before it
pub behind_head : (at n long : ℕ) → at + 6 ≤ long → leb n (long - at - 6) ≡ leb (at + (6 + n)) long
behind_head at n long h = go (leb n (long - at - 6)) refl
  where
    go : (b : Bool) → leb n (long - at - 6) ≡ b → b ≡ leb (at + (6 + n)) long
    go true e = let f = leb-true n (long - at - 6) e in sym (le-leb (at + (6 + n)) long (omega arith))
    go false e = let f = leb-false n (long - at - 6) e in sym (lt-leb (at + (6 + n)) long (omega arith))

-- what a frame leaves, by the edge of its call
pub frame-left : (frames table room answers : List ℕ) (from at : ℕ) {number : ℕ} {table' answer' room' : List ℕ}
    → edge number table' answer' room' [] [] ≡ frame_edge frames from (part answers at answer_size) (lent_by table room answers)
    → lent_by table' room' (sets answers at answer') ≡ frame_call frames from at (part answers at answer_size) (lent_by table room answers)
frame-left frames table room answers from at e = ap (λ (x : Edge). lent_by x.table x.room (sets answers at x.answer)) e

-- where the loop stands: the octets are a valid table's, and what is left of the run comes to the whole of it
pub record Taking (frames : List ℕ) (whole : Ran) (table room answers : List ℕ) (count at : ℕ) : Type 0 where
  pub valid : valid_octets table ≡ true
  pub running : Running frames (frame_size frames) (frame_call frames) whole count at (lent_by table room answers)

pub taking_turn : {frames : List ℕ} {whole : Ran} {table room answers : List ℕ} {count at : ℕ} → Taking frames whole table room answers count at
    → at + frame_size frames at ≤ length frames → answer_size * suc count ≤ length answers
    → {table' room' answers' : List ℕ} {next : ℕ} → next ≡ at + frame_size frames at
    → lent_by table' room' answers' ≡ frame_call frames at (answer_size * count) (part answers (answer_size * count) answer_size) (lent_by table room answers)
    → length answers' ≡ length answers
    → Taking frames whole table' room' answers' (count + 1) next
taking_turn {frames} {whole} {table} {room} {answers} {count} {at} s f g {table'} {room'} {answers'} {next} n e long =
    record {
      valid =
          ap (λ (l : Lent). valid_octets l.table) e
          ∙ frame_valid table s.valid (part answers (answer_size * count) answer_size) room (part frames (at + 6) (u16_at frames (at + 4))) (u16_at frames at) (u16_at frames (at + 2));
      running = rw n (running_turn s.running (omega arith) f g (omega arith) (lent_by table' room' answers') long (sym e));
    }
