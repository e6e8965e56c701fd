-- How a run of frames begins and what is told at its end: the first refusals by the table's octets, and the run's own answer.
use Rattle.std.specs.Prelude.{◌≡◌, refl, true, not, List, [], ℕ, eqb, length, get_or, Err, None, Ok, Result, Some}
use Rattle.std.proofs.Common.{sym, ap, ◌∙◌}
use Rattle.std.proofs.lemmas.List.Edits.{sets}
use Rattle.octets.specs.Octets.{u16_at}
use Rattle.codes.specs.declared.Refusal.{Refusal}
use Rattle.codes.specs.Codes.{refusal_number}
use Rattle.definition.specs.Table.{room_width}
use Rattle.definition.specs.Outcome.{verdict}
use Rattle.edge_layout.specs.Layout.{read}
use Rattle.edge_scan.specs.Scan.{valid_octets}
use Rattle.edge_row.proofs.Gate.{passes}
use Rattle.edge_run.specs.declared.Ended.{Ended}
use Rattle.edge_run.specs.Run.{ended_as, ran_octets, run_edge, begun, told}
use Rattle.edge_dispatch_run.specs.Frames.{lent_by, frames_run, left_by, dispatch_run_edge}

-- no refusal, where the room fits
pub run-passes : (o : List ℕ) → valid_octets o ≡ true → (long : ℕ) → eqb long (room_width (get_or o 1 0) (get_or o 2 0) (u16_at o 3)) ≡ true → verdict (read o).table (Some long) None None None ≡ Ok tt
run-passes o v long e = passes o v (Some long) None None None (ap not e) refl refl refl

-- ---- what is told

module _ (o a room frames answers : List ℕ) (x : Ended) {number : ℕ} {o' a' room' answers' : List ℕ} (n : number ≡ x.stop) (e : a' ≡ sets a 0 (ran_octets x.stop x.count x.used x.wrote)) where
  ends : run_edge number o' a' room' [] answers' ≡ told a (left_by x o' room' answers')
  ends = rw (n, e)

  -- A RUN THAT BEGINS
  pub run_ends : verdict (read o).table (Some (length room)) None None None ≡ Ok tt → left_by x o' room' answers' ≡ frames_run o room frames answers
      → run_edge number o' a' room' [] answers' ≡ dispatch_run_edge o a room frames answers
  run_ends pass ran = ends ∙ ap (told a) ran ∙ sym (ap (λ (v : Result (Unit {0}) Refusal). told a (begun v (lent_by o room answers) (frames_run o room frames answers))) pass)

-- ONE THAT THE FIRST REFUSALS STOP leaves everything but its answer
pub run_stopped : (o a room frames answers : List ℕ) (r : Refusal) {x : Ended} {number : ℕ} {a' : List ℕ} → verdict (read o).table (Some (length room)) None None None ≡ Err r
    → x ≡ ended_as (refusal_number r) 0 0 0 → number ≡ x.stop → a' ≡ sets a 0 (ran_octets x.stop x.count x.used x.wrote)
    → run_edge number o a' room [] answers ≡ dispatch_run_edge o a room frames answers
run_stopped o a room frames answers r {x} stop is n e =
    ends o a room frames answers x n e
    ∙ ap (λ (y : Ended). told a (left_by y o room answers)) is
    ∙ sym (ap (λ (v : Result (Unit {0}) Refusal). told a (begun v (lent_by o room answers) (frames_run o room frames answers))) stop)
