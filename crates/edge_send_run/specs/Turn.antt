-- A turn of the run's loop: one job is sent, its frames behind those before it, its answer over the next sixteen octets of the answers.
use Rattle.std.specs.Prelude.{◌≡◌, refl, true, false, List, [], ℕ, suc, ◌+◌, ◌-◌, ◌*◌, ◌≤◌, ◌<◌, length, get_or, drop, None, Ok, Result}
use Rattle.std.proofs.Common.{sym, ap, ◌∙◌, arith, length-drop}
use Rattle.std.proofs.lemmas.List.Edits.{sets}
use Rattle.std.proofs.Math.Seq.{length-sets}
use Rattle.octets.specs.Octets.{u16_at, part}
use Rattle.lists.specs.Choose.{choose}
use Rattle.codes.specs.declared.Refusal.TheVariants.{BadTable}
use Rattle.codes.specs.Codes.{refusal_number}
use Rattle.definition.specs.Outcome.{verdict}
use Rattle.edge_layout.specs.Layout.{read}
use Rattle.edge.specs.Edge.{Edge, edge}
use Rattle.edge_scan.specs.Scan.{valid_octets}
use Rattle.edge_row.specs.Gate.{sized_verdict}
use Rattle.edge_row.proofs.Gate.{refused_1, verdict-told}
use Rattle.edge_placed.specs.Frames.{send_edge, sent_octets}
use Rattle.edge_placed.specs.Sent.{octets_within}
use Rattle.edge_placed.specs.Valid.{send_valid}
use Rattle.edge_run.specs.Run.{Ran, RunEdge, ended, answer_size, begun, told}
use Rattle.edge_run.specs.Running.{Running, running_turn}
use Rattle.edge_send_run.specs.Jobs.{job_size, job_call, lent_by, jobs_run, send_run_edge}
use Rattle.codes.specs.declared.Refusal.{Refusal}

pub record Sending (jobs : List ℕ) (whole : Ran) (table out answers : List ℕ) (count at wrote : ℕ) : Type 0 where
  pub valid : valid_octets table ≡ true
  pub within : wrote ≤ length out
  pub running : Running jobs (job_size jobs) (job_call jobs) whole count at (lent_by table out wrote answers)

module _ {jobs : List ℕ} {whole : Ran} {table out answers : List ℕ} {count at wrote : ℕ} (s : Sending jobs whole table out answers count at wrote) (h : at < length jobs)
    (f : at + job_size jobs at ≤ length jobs) (g : answer_size * suc count ≤ length answers) where
  -- The send's own answer, output and job are parts of the run's.
  pub sending_turn : (here left job : List ℕ) {number octets at' : ℕ} {table' here' left' out' answers' : List ℕ}
      → edge number table' here' [] left' [] ≡ send_edge table here left (get_or jobs at 0) job → octets ≡ sent_octets table left (get_or jobs at 0) job
      → here ≡ part answers (answer_size * count) answer_size → left ≡ drop wrote out → job ≡ part jobs (at + 3) (u16_at jobs (at + 1))
      → out' ≡ sets out wrote left' → answers' ≡ sets answers (answer_size * count) here' → at' ≡ at + job_size jobs at
      → Sending jobs whole table' out' answers' (count + 1) at' (wrote + octets)
  sending_turn here left job {number} {octets} {at'} {table'} {here'} {left'} {out'} {answers'} e o a b j p q n =
      let slot = get_or jobs at 0 in
      let t : table' ≡ (send_edge table here left slot job).table = ap (λ (x : Edge). x.table) e in
      let k = octets_within table left job slot in
      let r : length left ≡ length out - wrote = ap length b ∙ length-drop wrote out in
      let long : length answers' ≡ length answers = ap length q ∙ length-sets answers (answer_size * count) here' in
      record {
        valid = ap valid_octets t ∙ send_valid table s.valid here left job slot;
        within = let w : length out' ≡ length out = ap length p ∙ length-sets out wrote left' in omega (arith, s.within, k, r, w, o);
        running =
            rw n
            (running_turn s.running h f g (omega arith) (lent_by table' out' (wrote + octets) answers') long
            (sym (rw (p, q, o, t, ap (λ (x : Edge). x.answer) e, ap (λ (x : Edge). x.out) e, a, b, j) refl)));
      }

-- ---- before the first turn

passes : (o : List ℕ) → valid_octets o ≡ true → verdict (read o).table None None None None ≡ Ok tt
unfolding sized_verdict choose
passes o v = verdict-told o v None None None None

module _ (table answer out jobs answers : List ℕ) where
  abbrev by : Result (Unit {0}) Refusal → RunEdge
  by v = told answer (begun v (lent_by table out 0 answers) (jobs_run table out jobs answers))

  pub run-refused : valid_octets table ≡ false → told answer (ended (refusal_number BadTable) 0 0 (lent_by table out 0 answers)) ≡ send_run_edge table answer out jobs answers
  run-refused e = ap by (sym (refused_1 table e None None None None))

  pub run-begun : valid_octets table ≡ true → {x : Ran} → x ≡ jobs_run table out jobs answers → told answer x ≡ send_run_edge table answer out jobs answers
  run-begun v e = ap (told answer) e ∙ ap by (sym (passes table v))
