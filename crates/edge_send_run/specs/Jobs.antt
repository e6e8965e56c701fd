-- What a run of jobs leaves on octets: what the sends leave one after the other (`send_edge`), each of them a call of the run (crate edge_run), and each job's frames behind those of the jobs before it.
use Rattle.std.specs.Prelude.{List, [], ℕ, ◌+◌, length, get_or, drop, None}
use Rattle.std.proofs.lemmas.List.Edits.{sets}
use Rattle.octets.specs.Octets.{u16_at, part}
use Rattle.definition.specs.Outcome.{verdict}
use Rattle.edge_layout.specs.Layout.{read}
use Rattle.edge_placed.specs.Frames.{send_edge, sent_octets}
use Rattle.edge_run.specs.Run.{Lent, Ran, RunEdge, ended, ran, begun, told}
use Rattle.edge_run.specs.declared.Ended.{Ended}

-- A job of a run: the slot, one octet; the job's length, two octets, the lower first; then the job.
abbrev pub job_size : List ℕ → (from : ℕ) → ℕ
job_size jobs from = 3 + u16_at jobs (from + 1)

-- its answer takes the octets `at` of the answers, its frames what is left of the output
abbrev pub job_call : List ℕ → (from at : ℕ) → (answer : List ℕ) → Lent → Lent
job_call jobs from at answer l =
    let slot = get_or jobs from 0 in
    let sdu = part jobs (from + 3) (u16_at jobs (from + 1)) in
    let left = drop l.wrote l.out in
    let e = send_edge l.table answer left slot sdu in
    record { table = e.table; room = []; out = sets l.out l.wrote e.out; wrote = l.wrote + sent_octets l.table left slot sdu; answers = sets l.answers at e.answer }

-- what a run of jobs works on
abbrev pub lent_by : (table out : List ℕ) → (wrote : ℕ) → (answers : List ℕ) → Lent
lent_by table out wrote answers = record { table = table; room = []; out = out; wrote = wrote; answers = answers }

-- the jobs of a run, one after the other
abbrev pub jobs_run : (table out jobs answers : List ℕ) → Ran
jobs_run table out jobs answers = ran jobs (job_size jobs) (job_call jobs) (length jobs) 0 0 (lent_by table out 0 answers)

-- what the code leaves behind them
abbrev pub left_by : Ended → (table out answers : List ℕ) → Ran
left_by e table out answers = ended e.stop e.count e.used (lent_by table out e.wrote answers)

-- A run of jobs.
abbrev pub send_run_edge : (table answer out jobs answers : List ℕ) → RunEdge
send_run_edge table answer out jobs answers =
    told answer (begun (verdict (read table).table None None None None) (lent_by table out 0 answers) (jobs_run table out jobs answers))
