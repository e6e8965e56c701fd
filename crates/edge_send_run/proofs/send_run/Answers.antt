-- `edge_send_run::send_run` meets its contract: refusal 1 told from the octets, and else the jobs, whose end is told in the run's own answer.
use mathlib.Core.Path.{◌≡◌, sym, ◌∙◌}
use mathlib.Core.Bool.{true, false}
use borrow.Author.Tests.{not-true, not-false}
use Rattle.edge_scan.specs.Scan.{valid_octets}
use Rattle.edge_send_run.specs.Jobs.{left_by}
use Rattle.edge_send_run.specs.Turn.{run-refused, run-begun}
use Rattle.edge_send_run.proofs.send_run.Goals as goal

pub returns-then-not-valid : goal.returns-then-not-valid
returns-then-not-valid c =
    let a = c.args in
    let o = a.table.now in
    let bad : valid_octets o ≡ false = sym c.valid.ensures ∙ not-true c.valid.result c.if-not-valid.true-raw in
    rw (c.put_ended.ensures.value, c.put_ended.ensures.answer_after, c.ending.ensures, c.refusal_number-stop.ensures) (run-refused o a.answer.now a.out.now a.jobs.now a.answers.now bad)

pub jobs_out-e-requires : goal.jobs_out-e-requires
jobs_out-e-requires c = sym c.valid.ensures ∙ not-false c.valid.result c.if-not-valid.false-raw

pub returns : goal.returns
returns c =
    let put = c.put_ended-2.ensures in
    let a = c.args in
    let o = a.table.now in
    let valid : valid_octets o ≡ true = sym c.valid.ensures ∙ not-false c.valid.result c.if-not-valid.false-raw in
    let j = c.jobs_out-e in
    rw (put.value, put.answer_after) (run-begun o a.answer.now a.out.now a.jobs.now a.answers.now valid {x = left_by j.result j.new.table j.new.out j.new.answers} j.ensures)
