-- `edge_start_job::start_job` meets its contract: refusal 1 told from the octets, and behind it `started`.
use Rattle.std.specs.Prelude.{None, Some}
use mathlib.Core.Path.{◌≡◌, sym, ◌∙◌}
use mathlib.Core.Bool.{false}
use borrow.Author.Tests.{not-true, not-false}
use Rattle.codes.specs.declared.Refusal.TheVariants.{BadTable}
use Rattle.edge_scan.specs.Scan.{valid_octets}
use Rattle.edge_row.proofs.Gate.{refused_1}
use Rattle.edge_placed.specs.Filled.{start_stopped}
use Rattle.edge_start_job.proofs.start_job.Goals as goal

pub returns-then-not-valid : goal.returns-then-not-valid
returns-then-not-valid c =
    let a = c.args in
    let o = a.table.now in
    let told = c.put_answer.ensures in
    let bad : valid_octets o ≡ false = sym c.valid.ensures ∙ not-true c.valid.result c.if-not-valid.true-raw in
    rw (told.value, told.out_after) (start_stopped o a.answer.now a.buffer.now a.slot a.stated BadTable (refused_1 o bad None None None (Some a.slot)))

pub started-requires : goal.started-requires
started-requires c = sym c.valid.ensures ∙ not-false c.valid.result c.if-not-valid.false-raw
