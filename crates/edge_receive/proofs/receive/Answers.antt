-- `edge_receive::receive` meets its contract: refusal 1 told from the octets, and behind it `taking`.
use Rattle.std.specs.Prelude.{None, Some}
use mathlib.Core.Path.{◌≡◌, sym, ◌∙◌}
use mathlib.Core.Bool.{false}
use lib.ListN.{length}
use borrow.Author.Tests.{not-true, not-false}
use Rattle.codes.specs.declared.Refusal.TheVariants.{BadTable}
use Rattle.edge_scan.specs.Scan.{valid_octets}
use Rattle.edge_row.proofs.Gate.{refused_1}
use Rattle.edge_placed.specs.Taken.{take_stopped}
use Rattle.edge_receive.proofs.receive.Goals as goal

pub returns-then-not-valid : goal.returns-then-not-valid
returns-then-not-valid c =
    let g = c.args in
    let o = g.table.now in
    let told = c.put_answer.ensures in
    let bad : valid_octets o ≡ false = sym c.valid.ensures ∙ not-true c.valid.result c.if-not-valid.true-raw in
    rw (told.value, told.out_after) (take_stopped o g.answer.now g.room.now g.signal.now g.job.now g.slot BadTable (refused_1 o bad (Some (length g.room.now)) (Some (length g.signal.now)) None (Some g.slot)))

pub admitted-requires : goal.admitted-requires
admitted-requires c = sym c.valid.ensures ∙ not-false c.valid.result c.if-not-valid.false-raw
