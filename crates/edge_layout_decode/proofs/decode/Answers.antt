-- `edge_layout_decode::decode` meets its contract: octets pass the tests exactly where they are a spelling.
use mathlib.Core.Path.{sym, ◌∙◌}
use native.Mathlib.Omega.{arith}
use borrow.Author.Tests.{not-true, not-false}
use Rattle.edge_layout_decode.specs.Whole.{read_other, read-fails, read-passes}
use Rattle.edge_layout_decode.proofs.decode.Goals as goal

pub returns-then-octets-ne-TABLE_OCTETS : goal.returns-then-octets-ne-TABLE_OCTETS
returns-then-octets-ne-TABLE_OCTETS c =
    c.not_read.ensures ∙ sym (read_other c.args.octets.now (λ e. omega arith))

pub returns-then-not-spelled : goal.returns-then-not-spelled
returns-then-not-spelled c =
    c.not_read-then-not-spelled.ensures
    ∙ sym (read-fails c.args.octets.now (omega arith) (λ k. omega (arith, c.shared_slice_known-1.given k)) (sym c.spelled.ensures ∙ not-true c.spelled.result c.if-not-spelled.true-raw))

pub returns : goal.returns
returns c =
    rw c.table_in-table.ensures
    (sym (read-passes c.args.octets.now (omega arith) (λ k. omega (arith, c.shared_slice_known-1.given k)) (sym c.spelled.ensures ∙ not-false c.spelled.result c.if-not-spelled.false-raw)))
