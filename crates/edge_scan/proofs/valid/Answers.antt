-- `edge_scan::valid` meets its contract: the tests are those of the definition, and come to refusal 1 (scan_is).
use mathlib.Core.Path.{sym}
use native.Mathlib.Omega.{arith}
use Rattle.edge_scan.specs.Scan.{scanned}
use Rattle.edge_scan.specs.Valid.{scan_is, valid_other}
use Rattle.edge_scan.proofs.valid.Goals as goal

pub returns-then-table-ne-TABLE_OCTETS : goal.returns-then-table-ne-TABLE_OCTETS
returns-then-table-ne-TABLE_OCTETS c = sym (valid_other c.args.table.now (λ e. omega arith))

pub overflow_cast-n : goal.overflow_cast-n
overflow_cast-n c =
    omega (arith, c.shared_slice_known-1.given 1)

pub overflow_cast-d : goal.overflow_cast-d
overflow_cast-d c =
    omega (arith, c.shared_slice_known-1.given 2)

pub returns : goal.returns
unfolding scanned
returns c =
    rw (
      c.rows_fit-rows.ensures,
      c.sizes_fit-sizes.ensures,
      c.spelled-spelled.ensures,
      c.place_size-place.ensures,
      c.number-m.ensures,
    ) (scan_is c.args.table.now (omega arith) (λ k. omega (arith, c.shared_slice_known-1.given k)))
