-- `table_gate_sizes::part_size` meets its contract: the product is small (width-most).
use native.Mathlib.Omega.{arith}
use native.Mathlib.Numerals.{add-one}
use Rattle.table_gate_sizes.specs.Sizes.{width-most}
use Rattle.table_gate_sizes.proofs.part_size.Goals as goal

pub overflow_mul-result : goal.overflow_mul-result
overflow_mul-result c =
    let a = c.args in
    let h = width-most a.d a.m c.requires.0 c.requires.1 in
    record { fits = rw (c.place_size.ensures, add-one a.d) (omega arith) }

pub returns : goal.returns
returns c = rw (c.place_size.ensures, add-one c.args.d)
