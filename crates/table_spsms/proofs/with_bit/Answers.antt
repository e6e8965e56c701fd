-- `table_spsms::with_bit` meets its contract: the bit is not set, so that the sum is an octet (bit-fits).
use native.Mathlib.Omega.{arith}
use borrow.Author.Tests.{eqb-false}
use Rattle.table_spsms.specs.Bit.{bit_shifted, bit-fits}
use Rattle.table_spsms.proofs.with_bit.Goals as goal

pub overflow_add-result : goal.overflow_add-result
overflow_add-result c =
    let a = c.args in
    record { fits = rw (bit_shifted a.k c.requires.0) (bit-fits a.k a.octet c.requires.0 (omega arith) (eqb-false _ 1 c.requires.1)) }

pub returns : goal.returns
returns c = rw (bit_shifted c.args.k c.requires.0)
