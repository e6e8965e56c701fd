-- `table_spsms::registered` meets its contract: the bit is not set, by what `is_registered` ensures.
use mathlib.Core.Bool.{false}
use mathlib.Core.Path.{◌≡◌, sym, ◌∙◌}
use native.Mathlib.Omega.{arith}
use borrow.Author.Tests.{le-leb}
use Rattle.lists.specs.Choose.{choose}
use Rattle.definition.specs.Table.{is_registered}
use Rattle.table_spsms.proofs.registered.Goals as goal

pub returns-then-is_registered : goal.returns-then-is_registered
unfolding choose
returns-then-is_registered c = rw (← c.is_registered.ensures, c.if-is_registered.true)

pub with_bit-octet-requires : goal.with_bit-octet-requires
with_bit-octet-requires c =
    let e : is_registered c.args.t c.args.spsm ≡ false = sym c.is_registered.ensures ∙ c.if-is_registered.false in
    (omega arith, rw (le-leb _ _ c.requires.0, le-leb _ _ c.requires.1) at e)

pub returns : goal.returns
unfolding choose
returns c =
    rw (← c.is_registered.ensures, c.if-is_registered.false, c.with_bit-octet.ensures)
