-- `octets_numbers::put_number` meets its contract: two stores are the run of two, and past the end there is none.
use mathlib.Core.Path.{sym}
use native.Mathlib.Numerals.{add-one}
use Rattle.octets_numbers.specs.Octets.{le16}
use Rattle.lists.specs.Sets.{sets-out}
use Rattle.octets_numbers.proofs.put_number.Goals as goal

pub returns-then-at-out : goal.returns-then-at-out
returns-then-at-out c =
    rw (c.put-then-at-out.ensures, c.put.ensures, ← add-one c.args.at)

pub returns-else-at-out : goal.returns-else-at-out
returns-else-at-out c = sym (sets-out _ _ (le16 c.args.v) c.if-at-out.false)
