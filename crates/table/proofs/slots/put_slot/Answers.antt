-- `table::put_slot` meets its contract: past the end `set` changes nothing.
use mathlib.Core.Path.{◌≡◌}
use Prim.Native.Nat.{◌≤◌}
use native.Mathlib.Omega.{arith}
use lib.Seq.{set_out}
use borrow.Author.Rules.{rules}
use lib.ListN.{length}
use Rattle.channel.specs.Limits.{slots_most}
use Rattle.table.proofs.slots.put_slot.Goals as goal

pub returns-else-s-lt-SLOTS : goal.returns-else-s-lt-SLOTS
returns-else-s-lt-SLOTS c =
    let a = c.args in
    let e : length a.t.slots ≡ slots_most = search rules in
    let h : length a.t.slots ≤ a.s = omega arith in
    rw set_out
