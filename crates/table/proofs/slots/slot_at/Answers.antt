-- `table::slot_at` meets its contract: within the array it does not matter what a reading past the end would give.
use mathlib.Core.Path.{◌≡◌, sym, ◌∙◌}
use Prim.Native.Nat.{◌≤◌}
use native.Mathlib.Omega.{arith}
use borrow.Author.Rules.{rules}
use lib.ListN.{length, get_or-eq_default}
use Rattle.lists.specs.Any.{get_d_any}
use Rattle.channel.specs.Limits.{slots_most}
use Rattle.table.proofs.slots.slot_at.Goals as goal

pub returns-then-s-lt-SLOTS : goal.returns-then-s-lt-SLOTS
returns-then-s-lt-SLOTS c =
    let a = c.args in
    let e : length a.t.slots ≡ slots_most = search rules in
    get_d_any a.t.slots a.s _ _ (omega arith)

pub returns-else-s-lt-SLOTS : goal.returns-else-s-lt-SLOTS
returns-else-s-lt-SLOTS c =
    let a = c.args in
    let e : length a.t.slots ≡ slots_most = search rules in
    let h : length a.t.slots ≤ a.s = omega arith in
    c.fresh.ensures ∙ sym (get_or-eq_default a.t.slots _ h)
