use Rattle.std.specs.Prelude.{◌≡◌, ℕ, List, ◌-◌, ◌≤◌, ◌<◌, ◌^◌, length, take, drop}
use Rattle.std.proofs.Common.{arith, length-take, length-drop}
use borrow.Author.Rules.{rules}
use Rattle.lists.specs.Bits.{Set, bitset-width, bit_le, set-none, set_more}
use Rattle.channel.specs.Limits.{slots_most}
use Rattle.channel.specs.declared.Slot.{Slot}
use Rattle.definition.specs.Table.{calls}
use Rattle.table_attention.proofs.attention_set.Goals as goal

-- behind the loop's first turn one slot at least is left of the set's width
below : {n i a : ℕ} (xs : List Slot) → length xs ≡ slots_most → Set calls n xs i a → 0 < i → a < 2 ^ (slots_most - 1)
below {n} {i} {a} xs e s h =
    let k : length (drop i (take n xs)) ≤ slots_most - 1 = rw (length-drop, length-take) (omega arith) in
    rw s.is (bitset-width calls (slots_most - 1) (drop i (take n xs)) k)

pub loop-i-init : goal.loop-i-init
loop-i-init c =
    let e : length c.args.t.slots ≡ slots_most = search rules in
    set-none (omega arith)

pub overflow_mul-a : goal.overflow_mul-a
overflow_mul-a c =
    let e : length c.args.t.slots ≡ slots_most = search rules in
    let b = below c.args.t.slots e c.loop-i.invariant (omega arith) in
    omega arith

pub overflow_add-a : goal.overflow_add-a
overflow_add-a c =
    let e : length c.args.t.slots ≡ slots_most = search rules in
    let b = below c.args.t.slots e c.loop-i.invariant (omega arith) in
    omega (arith, bit_le c.calls.result)

pub loop-i-preserved : goal.loop-i-preserved
loop-i-preserved c =
    let l = c.loop-i in
    let e : length c.args.t.slots ≡ slots_most = search rules in
    rw (c.bit_of.ensures, c.calls.ensures) (set_more {i = l.i - 1} l.invariant _ (omega arith) (omega arith) (omega arith))
