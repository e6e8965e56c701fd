-- `table_attention::attention` meets its contract: the ones of the set are the slots that call (ones-count), and the zeros below its lowest one
-- the lowest of them (trailing_first); where no bit is set none calls (empty_first).
use mathlib.Core.Path.{◌≡◌, sym, ap, ◌∙◌}
use Prim.Native.Nat.{◌≤◌}
use native.Mathlib.Omega.{arith}
use borrow.Author.Rules.{rules}
use lib.ListN.{length, length-take}
use lib.Count.{ones, ones-le, trailing_le}
use Rattle.lists.specs.Bits.{ones-count, trailing_first, empty_first}
use Rattle.channel.specs.Limits.{slots_most}
use Rattle.definition.specs.Table.{live, calls}
use Rattle.table_attention.specs.Says.{attention-is}
use Rattle.table_attention.proofs.attention.Goals as goal

pub overflow_cast-count : goal.overflow_cast-count
overflow_cast-count c = omega (arith, ones-le 16 c.attention_set-set.result (omega arith))

pub returns-then-set-eq0 : goal.returns-then-set-eq0
returns-then-set-eq0 c =
    let e : length c.args.t.slots ≡ slots_most = search rules in
    let q = c.attention_set-set.ensures in
    let l = live c.args.t in
    let z = sym q ∙ c.if-set-eq0.true in
    attention-is q (ap ones q ∙ ones-count calls l) (c.least.ensures ∙ sym (empty_first calls l z ∙ rw (length-take, e)))

pub overflow_cast-result-2 : goal.overflow_cast-result-2
overflow_cast-result-2 c = omega (arith, trailing_le 16 c.attention_set-set.result)

pub returns : goal.returns
returns c =
    let e : length c.args.t.slots ≡ slots_most = search rules in
    let q = c.attention_set-set.ensures in
    let l = live c.args.t in
    let w : length l ≤ slots_most = rw (length-take, e) (omega arith) in
    attention-is q (ap ones q ∙ ones-count calls l) (rw q (trailing_first calls slots_most l w (omega arith)))
