-- `table_attention::attention_set` meets its contract: a is the set of the slots from i on (Set), which leaves a bit for each slot below i.
use Rattle.lists.specs.Bits.{Set}
use Rattle.definition.specs.Table.{calls}
use Rattle.table_attention.proofs.attention_set.Given as goal

abbrev pub invariant-loop-i : goal.invariant-loop-i
invariant-loop-i l = Set calls l.t.n l.t.slots l.i l.a
