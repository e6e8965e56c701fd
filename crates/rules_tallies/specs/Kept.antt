-- What a slot that counts nothing comes to: which changes of its state reset it, a case a state; and that each form of an outcome (Outcome.antt of crate definition) leaves it so.
use Rattle.std.specs.Prelude.{List}
use Rattle.channel.specs.declared.Slot.{Slot}
use Rattle.definition.specs.Mem.{Move}
use Rattle.definition.specs.Table.{no_tallies}
use Rattle.rules_tallies.specs.Statement.{Tallied}

-- ---- a slot in a call that adds nothing to it

pub record Kept (x y : Slot) (ms : List Move) : Type 0 where
  pub is : Tallied x y no_tallies
