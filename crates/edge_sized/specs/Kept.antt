-- What a call keeps of a table's shape: the lengths of its arrays and its sizes, which is all that the table's octets need to give it back
-- (`Sized`, crate edge_layout), and every slot past N. And the laws by which a call's proof shows it, one for each form that an outcome has.
use Rattle.std.specs.Prelude.{◌≡◌, length, drop}
use Rattle.channel.specs.Limits.{depth_most}
use Rattle.channel.specs.declared.Slot.{Slot}
use Rattle.channel.specs.declared.Table.{Table}
use Rattle.definition.specs.Outcome.{Outcome}
use Rattle.edge_layout.specs.Back.{Sized}

-- ---- a slot

-- its queue has room for the lengths of D jobs
abbrev pub Long : Slot → Type 0
Long x = length x.queue.lens ≡ depth_most

-- what a call keeps
pub record Kept (t : Table) (o : Outcome) : Type 0 where
  pub sized : Sized o.table
  pub n : o.table.n ≡ t.n
  pub past : drop t.n o.table.slots ≡ drop t.n t.slots

-- ---- tables that have the same slots and sizes, and as many octets of SPSMs

pub record Like (t t' : Table) : Type 0 where
  pub slots : t'.slots ≡ t.slots
  pub spsms : length t'.spsms ≡ length t.spsms
  pub n : t'.n ≡ t.n
  pub d : t'.d ≡ t.d
  pub m : t'.m ≡ t.m
