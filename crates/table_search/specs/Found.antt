-- The answer of the search over a run of slot records: the definition's `free_among`, in the words of `Option` for a slot and for none.
use Rattle.std.specs.Prelude.{List, Option, Some, None, ℕ}
use Rattle.channel.specs.declared.Slot.{Slot}
use Rattle.definition.specs.Asking.{free_among}

abbrev pub found_in : List Slot → Option ℕ
found_in l = free_among Some None l
