-- Each public function of the calls: what its contract says, word for word, is a call of the run. The contract's `room.old` is the
-- state's room, `signal.old` the window of its memory that is lent, and `.new` what stands there after. One lemma a function; a
-- function that is lent no buffer is called with no window.
use Rattle.std.specs.Prelude.{ℕ}
use mathlib.Core.List.{List}
use Rattle.channel.specs.declared.Served.{Served}
use Rattle.definition.specs.Run.{State}

-- ---- what is left, by what was lent

abbrev pub left : Served → (room memory : List ℕ) → State
left r room memory = record { table = r.table; room = room; memory = memory }
