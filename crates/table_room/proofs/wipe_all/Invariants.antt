-- `table_room::wipe_all` meets its contract: the slots below i have made their moves (Swept).
use mathlib.Core.List.{[], ◌∷◌}
use Rattle.lists.specs.Choose.{choose}
use Rattle.definition.specs.Table.{width}
use Rattle.definition.specs.Mem.{wipe}
use Rattle.table_slot.specs.Want.{wanted}
use Rattle.table_room.specs.Swept.{Swept}
use Rattle.table_room.proofs.wipe_all.Given as goal

abbrev pub invariant-loop-i : goal.invariant-loop-i
invariant-loop-i l = Swept (λ x. x) [] (width l.t) (λ x. choose (wanted l.w x) (wipe ∷ []) []) l.t.n l.t.slots l.initial.room l.i l.room
