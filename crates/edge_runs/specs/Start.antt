-- A making that returns 0 starts a run of the definition, spelled: whatever the table's octets, the answer's and the room's were before.
use Rattle.std.specs.Prelude.{◌≡◌, Bool, List, ℕ}
use Rattle.lists.specs.Choose.{choose}
use Rattle.channel.specs.declared.Answer.TheVariants.{Done}
use Rattle.definition.specs.Asking.{make}
use Rattle.definition.specs.Numbers.{answer_number}
use Rattle.definition.specs.Run.{made}
use Rattle.definition.specs.Ending.{end_made}
use Rattle.edge_layout.specs.Back.{Sized}
use Rattle.edge.specs.Edge.{Edge, lifted}
use Rattle.edge_runs.specs.Run.{EdgeState}
use Rattle.edge_runs.specs.Lift.{spelled}

pub record Start (n d m : ℕ) (room memory : List ℕ) (s : EdgeState) : Type 0 where
  pub is : s ≡ spelled (made n d m room memory)
  pub number : answer_number (make n d m room).answer ≡ 0
  pub answer : (make n d m room).answer ≡ Done
  pub sized : Sized (make n d m room).table

abbrev pub at : (fits : Bool) (table answer room : List ℕ) (n d m : ℕ) → Edge
at fits table answer room n d m = lifted fits table answer (end_made (make (choose fits n 0) d m room))
