-- A making that returns 0 starts a run of the definition, spelled: whatever the table's octets, the answer's and the room's were before.
use Rattle.std.specs.Prelude.{◌≡◌, refl, Bool, true, false, not, List, ℕ, eqb, length}
use Rattle.std.proofs.Common.{ap, eqb-true}
use Rattle.std.proofs.lemmas.Bool.{eqb-false}
use Rattle.lists.specs.Choose.{choose, if_cases}
use Rattle.channel.specs.declared.Answer.TheVariants.{Done}
use Rattle.definition.specs.Table.{sizes_fit, room_size}
use Rattle.definition.specs.Asking.{Made, blank, make}
use Rattle.definition.specs.Numbers.{answer_number}
use Rattle.edge_layout.specs.Layout.{table_octets}
use Rattle.edge.specs.Edge.{lifted, made_on}
use Rattle.edge_asking.specs.Asking.{make_edge}
use Rattle.edge_sized.proofs.Sized.{made-sized}
use Rattle.edge_runs.specs.Run.{started}
use Rattle.edge_runs.proofs.Lift.{written-full}
use Rattle.edge_runs.specs.Start.{Start, at}

-- the making of the definition answers 0 too: Done
made-done : (n d m : ℕ) (room : List ℕ) → answer_number (make n d m room).answer ≡ 0 → (make n d m room).answer ≡ Done
unfolding make
made-done n d m room =
    if_cases P (not (sizes_fit n d m)) (λ _ e. absurd (eqb-false 1 0 refl e)) (λ _. if_cases P (not (eqb (length room) (room_size (blank n d m)))) (λ _ e. absurd (eqb-false 2 0 refl e)) (λ _ _. refl))
  where
    P : Made → Type 0
    P x = answer_number x.answer ≡ 0 → x.answer ≡ Done

starts : (fits : Bool) (table answer room : List ℕ) (n d m : ℕ) (memory : List ℕ) → eqb (length table) table_octets ≡ fits → (at fits table answer room n d m).number ≡ 0
    → Start n d m room memory (record { table = (at fits table answer room n d m).table; room = (at fits table answer room n d m).room; memory = memory })
unfolding lifted choose make
starts false table answer room n d m memory e h = absurd (eqb-false 1 0 refl h)
starts true table answer room n d m memory e h =
    let z : answer_number (make n d m room).answer ≡ 0 = h in
    let w = made-sized n d m room z in
    record {
      is = ap (λ (o : List ℕ). record { table = o; room = (make n d m room).room; memory = memory }) (written-full table (make n d m room).table (eqb-true (length table) table_octets e) w);
      number = z;
      answer = made-done n d m room z;
      sized = w;
    }

pub starting : (table answer room : List ℕ) (n d m : ℕ) (memory : List ℕ) → (make_edge table answer room n d m).number ≡ 0 → Start n d m room memory (started table answer room n d m memory)
unfolding made_on
starting table answer room n d m memory h = starts (eqb (length table) table_octets) table answer room n d m memory refl h
