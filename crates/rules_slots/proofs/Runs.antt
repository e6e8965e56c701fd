-- The laws hold of every call of every run: a table that was made has its N slots, and every call keeps that (`safe`, crate definition), so that
-- each law's premise `Fit` is met wherever a run has come to.
use Rattle.std.specs.Prelude.{List, [], ◌∷◌, ℕ, ◌≤◌, leb}
use Rattle.std.proofs.Common.{arith, leb-true}
use Rattle.std.proofs.lemmas.List.{length-replicate}
use Rattle.std.proofs.lemmas.Bool.{not-false}
use Rattle.lists.specs.Choose.{if_cases}
use Rattle.lists.specs.Both.{and_left, and_right}
use Rattle.channel.specs.Limits.{slots_most}
use Rattle.channel.specs.declared.Slot.{Slot}
use Rattle.definition.specs.Table.{fresh, sizes_fit}
use Rattle.definition.specs.Asking.{Made, blank, make}
use Rattle.definition.specs.Calls.{Call}
use Rattle.definition.specs.Run.{State, after, made, run}
use Rattle.definition.specs.Forms.{Fit}
use Rattle.definition.proofs.Safe.{safe}

blank_fit : (n d m : ℕ) → n ≤ slots_most → Fit (blank n d m)
blank_fit n d m h = record { fits = rw (length-replicate {A = Slot} slots_most (fresh 0)) h }

made_fit : (n d m : ℕ) (room : List ℕ) → Fit (make n d m room).table
unfolding make
made_fit n d m room =
    if_cases P _ (λ _. blank_fit 0 0 0 (omega arith)) λ e.
    let h : n ≤ slots_most = leb-true n slots_most (and_left (leb n slots_most) _ (and_right (leb 1 n) _ (not-false (sizes_fit n d m) e))) in
    if_cases P _ (λ _. blank_fit 0 0 0 (omega arith)) λ _. blank_fit n d m h
  where
    P : Made → Type 0
    P x = Fit x.table

run_fit : (s : State) (cs : List Call) → Fit s.table → Fit (run s cs).table
unfolding run after
run_fit s [] h = h
run_fit s (c ∷ cs) h = run_fit (after s c) cs (safe s.table h c _ _ _ _).fit

-- whatever the sizes of the making, and whatever the calls
pub every-run : (n d m : ℕ) (room memory : List ℕ) (cs : List Call) → Fit (run (made n d m room memory) cs).table
every-run n d m room memory cs = run_fit (made n d m room memory) cs (made_fit n d m room)
