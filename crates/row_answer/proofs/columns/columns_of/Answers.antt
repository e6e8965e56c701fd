-- `row_answer::columns::columns_of` meets its contract: code and definition make the same tests in the same order.
use mathlib.Core.Path.{refl}
use Rattle.lists.proofs.Rules.{tests}
use Rattle.lists.specs.Choose.{choose}
use Rattle.row_answer.specs.Told.{columns_in}
use borrow.Author.Rules.{rules}
use Rattle.row_answer.proofs.columns.columns_of.Goals as goal

pub returns-then-x-eq17 : goal.returns-then-x-eq17
unfolding columns_in choose
returns-then-x-eq17 c = record { few = search rules; long = refl; rest = refl; are = search tests }

pub returns-then-kind-eq-AT : goal.returns-then-kind-eq-AT
unfolding columns_in choose
returns-then-kind-eq-AT c = record { few = search rules; long = refl; rest = refl; are = search tests }

pub returns-then-kind-eq-OPENED : goal.returns-then-kind-eq-OPENED
unfolding columns_in choose
returns-then-kind-eq-OPENED c = record { few = search rules; long = refl; rest = refl; are = search tests }

pub returns-then-kind-eq-DUE : goal.returns-then-kind-eq-DUE
unfolding columns_in choose
returns-then-kind-eq-DUE c = record { few = search rules; long = refl; rest = refl; are = search tests }

pub returns-then-kind-eq-FRAMES : goal.returns-then-kind-eq-FRAMES
unfolding columns_in choose
returns-then-kind-eq-FRAMES c = record { few = search rules; long = refl; rest = refl; are = search tests }

pub returns-then-kind-eq-JOB : goal.returns-then-kind-eq-JOB
unfolding columns_in choose
returns-then-kind-eq-JOB c = record { few = search rules; long = refl; rest = refl; are = search tests }

pub returns-then-kind-eq-ATTENTION : goal.returns-then-kind-eq-ATTENTION
unfolding columns_in choose
returns-then-kind-eq-ATTENTION c = record { few = search rules; long = refl; rest = refl; are = search tests }

pub returns-then-kind-eq-NUMBER : goal.returns-then-kind-eq-NUMBER
unfolding columns_in choose
returns-then-kind-eq-NUMBER c = record { few = search rules; long = refl; rest = refl; are = search tests }

pub returns-then-kind-eq-EVENT : goal.returns-then-kind-eq-EVENT
unfolding columns_in choose
returns-then-kind-eq-EVENT c = record { few = search rules; long = refl; rest = refl; are = search tests }

pub returns-then-kind-eq-PORTION : goal.returns-then-kind-eq-PORTION
unfolding columns_in choose
returns-then-kind-eq-PORTION c = record { few = search rules; long = refl; rest = refl; are = search tests }

pub returns : goal.returns
unfolding columns_in choose
returns c = record { few = search rules; long = refl; rest = refl; are = search tests }
