-- `script_commands::with_number` meets its contract, letter by letter.
use borrow.Author.Tests.{eq-eqb, ne_eqb}
use native.Mathlib.Omega.{arith}
use Rattle.lists.specs.Choose.{choose}
use Rattle.script_commands.specs.Commands.{with_number}
use Rattle.script_commands.proofs.with_number.Goals as goal

pub returns-then-c-eq82 : goal.returns-then-c-eq82
unfolding with_number choose
returns-then-c-eq82 c = grind (arith, eq-eqb, ne_eqb)

pub returns-then-c-eq74 : goal.returns-then-c-eq74
unfolding with_number choose
returns-then-c-eq74 c = grind (arith, eq-eqb, ne_eqb)

pub returns-then-c-eq90 : goal.returns-then-c-eq90
unfolding with_number choose
returns-then-c-eq90 c = grind (arith, eq-eqb, ne_eqb)

pub returns-then-c-eq71 : goal.returns-then-c-eq71
unfolding with_number choose
returns-then-c-eq71 c = grind (arith, eq-eqb, ne_eqb)

pub returns-then-c-eq72 : goal.returns-then-c-eq72
unfolding with_number choose
returns-then-c-eq72 c = grind (arith, eq-eqb, ne_eqb)

pub returns-then-c-eq76 : goal.returns-then-c-eq76
unfolding with_number choose
returns-then-c-eq76 c = grind (arith, eq-eqb, ne_eqb)

pub returns-then-c-eq68 : goal.returns-then-c-eq68
unfolding with_number choose
returns-then-c-eq68 c = grind (arith, eq-eqb, ne_eqb)

pub returns-then-c-eq69 : goal.returns-then-c-eq69
unfolding with_number choose
returns-then-c-eq69 c = grind (arith, eq-eqb, ne_eqb)

pub returns-then-c-eq87 : goal.returns-then-c-eq87
unfolding with_number choose
returns-then-c-eq87 c = grind (arith, eq-eqb, ne_eqb)

pub returns-then-c-eq85 : goal.returns-then-c-eq85
unfolding with_number choose
returns-then-c-eq85 c = grind (arith, eq-eqb, ne_eqb)

pub returns-then-c-eq116 : goal.returns-then-c-eq116
unfolding with_number choose
returns-then-c-eq116 c = grind (arith, eq-eqb, ne_eqb)

pub returns-then-c-eq77 : goal.returns-then-c-eq77
unfolding with_number choose
returns-then-c-eq77 c = grind (arith, eq-eqb, ne_eqb)

pub returns-then-c-eq120 : goal.returns-then-c-eq120
unfolding with_number choose
returns-then-c-eq120 c = grind (arith, eq-eqb, ne_eqb)

pub returns-then-c-eq110 : goal.returns-then-c-eq110
unfolding with_number choose
returns-then-c-eq110 c = grind (arith, eq-eqb, ne_eqb)

pub returns : goal.returns
unfolding with_number choose
returns c = grind (arith, eq-eqb, ne_eqb)
