-- `edge_layout::state_of` meets its contract: the tests are those of the definition, in its order.
use Rattle.lists.specs.Choose.{choose}
use borrow.Author.Tests.{eq-eqb, ne_eqb}
use Rattle.lists.proofs.Rules.{tests}
use Rattle.edge_layout.specs.Layout.{state_of}
use Rattle.edge_layout.proofs.state_of.Goals as goal

pub returns-then-kind-eq1 : goal.returns-then-kind-eq1
unfolding state_of choose
returns-then-kind-eq1 c = search tests

pub returns-then-kind-eq2 : goal.returns-then-kind-eq2
unfolding state_of choose
returns-then-kind-eq2 c = search tests

pub returns-then-kind-eq3 : goal.returns-then-kind-eq3
unfolding state_of choose
returns-then-kind-eq3 c = search tests

pub returns-then-kind-eq4 : goal.returns-then-kind-eq4
unfolding state_of choose
returns-then-kind-eq4 c =
    rw (c.failed_by.ensures, c.result_of.ensures, ne_eqb _ 1 c.if-kind-eq1.false, ne_eqb _ 2 c.if-kind-eq2.false, ne_eqb _ 3 c.if-kind-eq3.false, eq-eqb _ 4 c.if-kind-eq4.true)

pub returns-then-kind-eq5 : goal.returns-then-kind-eq5
unfolding state_of choose
returns-then-kind-eq5 c = search tests

pub returns-then-kind-eq6 : goal.returns-then-kind-eq6
unfolding state_of choose
returns-then-kind-eq6 c = search tests

pub returns : goal.returns
unfolding state_of choose
returns c = search tests
