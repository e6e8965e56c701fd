-- `script_fields::policy_of` meets its contract: test by test.
use Rattle.lists.specs.Choose.{choose}
use borrow.Author.Tests.{eq-eqb, ne_eqb}
use Rattle.script_fields.specs.Fields.{policy_of}
use Rattle.script_fields.proofs.policy_of.Goals as goal

pub returns-then-is_one : goal.returns-then-is_one
unfolding policy_of choose
returns-then-is_one c = rw (← c.is_one.ensures, c.if-is_one.true)

pub returns-then-octet-eq101 : goal.returns-then-octet-eq101
unfolding policy_of choose
returns-then-octet-eq101 c = rw (← c.is_one.ensures, c.if-is_one.false, c.number_of-n.ensures, c.behind_first.ensures, ← c.octet.ensures, eq-eqb _ 101 c.if-octet-eq101.true)

pub returns : goal.returns
unfolding policy_of choose
returns c = rw (← c.is_one.ensures, c.if-is_one.false, c.number_of-n.ensures, c.behind_first.ensures, ← c.octet.ensures, ne_eqb _ 101 c.if-octet-eq101.false)
