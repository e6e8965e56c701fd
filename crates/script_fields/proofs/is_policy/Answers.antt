-- `script_fields::is_policy` meets its contract: test by test.
use Rattle.lists.specs.Choose.{choose}
use Rattle.script_fields.specs.Fields.{is_policy}
use Rattle.script_fields.proofs.is_policy.Goals as goal

pub returns-then-is_one : goal.returns-then-is_one
unfolding is_policy choose
returns-then-is_one c = rw (← c.is_one.ensures, c.if-is_one.true)

pub returns : goal.returns
unfolding is_policy choose
returns c = rw (← c.is_one.ensures, c.if-is_one.false, c.is_number.ensures, c.behind_first.ensures, c.octet-c.ensures)
