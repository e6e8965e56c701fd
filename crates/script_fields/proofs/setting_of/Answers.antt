-- `script_fields::setting_of` meets its contract: test by test.
use Rattle.lists.specs.Choose.{choose}
use Rattle.script_fields.specs.Fields.{setting_of}
use Rattle.script_fields.proofs.setting_of.Goals as goal

pub returns-then-is_one : goal.returns-then-is_one
unfolding setting_of choose
returns-then-is_one c = rw (← c.is_one.ensures, c.if-is_one.true)

pub returns : goal.returns
unfolding setting_of choose
returns c = rw (← c.is_one.ensures, c.if-is_one.false, c.number_of.ensures)
