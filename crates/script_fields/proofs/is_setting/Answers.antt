-- `script_fields::is_setting` meets its contract: by what the two calls say.
use Rattle.script_fields.proofs.is_setting.Goals as goal

pub returns : goal.returns
returns c = rw (c.is_one.ensures, c.is_number.ensures)
