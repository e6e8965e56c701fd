-- `script_fields_plain::is_role` meets its contract: by what the two calls say.
use Rattle.script_fields_plain.proofs.is_role.Goals as goal

pub returns : goal.returns
returns c = rw (c.is_one.ensures, c.is_one-2.ensures)
