-- `script_fields_plain::is_flag` meets its contract: by what the two calls say.
use Rattle.script_fields_plain.proofs.is_flag.Goals as goal

pub returns : goal.returns
returns c = rw (c.is_number.ensures, c.number_of.ensures)
