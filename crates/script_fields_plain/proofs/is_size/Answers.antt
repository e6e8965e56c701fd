-- `script_fields_plain::is_size` meets its contract: by what the two calls say.
use Rattle.script_fields_plain.specs.PlainFields.{is_size}
use Rattle.script_fields_plain.proofs.is_size.Goals as goal

pub returns : goal.returns
unfolding is_size
returns c = rw (c.is_number.ensures, c.number_of.ensures)
