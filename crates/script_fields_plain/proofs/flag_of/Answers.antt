-- `script_fields_plain::flag_of` meets its contract: by what `number_of` says.
use Rattle.script_fields_plain.proofs.flag_of.Goals as goal

pub returns : goal.returns
returns c = rw c.number_of.ensures
