-- `script_fields_plain::is_one` meets its contract: by what `octet` says.
use Rattle.script_fields_plain.proofs.is_one.Goals as goal

pub returns : goal.returns
returns c = rw c.octet.ensures
