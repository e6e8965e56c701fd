-- `table_spsms::is_set` meets its contract: an octet shifted by k is the definition's quotient by 2 ^ k.
use mathlib.Core.Path.{refl}
use Rattle.table_spsms.proofs.is_set.Goals as goal

pub returns : goal.returns
returns c = refl
