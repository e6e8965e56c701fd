-- `entries::l2cap_signal_rest` meets its contract: the length of what `signal_headers::rest` gives.
use mathlib.Core.Path.{ap}
use lib.ListN.{length}
use Rattle.entries.proofs.l2cap_signal_rest.Goals as goal

pub returns : goal.returns
returns c = ap length c.rest.ensures
