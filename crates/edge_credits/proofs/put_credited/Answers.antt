-- `edge_credits::put_credited` meets its contract: each arm writes the columns of its case.
use Rattle.lists.specs.Choose.{choose}
use Rattle.edge_credits.proofs.put_credited.Goals as goal

pub returns-then-is_connected : goal.returns-then-is_connected
unfolding choose
returns-then-is_connected c = rw (← c.is_connected.ensures, c.if-is_connected.true) c.put_peer_credits.ensures

pub returns-else-is_connected : goal.returns-else-is_connected
unfolding choose
returns-else-is_connected c = rw (← c.is_connected.ensures, c.if-is_connected.false) c.put_left.ensures
