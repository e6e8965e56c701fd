-- `edge_receive::taking::id_then` meets its contract: the identifier as it stands where nothing was written, and else the one after that which was used.
use borrow.Author.Tests.{eq-eqb, ne_eqb}
use Rattle.lists.specs.Choose.{choose}
use Rattle.edge_receive.proofs.taking.id_then.Goals as goal

pub returns-then-octets-eq0 : goal.returns-then-octets-eq0
unfolding choose
returns-then-octets-eq0 c = rw (eq-eqb _ _ c.if-octets-eq0.true)

pub returns : goal.returns
unfolding choose
returns c = rw (ne_eqb _ _ c.if-octets-eq0.false, c.id_after.ensures, c.given_id.ensures)
