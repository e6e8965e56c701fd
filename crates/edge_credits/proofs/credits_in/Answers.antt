-- `edge_credits::credits_in` meets its contract: the code is asked first, then every header, then the body is read.
use borrow.Author.Tests.{eq-eqb, ne_eqb}
use Rattle.lists.specs.Choose.{choose}
use Rattle.edge_credits.specs.CreditsIn.{credits_in}
use Rattle.edge_credits.proofs.credits_in.Goals as goal

pub returns-then-octet-ne-CREDITS : goal.returns-then-octet-ne-CREDITS
unfolding credits_in choose
returns-then-octet-ne-CREDITS c = rw (← c.octet.ensures, ne_eqb _ _ c.if-octet-ne-CREDITS.true)

pub returns-in-Ok : goal.returns-in-Ok
unfolding credits_in choose
returns-in-Ok c =
    rw (← c.octet.ensures, eq-eqb _ _ c.if-octet-ne-CREDITS.false, ← c.check_headers.ensures, c.in-Ok.is, ← c.body.ensures) c.read_le_credit_flow_ind.ensures

pub returns-in-Err : goal.returns-in-Err
unfolding credits_in choose
returns-in-Err c =
    rw (← c.octet.ensures, eq-eqb _ _ c.if-octet-ne-CREDITS.false, ← c.check_headers.ensures, c.in-Err.is)
