-- `table_spsms::is_registered` meets its contract: the definition's tests in its order.
use borrow.Author.Tests.{le-leb}
use Rattle.lists.proofs.Rules.{tests}
use Rattle.table_spsms.proofs.is_registered.Goals as goal

pub returns-then-spsm-lt1 : goal.returns-then-spsm-lt1
returns-then-spsm-lt1 c = search tests

pub returns-then-spsm-gt-SPSM_MOST : goal.returns-then-spsm-gt-SPSM_MOST
returns-then-spsm-gt-SPSM_MOST c = search tests

pub returns : goal.returns
returns c =
    rw (c.is_set.ensures, le-leb _ _ c.if-spsm-lt1.false, le-leb _ _ c.if-spsm-gt-SPSM_MOST.false)
