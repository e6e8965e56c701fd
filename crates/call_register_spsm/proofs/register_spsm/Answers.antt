-- `call_register_spsm::register_spsm` meets its contract: behind the gate code and definition make the same tests in the same order.
use Rattle.lists.specs.Choose.{choose}
use Rattle.definition.specs.Mem.{sizes}
use Rattle.definition.specs.Asking.{register_spsm}
use lib.Dec.{leb}
use Rattle.table_gate.specs.Behind.{on, stopped}
use borrow.Author.Tests.{leb-true}
use Rattle.channel.specs.Limits.{spsm_most}
use Rattle.lists.specs.Both.{both}
use Rattle.call_register_spsm.proofs.register_spsm.Goals as goal

pub returns-then-not-n : goal.returns-then-not-n
unfolding choose register_spsm
returns-then-not-n c =
    rw (
      on c.gate.ensures c.in-Ok.is,
      c.if-not-n.true-raw,
    ) c.refused-then-not-n.ensures

pub registered-requires : goal.registered-requires
registered-requires c =
    let n = c.args.n in
    let (low, high) = both (leb 1 n) (leb n spsm_most) (c.if-not-n.false) in
    (leb-true 1 n low, leb-true n spsm_most high)

pub returns-in-Err : goal.returns-in-Err
unfolding register_spsm
returns-in-Err c =
    rw (stopped c.gate.ensures c.in-Err.is) c.refused.ensures

pub returns-else-not-n : goal.returns-else-not-n
unfolding choose sizes register_spsm
returns-else-not-n c =
    rw (
      on c.gate.ensures c.in-Ok.is,
      c.if-not-n.false-raw,
      c.still.ensures,
      c.registered.ensures,
    )
