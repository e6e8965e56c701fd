use native.Mathlib.Omega.{arith}
use lib.ListN.{length-replicate, get_or-replicate}
use Rattle.lists.specs.Sets.{writing_more, writing_end}
use Rattle.octets.proofs.zero.Goals as goal

pub loop-i-preserved : goal.loop-i-preserved
loop-i-preserved c = writing_more c.loop-i.invariant 0 _ (get_or-replicate c.args.n c.loop-i.i 0 0 (omega arith)) (rw length-replicate (omega arith))

pub returns : goal.returns
returns c = writing_end c.loop-i.invariant (rw length-replicate (omega arith))
