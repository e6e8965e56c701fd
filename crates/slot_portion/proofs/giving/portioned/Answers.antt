-- `slot_portion::portioned` meets its contract: its numbers are the definition's, and so are the octets that it writes (filled_octets).
use native.Mathlib.Omega.{arith}
use lib.ListN.{length}
use Rattle.slot_portion.specs.Giving.{portioned_of, filled_octets}
use Rattle.slot_portion.proofs.giving.portioned.Goals as goal

pub overflow_cast-taken : goal.overflow_cast-taken
overflow_cast-taken c = omega (arith, c.least-taken.ensures, c.left.ensures, c.frame_size-size.ensures, c.well_formed)

pub filled_to-requires : goal.filled_to-requires
filled_to-requires c = (omega (arith, c.least-taken.ensures, c.left.ensures, c.frame_size-size.ensures, c.well_formed), omega (arith, c.least-taken.ensures, c.left.ensures, c.frame_size-size.ensures, c.well_formed), c.requires)

pub returns : goal.returns
unfolding portioned_of
returns c =
    let g = c.args in
    let x = g.x in
    rw (filled_octets x.peer.cid x.peer.mps x.job (length g.portion.now) g.portion.now g.buffer.now, c.copy_to.ensures, c.put_header.ensures, c.with_job-y.ensures, c.filled_to.ensures, c.frame_out.ensures, c.least-taken.ensures, c.left.ensures, c.frame_size-size.ensures)
