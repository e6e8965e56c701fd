-- `edge_layout_decode::spsms_in` meets its contract: what is copied is as long as the array.
use mathlib.Core.Path.{sym}
use native.Mathlib.Omega.{arith}
use lib.ListN.{replicate}
use Rattle.octets.specs.Octets.{part}
use Rattle.octets.specs.Sets.{part_length}
use Rattle.edge_layout.specs.Layout.{taken}
use Rattle.lists.specs.Sets.{sets-whole}
use Rattle.edge_layout_decode.proofs.spsms_in.Goals as goal

pub returns : goal.returns
unfolding taken
returns c =
    let o = c.args.t.now in
    rw c.copy_to.ensures (sets-whole (replicate 32 0) (part o 16 32) (sym (part_length o 16 32 (omega arith))))
