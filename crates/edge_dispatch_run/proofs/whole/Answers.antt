-- `edge_dispatch_run::whole` meets its contract: a frame needs its six octets, and behind them its payload's.
use mathlib.Core.Path.{sym}
use Prim.Native.Nat.{◌+◌}
use native.Mathlib.Omega.{arith}
use lib.ListN.{length}
use borrow.Author.Tests.{lt-leb}
use Rattle.edge_dispatch_run.specs.Frames.{frame_size}
use Rattle.edge_dispatch_run.specs.Turn.{behind_head}
use Rattle.edge_dispatch_run.proofs.whole.Goals as goal

pub returns-then-left-lt-HEAD : goal.returns-then-left-lt-HEAD
returns-then-left-lt-HEAD c =
    let g = c.args in
    sym (lt-leb (g.at + frame_size g.frames.now g.at) (length g.frames.now) (omega arith))

pub returns : goal.returns
returns c =
    let g = c.args in
    rw c.number-n.ensures (behind_head g.at _ (length g.frames.now) (omega arith))
