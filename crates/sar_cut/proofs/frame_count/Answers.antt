-- `sar_cut::frame_count` meets its contract: none by 0, one where one frame holds the stream (laws of the count), and else the definition's quotient.
use mathlib.Core.Path.{sym}
use native.Mathlib.Omega.{arith}
use Rattle.sar_cut.specs.Cutting.{frame_count, ceil}
use Rattle.sar_cut.proofs.CutLaws.{count_none, count-one}
use Rattle.sar_cut.proofs.frame_count.Goals as goal

pub returns-then-mps-eq0 : goal.returns-then-mps-eq0
returns-then-mps-eq0 c = rw c.if-mps-eq0.true (sym (count_none c.args.l))

pub returns-then-l-mps : goal.returns-then-l-mps
returns-then-l-mps c = let x = c.args in sym (count-one x.l x.mps (omega arith))

pub returns : goal.returns
unfolding frame_count ceil
returns c = c.quotient.ensures
