-- FEWEST FRAMES: the theorem. What it says is on the page Fewest.antt; the laws that carry it, over any octets cut every MPS, are in Laws.antt.
use Rattle.std.specs.Prelude.{List, ℕ, ◌<◌, length}
use Rattle.std.proofs.Common.{arith}
use Rattle.sar_cut.specs.Cutting.{stream, payloads}
use Rattle.sar_cut.proofs.CutLaws.{payloads-within}
use Rattle.sar_frames.specs.Theorems.{cut}
use Rattle.sar_fewest.specs.Fewest.{Fewest}
use Rattle.sar_fewest.proofs.Laws.{no_fewer, pieces-full, only-pieces}

-- FEWEST FRAMES
pub fewest : (mps : ℕ) (sdu : List ℕ) → 0 < mps → Fewest mps sdu
unfolding payloads
fewest mps sdu p =
    record {
      ours = record { within = payloads-within mps _ sdu (omega arith); whole = (cut mps 0 sdu (omega arith)).whole };
      fewest = λ ps c. rw c.whole at (no_fewer mps ps (omega arith) c.within);
      full = pieces-full mps (length (stream sdu)) (stream sdu) (omega arith) (omega arith);
      only = λ ps c n f. rw c.whole at (only-pieces mps ps (omega arith) c.within f (rw c.whole (omega arith)));
    }
