-- One portion of an open job, in its numbers and the octets of its buffer: what stands in the buffer is the frame that is being filled, and a full
-- frame is the job's next. Rests on the frames of a job (crate sar_cut) and on the laws of `sets` and `part`.
use Rattle.std.specs.Prelude.{◌≡◌, List, ◌++◌, ℕ, ◌+◌, ◌*◌, ◌≤◌, ◌<◌}
use Rattle.std.proofs.Math.ListN.{length, take}
use Rattle.octets.specs.Octets.{part}
use Rattle.sar_cut.specs.Cutting.{frame_count, stream}
use Rattle.channel.specs.Limits.{frame_head}
use Rattle.channel.specs.declared.OpenJob.{OpenJob}
use Rattle.definition.specs.Slots.{no_job}
use Rattle.definition.specs.Frames.{header}
use Rattle.definition.specs.Portions.{longest, frame_size}

-- ---- what an open job's numbers and buffer say, where k of its frames are given out

pub record Filling (cid mps : ℕ) (sdu : List ℕ) (k : ℕ) (j : OpenJob) (b : List ℕ) : Type 0 where
  pub stated : j.length ≡ length sdu
  pub place : j.taken + 2 ≡ k * mps + j.filled
  pub within : j.taken ≤ length sdu
  pub paid : j.aside + k ≡ frame_count (length sdu) mps
  pub credit : 0 < j.aside
  pub fits : j.filled ≤ frame_size mps j
  pub lacks : 0 < length sdu → j.filled < frame_size mps j
  pub size : frame_head + longest mps (length sdu) ≤ length b
  pub stands : 0 < j.filled → take (frame_head + j.filled) b ≡ header cid (frame_size mps j) ++ part (stream sdu) (k * mps) j.filled

-- or the job is closed: all its frames are given out
pub data Standing (cid mps : ℕ) (sdu : List ℕ) (k : ℕ) (j : OpenJob) (b : List ℕ) : Type 0 where
  filling : Filling cid mps sdu k j b → Standing cid mps sdu k j b
  closed : j ≡ no_job → k ≡ frame_count (length sdu) mps → Standing cid mps sdu k j b
