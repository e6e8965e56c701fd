-- `sar_frames::cut_job` meets its contract. The invariant: with the frames of what is left written too, the output is what it is to be.
use Rattle.std.proofs.Common.{◌≡◌, ◌+◌, ◌*◌, ◌≤◌, length}
use Rattle.std.specs.Slice.Iter.{chunks_rest, chunks_size}
use Rattle.sar_frames.specs.FrameLaws.{Framing}
use Rattle.sar_frames.proofs.cut_job.Given as goal

abbrev pub invariant-loop-payload : goal.invariant-loop-payload
invariant-loop-payload l =
    goal.iterator-loop-payload.can_next l.payload-iterator
    × goal.iterator-loop-payload.is_finite l.payload-iterator
    × (chunks_size l.payload-iterator ≡ l.m)
    × (l.at + 5 * length (chunks_rest l.payload-iterator) ≤ 5 * length l.sdu + 6)
    × Framing l.m l.cid l.sdu l.fn.out (chunks_rest l.payload-iterator) l.at l.out
