-- `sar_frames::put_frame` meets its contract, by the law that a frame is written by its two numbers and its payload.
use lib.Seq.{take-length}
use Rattle.sar_frames.specs.FrameLaws.{frame-sets}
use Rattle.sar_frames.proofs.put_frame.Goals as goal

pub returns : goal.returns
returns c =
    let a = c.args in
    rw (c.copy_to.ensures, c.put_number-2.ensures, c.put_number.ensures, take-length) (frame-sets a.out.now a.at a.cid a.payload.now)
