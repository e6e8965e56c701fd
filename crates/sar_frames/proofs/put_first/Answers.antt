-- `sar_frames::put_first` meets its contract, by the law that the first frame is written by its three numbers and the job's first octets.
use lib.ListN.{length, take}
use lib.Seq.{length-take-le}
use Rattle.sar_frames.specs.FrameLaws.{first-sets}
use Rattle.sar_frames.proofs.put_first.Goals as goal

pub returns : goal.returns
returns c =
    rw (c.copy_to.ensures, c.put_number-3.ensures, c.put_number-2.ensures, c.put_number.ensures)
    (rw (length-take-le c.args.n c.args.sdu.now c.requires.0) at (first-sets c.args.out.now c.args.cid (length c.args.sdu.now) (take c.args.n c.args.sdu.now)))
