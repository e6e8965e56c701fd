-- `signal_write_head::put_head` meets its contract: the runs of stores follow one another.
use Rattle.signal_write_head.proofs.put_head.Goals as goal

pub returns : goal.returns
returns c =
    rw (c.put_number-3.ensures, c.put-2.ensures, c.put.ensures, c.put_number-2.ensures, c.put_number.ensures)
