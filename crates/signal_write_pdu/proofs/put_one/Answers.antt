-- `signal_write_pdu::put_one` meets its contract: the runs of stores follow one another.
use Rattle.signal_write_pdu.proofs.put_one.Goals as goal

pub returns : goal.returns
returns c =
    rw (c.put_number.ensures, c.put_head.ensures)
