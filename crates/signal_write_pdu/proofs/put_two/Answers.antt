-- `signal_write_pdu::put_two` meets its contract: the runs of stores follow one another.
use Rattle.signal_write_pdu.proofs.put_two.Goals as goal

pub returns : goal.returns
returns c =
    rw (c.put_number-2.ensures, c.put_number.ensures, c.put_head.ensures)
