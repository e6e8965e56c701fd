-- `edge_dispatch::incoming::put_row` meets its contract: the parts, one after the other, then what is counted of frames, or the open job and all tallies where the channel is left.
use Rattle.lists.specs.Choose.{choose}
use Rattle.edge_dispatch.proofs.incoming.put_row.Goals as goal

pub returns-then-is_connected : goal.returns-then-is_connected
unfolding choose
returns-then-is_connected c =
    rw (← c.is_connected.ensures, c.if-is_connected.true, c.put_receives.ensures, c.put_queue.ensures, c.put_assembly.ensures, c.put_account.ensures, c.put_state.ensures)

pub returns : goal.returns
unfolding choose
returns c =
    rw (← c.is_connected.ensures, c.if-is_connected.false, c.put_tallies.ensures, c.put_job.ensures, c.put_queue.ensures, c.put_assembly.ensures, c.put_account.ensures, c.put_state.ensures)
