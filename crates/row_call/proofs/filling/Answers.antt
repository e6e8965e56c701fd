-- `row_call::filling` meets its contract: the frame is so much of the buffer's start.
use Rattle.row_call.specs.Printed.{filling_text}
use Rattle.row_call.proofs.filling.Goals as goal

pub returns : goal.returns
unfolding filling_text
returns c =
    rw (← c.standing-n.ensures, ← c.first.ensures) c.answered_more.ensures
