-- `signal_headers::first::read_header` meets its contract: the test of the length tells which arm of the definition it is.
use borrow.Author.Tests.{lt-ltb, le-ltb}
use Rattle.lists.specs.Choose.{choose}
use Rattle.signal_headers.specs.FirstSignal.{header_of}
use Rattle.signal_headers.proofs.first.read_header.Goals as goal

pub returns-then-pdu-lt4 : goal.returns-then-pdu-lt4
unfolding header_of choose
returns-then-pdu-lt4 c = rw (lt-ltb _ _ c.if-pdu-lt4.true)

pub returns-else-pdu-lt4 : goal.returns-else-pdu-lt4
unfolding header_of choose
returns-else-pdu-lt4 c = rw (le-ltb _ _ c.if-pdu-lt4.false, c.number.ensures)
