-- `table_endings::reply::reply` meets its contract: behind a buffer of 18 octets `signal_write` never answers None, and what it wrote is the reply.
use Rattle.table_endings.specs.Reply.{replied, refused}
use Rattle.table_endings.proofs.reply.reply.Goals as goal

pub returns-in-None : goal.returns-in-None
returns-in-None c =
    absurd (refused c.requires c.write_signal.ensures c.in-None.is)

pub returns-in-Some : goal.returns-in-Some
returns-in-Some c =
    replied c.requires c.write_signal.ensures c.in-Some.is
