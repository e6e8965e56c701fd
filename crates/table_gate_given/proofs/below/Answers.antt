-- `table_gate_given::below` meets its contract: the match tells whether a number was given.
use Rattle.table_gate_given.proofs.below.Goals as goal

pub returns-in-Some : goal.returns-in-Some
returns-in-Some c = rw c.in-Some.is
