-- `row_call::taken` meets its contract: a job's pieces follow one another (writes-append), and every other answer has the plain row.
use Rattle.text_write.specs.Rows.{writes-append}
use borrow.Author.Tests.{eq-eqb, ne_eqb}
use Rattle.lists.specs.Choose.{choose}
use Rattle.channel_answer.specs.Kinds as Kind
use Rattle.row_call.specs.Printed.{taken_text}
use Rattle.row_call.proofs.taken.Goals as goal

pub returns-then-x-eq-JOB : goal.returns-then-x-eq-JOB
unfolding taken_text choose
returns-then-x-eq-JOB c =
    rw (← c.tells-x.ensures, eq-eqb _ Kind.job c.if-x-eq-JOB.true, ← c.first.ensures)
    (writes-append (writes-append (writes-append c.write_answer-n.ensures c.write_character-space.ensures) c.write_hex-m.ensures) c.write_character.ensures)

pub returns-else-x-eq-JOB : goal.returns-else-x-eq-JOB
unfolding taken_text choose
returns-else-x-eq-JOB c = rw (← c.tells-x.ensures, ne_eqb _ Kind.job c.if-x-eq-JOB.false) c.told.ensures
