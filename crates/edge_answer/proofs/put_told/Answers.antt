-- `edge_answer::put_told` meets its contract: the stores, one after the other, are those of `sets`.
use Rattle.edge_answer.proofs.put_told.Goals as goal

pub returns : goal.returns
returns c =
    rw (
      c.put_number-7.ensures,
      c.put_number-6.ensures,
      c.put_number-5.ensures,
      c.put_number-4.ensures,
      c.put_number-3.ensures,
      c.put_number-2.ensures,
      c.put_number.ensures,
      c.put-2.ensures,
      c.put.ensures,
      c.least-k.ensures,
    )
