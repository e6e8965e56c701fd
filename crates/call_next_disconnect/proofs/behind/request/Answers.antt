-- `call_next_disconnect::behind::request` meets its contract: the slot and the request are those of the definition.
use Rattle.call_next_disconnect.proofs.behind.request.Goals as goal

pub returns : goal.returns
returns c =
    rw (
      c.asked-req.ensures,
      c.index_at-i.ensures,
      c.in_state-y.ensures,
      c.next_id-id.ensures,
      c.spent-u.ensures,
    ) at c.alter_and_tell.ensures
