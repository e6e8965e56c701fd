-- `call_next_disconnect::behind::respond` meets its contract: the response is that of the definition.
use mathlib.Core.List.{[]}
use Rattle.call_next_disconnect.proofs.behind.respond.Goals as goal

pub returns : goal.returns
returns c =
    rw (
      c.response-res.ensures,
      c.index_at-i.ensures,
      c.identifier_of-id.ensures,
    ) at (c.free_and_tell.ensures [])
