-- `call_create::behind::start` meets its contract: the slot and the request are those of the definition.
use mathlib.Core.List.{[]}
use native.Mathlib.Omega.{arith}
use Rattle.call_create.proofs.behind.start.Goals as goal

pub request-req-requires : goal.request-req-requires
request-req-requires c = omega (arith, c.requires.0.n-most, c.requires.1)

pub index_at-i-requires : goal.index_at-i-requires
index_at-i-requires c = omega (arith, c.requires.0.n-most, c.requires.1)

pub alter_and_tell-requires : goal.alter_and_tell-requires
alter_and_tell-requires c = c.requires.2

pub returns : goal.returns
returns c =
    rw (
      c.index_at-i.ensures,
      c.request-req.ensures,
      c.attempted-y.ensures,
      c.new-account.ensures,
      c.credits_of-credits.ensures,
      c.mtu_of-mtu.ensures,
      c.mps_of-mps.ensures,
      c.next_id-id.ensures,
      c.spent-u.ensures,
    ) at (c.alter_and_tell.ensures c.args.t [] [])
