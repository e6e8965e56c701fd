-- `call_accept::behind::agree` meets its contract: the slot and the response are those of the definition.
use mathlib.Core.List.{[]}
use native.Mathlib.Omega.{arith}
use Rattle.call_accept.proofs.behind.agree.Goals as goal

pub response-res-requires : goal.response-res-requires
response-res-requires c = omega (arith, c.requires.0.n-most, c.requires.1)

pub alter_and_tell-requires : goal.alter_and_tell-requires
alter_and_tell-requires c = c.requires.2

pub returns : goal.returns
returns c =
    rw (
      c.identifier_of-id.ensures,
      c.response-res.ensures,
      c.accepted-y.ensures,
      c.new-account.ensures,
      c.credits_of-credits.ensures,
      c.mtu_of-mtu.ensures,
      c.mps_of-mps.ensures,
    ) at (c.alter_and_tell.ensures c.args.t [] [])
