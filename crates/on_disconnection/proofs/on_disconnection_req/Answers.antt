-- `on_disconnection::on_disconnection_req` meets its contract: the CID names a slot (cid_within), and code and definition make the same tests.
use mathlib.Core.Path.{sym, ap, ◌∙◌}
use mathlib.Core.List.{[]}
use native.Mathlib.Omega.{arith}
use Rattle.lists.specs.Choose.{choose}
use Rattle.channel.specs.declared.ChannelIndex.{ChannelIndex}
use Rattle.definition.specs.Mem.{sizes}
use Rattle.definition.specs.Signals.{on_disconnection_req}
use Rattle.definition.proofs.Tells.{cid_within}
use Rattle.on_disconnection.proofs.on_disconnection_req.Goals as goal

pub returns-then-not-is_cid : goal.returns-then-not-is_cid
unfolding choose sizes on_disconnection_req
returns-then-not-is_cid c =
    rw (c.in-Some.is, ← c.is_cid.ensures, c.if-not-is_cid.true-raw) (c.reject.ensures _ _ [])

pub slot_of-requires : goal.slot_of-requires
slot_of-requires c =
    let h = cid_within c.args.t c.in-Some.req.dcid (sym c.is_cid.ensures ∙ c.if-not-is_cid.false) in
    omega (arith, h, c.requires.0.sizes.n-most)

pub returns-then-not-of_link : goal.returns-then-not-of_link
unfolding choose sizes on_disconnection_req
returns-then-not-of_link c =
    rw (
      c.in-Some.is,
      ← c.is_cid.ensures,
      c.if-not-is_cid.false-raw,
      ← (c.number-s.ensures ∙ ap (λ (i : ChannelIndex). i.0) c.slot_of.ensures),
      ← c.slot_at-x.ensures,
      ← c.of_link.ensures,
      c.if-not-of_link.true-raw,
    ) (c.reject-then-not-of_link.ensures _ _ [])

pub leave-requires : goal.leave-requires
leave-requires c =
    let h = cid_within c.args.t c.in-Some.req.dcid (sym c.is_cid.ensures ∙ c.if-not-is_cid.false) in
    (c.requires.0, rw (c.number-s.ensures ∙ ap (λ (i : ChannelIndex). i.0) c.slot_of.ensures) h)

pub returns-in-None : goal.returns-in-None
unfolding choose sizes on_disconnection_req
returns-in-None c =
    rw c.in-None.is (c.bad_body.ensures _ _ [])

pub returns-else-not-of_link : goal.returns-else-not-of_link
unfolding choose sizes on_disconnection_req
returns-else-not-of_link c =
    rw (
      c.in-Some.is,
      ← c.is_cid.ensures,
      c.if-not-is_cid.false-raw,
      ← (c.number-s.ensures ∙ ap (λ (i : ChannelIndex). i.0) c.slot_of.ensures),
      ← c.slot_at-x.ensures,
      ← c.of_link.ensures,
      c.if-not-of_link.false-raw,
    ) (c.leave.ensures _ [])
