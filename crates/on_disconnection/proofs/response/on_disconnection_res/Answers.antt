-- `on_disconnection::on_disconnection_res` meets its contract: the CID names a slot (cid_within), and code and definition make the same tests.
use mathlib.Core.Path.{sym, ap, ◌∙◌}
use mathlib.Core.List.{[]}
use native.Mathlib.Omega.{arith}
use Rattle.lists.specs.Choose.{choose}
use Rattle.channel.specs.declared.ChannelIndex.{ChannelIndex}
use Rattle.definition.specs.Mem.{sizes}
use Rattle.definition.proofs.Ending.{end-still}
use Rattle.definition.specs.Signals.{on_disconnection_res}
use Rattle.definition.proofs.Tells.{cid_within}
use Rattle.on_disconnection.proofs.response.on_disconnection_res.Goals as goal

pub returns-then-not-is_cid : goal.returns-then-not-is_cid
unfolding choose sizes on_disconnection_res
returns-then-not-is_cid c =
    rw (c.in-Some.is, ← c.is_cid.ensures, c.if-not-is_cid.true-raw, c.done.ensures) (sym (end-still _ _ _ _ _ _ _))

pub slot_of-requires : goal.slot_of-requires
slot_of-requires c =
    let h = cid_within c.args.t c.in-Some.res.scid (sym c.is_cid.ensures ∙ c.if-not-is_cid.false) in
    omega (arith, h, c.requires.0.sizes.n-most)

pub returns-then-not-is_disconnecting-x : goal.returns-then-not-is_disconnecting-x
unfolding choose sizes on_disconnection_res
returns-then-not-is_disconnecting-x c =
    rw (
      c.in-Some.is,
      ← c.is_cid.ensures,
      c.if-not-is_cid.false-raw,
      ← (c.number-s.ensures ∙ ap (λ (i : ChannelIndex). i.0) c.slot_of.ensures),
      ← c.slot_at-x.ensures,
      ← c.is_disconnecting.ensures,
      c.if-not-is_disconnecting-x.true-raw,
      c.done-then-not-is_disconnecting-x.ensures,
    ) (sym (end-still _ _ _ _ _ _ _))

pub free-requires : goal.free-requires
free-requires c =
    let h = cid_within c.args.t c.in-Some.res.scid (sym c.is_cid.ensures ∙ c.if-not-is_cid.false) in
    (c.requires.0, rw (c.number-s.ensures ∙ ap (λ (i : ChannelIndex). i.0) c.slot_of.ensures) h)

pub returns-in-None : goal.returns-in-None
unfolding choose sizes on_disconnection_res
returns-in-None c =
    rw c.in-None.is (c.bad_body.ensures _ _ [])

pub returns-else-not-is_disconnecting-x : goal.returns-else-not-is_disconnecting-x
unfolding choose sizes on_disconnection_res
returns-else-not-is_disconnecting-x c =
    rw (
      c.in-Some.is,
      ← c.is_cid.ensures,
      c.if-not-is_cid.false-raw,
      ← (c.number-s.ensures ∙ ap (λ (i : ChannelIndex). i.0) c.slot_of.ensures),
      ← c.slot_at-x.ensures,
      ← c.is_disconnecting.ensures,
      c.if-not-is_disconnecting-x.false-raw,
    ) (c.free.ensures _ [])
