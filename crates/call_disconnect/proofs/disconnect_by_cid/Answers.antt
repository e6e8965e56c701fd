-- `call_disconnect::disconnect_by_cid` meets its contract: behind the gate code and definition make the same tests in the same order.
use mathlib.Core.Path.{sym, ap, ◌∙◌}
use Rattle.table_room.specs.Placed.{room_of}
use Rattle.lists.specs.Choose.{choose}
use Rattle.definition.specs.Closing.{disconnect_by_cid}
use native.Mathlib.Omega.{arith}
use Rattle.table_gate.specs.Behind.{behind, on, stopped, ended}
use Rattle.channel.specs.declared.ChannelIndex.{ChannelIndex}
use Rattle.definition.proofs.Tells.{cid_within}
use Rattle.call_disconnect.proofs.disconnect_by_cid.Goals as goal

pub slot_of-requires : goal.slot_of-requires
slot_of-requires c =
    let p = behind c.gate.ensures c.in-Ok.is in
    let g = c.args in
    let h = cid_within g.t g.cid.0 (sym c.is_cid.ensures ∙ c.if-is_cid.true) in
    omega (arith, h, p.sizes.n-most)

pub disconnecting-requires : goal.disconnecting-requires
disconnecting-requires c =
    let p = behind c.gate.ensures c.in-Ok.is in
    let g = c.args in
    let h = cid_within g.t g.cid.0 (sym c.is_cid.ensures ∙ c.if-is_cid.true) in
    (room_of p, rw (c.number-s.ensures ∙ ap (λ (i : ChannelIndex). i.0) c.slot_of.ensures) h)

pub returns-then-is_cid : goal.returns-then-is_cid
unfolding choose disconnect_by_cid
returns-then-is_cid c =
    rw (
      on c.gate.ensures c.in-Ok.is,
      ← c.is_cid.ensures,
      c.if-is_cid.true,
      ← (c.number-s.ensures ∙ ap (λ (i : ChannelIndex). i.0) c.slot_of.ensures),
    ) c.disconnecting.ensures

pub returns-in-Err : goal.returns-in-Err
unfolding disconnect_by_cid
returns-in-Err c =
    rw (stopped c.gate.ensures c.in-Err.is) (ended c.refused.ensures _ _)

pub returns-else-is_cid : goal.returns-else-is_cid
unfolding choose disconnect_by_cid
returns-else-is_cid c =
    rw (
      on c.gate.ensures c.in-Ok.is,
      ← c.is_cid.ensures,
      c.if-is_cid.false,
    ) (ended c.done.ensures _ _)
