-- `call_dispatch::behind::admitted` meets its contract: a CID that names no slot (frame_astray), and the work on the slot that it names, put into the table
-- (frame-admitted).
use mathlib.Core.Path.{◌≡◌, sym, ap, ◌∙◌}
use mathlib.Core.Bool.{true}
use mathlib.Core.List.{[]}
use Prim.Native.Nat.{ℕ}
use native.Mathlib.Omega.{arith}
use Rattle.sar_join.specs.Joining.{job_octets}
use Rattle.channel.specs.declared.ChannelIndex.{ChannelIndex}
use Rattle.channel.specs.declared.Slot.{Slot}
use Rattle.channel.specs.declared.Table.{Table}
use Rattle.definition.specs.Table.{slot_at, slot_of, is_cid, place_of}
use Rattle.definition.proofs.Ending.{written_none}
use Rattle.definition.proofs.Tells.{cid_within}
use Rattle.table_gate.specs.Fits.{have-fits}
use Rattle.table_room.specs.Placed.{placed}
use Rattle.slot_work.specs.Work.{works_in}
use Rattle.slot_frame.specs.FrameIn.{frame_of}
use Rattle.slot_frame.specs.Admitted.{frame-quiet, frame-admitted, frame_astray}
use Rattle.call_dispatch.proofs.behind.admitted.Goals as goal

-- slot x, number s, is the one that the CID names
record Reached (t : Table) (cid s : ℕ) (x : Slot) : Type 0 where
  named : is_cid t cid ≡ true
  number : s ≡ slot_of cid
  slot : x ≡ slot_at t (slot_of cid)

pub returns-then-not-is_cid : goal.returns-then-not-is_cid
returns-then-not-is_cid c =
    let g = c.args in
    rw c.refused.ensures (frame_astray g.t g.link g.cid.0 g.payload.now g.room.now (sym c.is_cid.ensures ∙ c.if-not-is_cid.true))

pub slot_of-requires : goal.slot_of-requires
slot_of-requires c =
    let h = cid_within c.args.t c.args.cid.0 (sym c.is_cid.ensures ∙ c.if-not-is_cid.false) in
    omega (arith, c.requires.0.sizes.n-most)

pub frame_at-w-requires : goal.frame_at-w-requires
frame_at-w-requires c =
    let g = c.args in
    let n = c.number-s.ensures ∙ ap (λ (i : ChannelIndex). i.0) c.slot_of.ensures in
    let x : Reached c.args.t c.args.cid.0 c.number-s.result c.slot_at-x.result = record {
      named = sym c.is_cid.ensures ∙ c.if-not-is_cid.false;
      number = n;
      slot = c.slot_at-x.ensures ∙ ap (slot_at c.args.t) n;
    } in
    let h = cid_within g.t g.cid.0 x.named in
    rw (x.number, x.slot) (placed c.requires.0 (slot_of g.cid.0) h, have-fits g.t (slot_of g.cid.0) c.requires.1 h)

pub returns : goal.returns
returns c =
    let g = c.args in
    let n = c.number-s.ensures ∙ ap (λ (i : ChannelIndex). i.0) c.slot_of.ensures in
    let x : Reached c.args.t c.args.cid.0 c.number-s.result c.slot_at-x.result = record {
      named = sym c.is_cid.ensures ∙ c.if-not-is_cid.false;
      number = n;
      slot = c.slot_at-x.ensures ∙ ap (slot_at c.args.t) n;
    } in
    let f = rw (x.slot, x.number) at c.frame_at-w.ensures in
    let s = slot_of g.cid.0 in
    let y = slot_at g.t s in
    let js = job_octets y.assembly g.payload.now in
    works_in g.t s (frame_of g.t.d (place_of g.t) y g.link g.payload.now) js g.room.now [] [] (rw x.number at c.changed.ensures) f.0 f.1 (rw (frame-quiet g.t.d (place_of g.t) y g.link g.payload.now) (sym (written_none js g.room.now [])))
    ∙ frame-admitted g.t g.link g.cid.0 g.payload.now g.room.now x.named
