-- `edge_dispatch::incoming::admitted` meets its contract: the first refusals told from line 0, and else the work on one slot, put into its row (frame_placed).
use Rattle.std.specs.Prelude.{None, Some}
use mathlib.Core.Path.{◌≡◌, sym, ap, ◌∙◌}
use mathlib.Core.Bool.{true, false}
use native.Mathlib.Omega.{arith}
use lib.Dec.{eqb}
use lib.ListN.{length, get_or}
use Rattle.octets.specs.Octets.{u16_at}
use Rattle.codes.specs.declared.Refusal.TheVariants.{BadRoom, BadHandle}
use Rattle.channel.specs.declared.ChannelIndex.{ChannelIndex}
use Rattle.definition.specs.Table.{room_width, is_cid}
use Rattle.edge_layout.specs.Layout.{read}
use Rattle.edge_row.proofs.Gate.{valid_long, refused_2}
use Rattle.edge_placed.specs.Incoming.{refused_4, frame_stopped, cid_told, refused_7, row_low, part_placed, have_placed, frame_placed}
use Rattle.edge_dispatch.proofs.incoming.admitted.Goals as goal

pub returns-then-not-room_fits : goal.returns-then-not-room_fits
returns-then-not-room_fits c =
    let g = c.args in
    let o = g.table.now in
    let e : eqb (length g.room.now) (room_width (get_or o 1 0) (get_or o 2 0) (u16_at o 3)) ≡ false = sym c.room_fits.ensures ∙ c.if-not-room_fits.true in
    let told = c.put_answer.ensures in
    rw (told.value, told.out_after) (frame_stopped o g.answer.now g.room.now g.payload.now g.link g.cid BadRoom (refused_2 o c.requires (length g.room.now) None (Some g.link) None e))

pub returns-then-beyond : goal.returns-then-beyond
returns-then-beyond c =
    let g = c.args in
    let o = g.table.now in
    let e : eqb (length g.room.now) (room_width (get_or o 1 0) (get_or o 2 0) (u16_at o 3)) ≡ true = sym c.room_fits.ensures ∙ c.if-not-room_fits.false in
    let told = c.put_answer-then-beyond.ensures in
    rw (told.value, told.out_after) (frame_stopped o g.answer.now g.room.now g.payload.now g.link g.cid BadHandle (refused_4 o c.requires (length g.room.now) g.link e c.if-beyond.true-raw))

pub returns-then-not-names_slot : goal.returns-then-not-names_slot
returns-then-not-names_slot c =
    let g = c.args in
    let o = g.table.now in
    let e : eqb (length g.room.now) (room_width (get_or o 1 0) (get_or o 2 0) (u16_at o 3)) ≡ true = sym c.room_fits.ensures ∙ c.if-not-room_fits.false in
    let n : is_cid (read o).table g.cid ≡ false = sym (cid_told o c.requires g.cid c.octet-n.ensures c.names_slot.ensures) ∙ c.if-not-names_slot.true in
    let told = c.put_answer-then-not-names_slot.ensures in
    rw (told.value, told.out_after) (refused_7 o g.answer.now g.room.now g.payload.now g.link g.cid c.requires e c.if-beyond.false-raw n)

pub slot_of-requires : goal.slot_of-requires
slot_of-requires c =
    let g = c.args in
    let o = g.table.now in
    let e : eqb (length g.room.now) (room_width (get_or o 1 0) (get_or o 2 0) (u16_at o 3)) ≡ true = sym c.room_fits.ensures ∙ c.if-not-room_fits.false in
    let n : is_cid (read o).table g.cid ≡ true = sym (cid_told o c.requires g.cid c.octet-n.ensures c.names_slot.ensures) ∙ c.if-not-names_slot.false in
    omega (arith, row_low o g.answer.now g.room.now g.payload.now g.link g.cid c.requires e c.if-beyond.false-raw n)

pub to_slot-requires : goal.to_slot-requires
to_slot-requires c =
    let g = c.args in
    let o = g.table.now in
    let e : eqb (length g.room.now) (room_width (get_or o 1 0) (get_or o 2 0) (u16_at o 3)) ≡ true = sym c.room_fits.ensures ∙ c.if-not-room_fits.false in
    let n : is_cid (read o).table g.cid ≡ true = sym (cid_told o c.requires g.cid c.octet-n.ensures c.names_slot.ensures) ∙ c.if-not-names_slot.false in
    let s = c.number-s.ensures ∙ ap (λ (i : ChannelIndex). i.0) c.slot_of.ensures in
    let f = c.if-beyond.false-raw in
    rw (s, c.octet-d.ensures, c.number-m.ensures) (omega (arith, valid_long o c.requires), row_low o g.answer.now g.room.now g.payload.now g.link g.cid c.requires e f n, part_placed o g.answer.now g.room.now g.payload.now g.link g.cid c.requires e f n, have_placed o g.answer.now g.room.now g.payload.now g.link g.cid c.requires e f n)

pub returns : goal.returns
returns c =
    let g = c.args in
    let o = g.table.now in
    let e : eqb (length g.room.now) (room_width (get_or o 1 0) (get_or o 2 0) (u16_at o 3)) ≡ true = sym c.room_fits.ensures ∙ c.if-not-room_fits.false in
    let n : is_cid (read o).table g.cid ≡ true = sym (cid_told o c.requires g.cid c.octet-n.ensures c.names_slot.ensures) ∙ c.if-not-names_slot.false in
    let s = c.number-s.ensures ∙ ap (λ (i : ChannelIndex). i.0) c.slot_of.ensures in
    (rw (s, c.octet-d.ensures, c.number-m.ensures) at c.to_slot.ensures) ∙ frame_placed o g.answer.now g.room.now g.payload.now g.link g.cid c.requires e c.if-beyond.false-raw n
