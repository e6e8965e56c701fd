-- The room of a table that octets spell: its sizes stand in line 0, and the part of each slot lies in it.
use Rattle.std.specs.Prelude.{◌≡◌, true, List, ℕ, ◌<◌, eqb, get_or}
use Rattle.std.proofs.Common.{sym, ◌∙◌, arith, eqb-true}
use Rattle.octets.specs.Octets.{u16_at}
use Rattle.channel.specs.Limits.{slots_most}
use Rattle.definition.specs.Table.{room_width, room_size}
use Rattle.table_gate_sizes.specs.Sizes.{Sized, formed_sizes}
use Rattle.table_room.specs.Placed.{Placed, placed}
use Rattle.edge_layout.specs.Layout.{read}
use Rattle.edge_scan.specs.Scan.{valid_octets}
use Rattle.edge_row.proofs.Row.{slots-told, depth_told, packet_told}
use Rattle.edge_row.proofs.Gate.{valid_read, valid_formed}

module _ (o : List ℕ) (v : valid_octets o ≡ true) where
  pub sized-told : Sized (get_or o 1 0) (get_or o 2 0) (u16_at o 3)
  sized-told = rw (slots-told o (valid_read o v), depth_told o (valid_read o v), packet_told o (valid_read o v)) at (formed_sizes (read o).table (valid_formed o v))

  room-told : room_size (read o).table ≡ room_width (get_or o 1 0) (get_or o 2 0) (u16_at o 3)
  room-told = rw (slots-told o (valid_read o v), depth_told o (valid_read o v), packet_told o (valid_read o v))

  module _ (s : ℕ) (h : s < get_or o 1 0) where
    -- the slot is one of the rows
    pub row_low : s < slots_most
    row_low = omega (arith, sized-told.n-most)

    pub part_placed : (long : ℕ) → eqb long (room_width (get_or o 1 0) (get_or o 2 0) (u16_at o 3)) ≡ true → Placed (get_or o 2 0) (u16_at o 3) s long
    part_placed long e =
        let t = (read o).table in
        let is : long ≡ room_size t = eqb-true long _ e ∙ sym room-told in
        let in_use : s < t.n = rw (slots-told o (valid_read o v)) h in
        rw (depth_told o (valid_read o v), packet_told o (valid_read o v)) at (placed {t = t} (record { sizes = formed_sizes t (valid_formed o v); is = is }) s in_use)
