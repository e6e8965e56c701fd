-- What the functions on the room ask, and how a call has it from a passed gate: sizes within the limits, and a room as long as they say.
use Rattle.std.specs.Prelude.{◌≡◌, ℕ, ◌+◌, ◌*◌, ◌≤◌, ◌<◌, Option, Some}
use Rattle.std.proofs.Common.{arith}
use Rattle.channel.specs.Limits.{slots_most, depth_most, packet_most}
use Rattle.channel.specs.declared.Table.{Table}
use Rattle.definition.specs.Table.{width, room_size, spent}
use Rattle.definition.specs.Table.{part_width}
use Rattle.table_gate_sizes.specs.Sizes.{Sized, part-within}
use Rattle.table_gate.specs.Passed.{Passed}

-- slot s's part lies within a room of so many octets
pub record Placed (d m s long : ℕ) : Type 0 where
  pub deep : d ≤ depth_most
  pub most : m ≤ packet_most
  pub low : s < slots_most
  pub within : s * part_width d m + part_width d m ≤ long

-- a room of so many octets is the table's
pub record RoomOf (t : Table) (long : ℕ) : Type 0 where
  pub sizes : Sized t.n t.d t.m
  pub is : long ≡ room_size t

pub room_of : {t : Table} {long : ℕ} {signal link slot : Option ℕ} → Passed t (Some long) signal link slot → RoomOf t long
room_of p = record { sizes = p.sizes; is = p.room-is }

-- the room of a table is its room once an identifier was used
pub room-spent : {t u : Table} {long : ℕ} → u ≡ spent t → RoomOf t long → RoomOf u long
room-spent e p = rw e (record { sizes = p.sizes; is = p.is })

pub placed : {t : Table} {long : ℕ} → RoomOf t long → (s : ℕ) → s < t.n → Placed t.d t.m s long
placed {t} r s h =
    record {
      deep = r.sizes.d_most;
      most = r.sizes.m_most;
      low = omega (arith, r.sizes.n-most);
      within = omega (arith, part-within s t.n (width t) h, r.is);
    }
