-- The words of the laws of `tabulate` (proofs/Columns.antt), and which octet of a spelling is which octet of which row.
use Rattle.std.specs.Prelude.{List, [], map, get_or}
use Prim.Native.Nat.{ℕ, ◌/◌, ◌%◌}
use Rattle.channel.specs.Limits.{slots_most}
use Rattle.channel.specs.declared.Slot.{Slot}
use Rattle.edge_layout.specs.Layout.{row}

-- ---- the octets of a spelling

abbrev pub column_octet : List Slot → ℕ → ℕ
column_octet xs k = get_or (get_or (map row xs) (k % slots_most) []) (k / slots_most) 0
