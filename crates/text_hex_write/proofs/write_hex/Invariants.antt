-- `text_hex_write::write_hex` meets its contract: the octets passed are written (Writes), two digits each (digits_more).
use lib.ListN.{take}
use Rattle.text_write.specs.Rows.{Writes}
use Rattle.text_hex_write.specs.HexText.{hex_digits}
use Rattle.text_hex_write.proofs.write_hex.Given as goal

abbrev pub invariant-loop-b : goal.invariant-loop-b
invariant-loop-b l = Writes l.initial.out l.at (hex_digits (take l.b-index l.octets)) l.next l.out
