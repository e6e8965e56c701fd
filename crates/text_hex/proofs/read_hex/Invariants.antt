-- `text_hex::read_hex` meets its contract: the loop writes the octets of the word (Writing), each of two digits (octets_at).
use Rattle.octets.specs.Sets.{Writing}
use Rattle.text_hex.specs.Hex.{octets_of}
use Rattle.text_hex.proofs.read_hex.Given as goal

abbrev pub invariant-loop-i : goal.invariant-loop-i
invariant-loop-i l = Writing l.initial.out 0 (octets_of l.word) l.i l.out
