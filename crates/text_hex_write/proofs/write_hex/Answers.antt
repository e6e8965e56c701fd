use mathlib.Core.Path.{refl, ap, ◌∙◌}
use lib.ListN.{length}
use lib.Seq.{take_all, length-sets}
use Rattle.text_write.specs.Rows.{writes-append}
use Rattle.text_hex_write.specs.HexText.{hex_digits}
use Rattle.text_hex_write.specs.HexTextLaws.{digits_more, text-none, text-digits}
use native.Mathlib.Omega.{arith}
use Rattle.text_hex_write.proofs.write_hex.Goals as goal

pub returns-then-octets-eq0 : goal.returns-then-octets-eq0
returns-then-octets-eq0 c = rw (text-none c.args.octets.now c.if-octets-eq0.true) c.write_character.ensures

pub loop-b-init : goal.loop-b-init
unfolding hex_digits
loop-b-init c = record { next = omega arith; buffer = refl }

pub loop-b-preserved : goal.loop-b-preserved
loop-b-preserved c =
    let l = c.loop-b in
    rw (digits_more c.args.octets.now l.b-index (omega arith), ← c.digit.ensures, ← c.digit-in-loop-b.ensures)
    (writes-append (writes-append l.invariant c.write_character-behind.ensures) c.write_character-next.ensures)

pub shape_of-out : goal.shape_of-out
shape_of-out c = ap length c.loop-b.invariant.buffer ∙ simp length-sets

pub returns : goal.returns
returns c =
    let xs = c.args.octets.now in
    let l = c.loop-b in
    rw (text-digits xs (omega arith)) (rw (take_all l.b-index xs (omega arith)) at l.invariant)
