use Prim.Native.Nat.{◌+◌, ◌*◌}
use mathlib.Core.Path.{◌≡◌, sym, ◌∙◌}
use native.Mathlib.Nat.{zero-add}
use lib.ListN.{get_or}
use Rattle.lists.specs.Choose.{choose}
use Rattle.octets.specs.Sets.{writing_more, writing_end}
use Rattle.text_hex.specs.Hex.{octets_of, hex_read, hex_octets}
use Rattle.text_hex.specs.HexLaws.{nibble_small, octets_length, octets_at, hex_at}
use native.Mathlib.Omega.{arith}
use Rattle.text_hex.proofs.read_hex.Goals as goal

pub returns-then-not-hex_ok : goal.returns-then-not-hex_ok
unfolding hex_read hex_octets choose
returns-then-not-hex_ok c =
    let e = sym c.hex_ok.ensures ∙ c.if-not-hex_ok.true in
    record { answer = rw e; buffer = rw e }

pub nibble-high-requires : goal.nibble-high-requires
nibble-high-requires c = hex_at _ (sym c.hex_ok.ensures ∙ c.if-not-hex_ok.false) (omega arith) _ (omega arith)

pub nibble-low-requires : goal.nibble-low-requires
nibble-low-requires c = hex_at _ (sym c.hex_ok.ensures ∙ c.if-not-hex_ok.false) (omega arith) _ (omega arith)

pub overflow_mul-high : goal.overflow_mul-high
overflow_mul-high c =
    let i = c.loop-i.i in
    let w = c.args.word.now in
    let n = nibble_small (get_or w (2 * i) 0) (hex_at w (sym c.hex_ok.ensures ∙ c.if-not-hex_ok.false) (omega arith) (2 * i) (omega arith)) in
    omega (arith, c.nibble-high.ensures)

pub overflow_add-high : goal.overflow_add-high
overflow_add-high c =
    let i = c.loop-i.i in
    let w = c.args.word.now in
    let ok = sym c.hex_ok.ensures ∙ c.if-not-hex_ok.false in
    let n = nibble_small (get_or w (2 * i) 0) (hex_at w ok (omega arith) (2 * i) (omega arith)) in
    let m = nibble_small (get_or w (2 * i + 1) 0) (hex_at w ok (omega arith) (2 * i + 1) (omega arith)) in
    omega (arith, c.nibble-high.ensures, c.nibble-low.ensures)

pub loop-i-preserved : goal.loop-i-preserved
loop-i-preserved c =
    let i = c.loop-i.i in
    let w = c.args.word.now in
    let e : get_or (octets_of w) i 0 ≡ 16 * c.nibble-high.result + c.nibble-low.result = rw (c.nibble-high.ensures, c.nibble-low.ensures) (octets_at w i (omega arith)) in
    rw c.put.ensures (rw zero-add at (writing_more c.loop-i.invariant 0 _ e (omega (arith, octets_length w))))

pub shape_of-out : goal.shape_of-out
shape_of-out c = c.loop-i.invariant.long

pub returns : goal.returns
unfolding hex_read hex_octets choose
returns c =
    let w = c.args.word.now in
    let e = sym c.hex_ok.ensures ∙ c.if-not-hex_ok.false in
    record { answer = rw (e, octets_length w); buffer = rw e (writing_end c.loop-i.invariant (omega (arith, octets_length w))) }
