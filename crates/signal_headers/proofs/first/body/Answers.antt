-- `signal_headers::first::body` meets its contract: the length is cut to what there is, as `take` cuts it.
use Prim.Native.Nat.{◌+◌, ◌-◌, min}
use Rattle.octets.specs.Octets.{u16_at}
use lib.ListN.{length, drop}
use mathlib.Core.Path.{◌≡◌, sym}
use native.Mathlib.Omega.{arith}
use lib.ListN.{drop_of_length-le, length-drop}
use lib.Seq.{take-nil}
use Rattle.octets.specs.Sets.{take_least}
use Rattle.signal_headers.proofs.first.body.Goals as goal

pub returns-then-pdu-lt4 : goal.returns-then-pdu-lt4
returns-then-pdu-lt4 c =
    let s = c.args.pdu.now in
    sym (rw (drop_of_length-le s {i = 4} (omega arith)) (take-nil (u16_at s 2)))

pub returns : goal.returns
returns c =
    let s = c.args.pdu.now in
    let e : 4 + c.least-n.result - 4 ≡ min (u16_at s 2) (length (drop 4 s)) = rw length-drop (omega (arith, c.least-n.ensures, c.number.ensures)) in
    rw e (take_least (u16_at s 2) (drop 4 s))
