-- `sar_speed::speed_copy` meets its contract: all of a list is the part from 0 on of its length.
use mathlib.Core.Path.{ap, ◌∙◌}
use mathlib.Core.List.{List}
use Prim.Native.Nat.{ℕ}
use lib.Seq.{sets, take-length}
use Rattle.sar_speed.proofs.speed_copy.Goals as goal

pub returns : goal.returns
returns c =
    let a = c.args in
    c.copy_to.ensures ∙ ap (λ (xs : List ℕ). sets a.dst.now 0 xs) (take-length a.src.now)
