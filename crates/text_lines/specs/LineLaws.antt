-- A line's own octets are the start of the line: how long they are, and that they stand where the line stands.
use Rattle.std.specs.Prelude.{◌≡◌, Bool, List, ℕ, ◌+◌, ◌-◌, ◌≤◌, ◌<◌, min, take, drop, get_or}
use Rattle.std.proofs.Common.{sym, ◌∙◌, length-drop, take-take}
use Rattle.std.proofs.Math.Bool.{true, false}
use Prim.Native.Char.{code}
use native.Mathlib.Omega.{arith}
use Rattle.std.proofs.Math.ListN.{length, length-take}
use Rattle.std.proofs.Math.Seq.{take-length}
use Rattle.lists.specs.Choose.{choose}
use Rattle.octets.specs.Octets.{part}
use Rattle.text_cut.specs.Cut.{is}
use Rattle.text_lines.specs.Lines.{own_of}

module _ (line : List ℕ) where
  own_le : length (own_of line) ≤ length line
  unfolding own_of choose
  own_le = go (is (code "\r") (get_or line (length line - 1) 0))
    where
      go : (b : Bool) → length (choose b (take (length line - 1) line) line) ≤ length line
      go true = rw length-take (omega arith)
      go false = omega arith

-- the own octets of a line within a buffer end within it
pub own_within : (buf : List ℕ) (start n : ℕ) → 0 < length (own_of (part buf start n)) → start + length (own_of (part buf start n)) ≤ length buf
own_within buf start n some =
    let k : length (own_of (part buf start n)) ≤ length (part buf start n) = own_le (part buf start n) in
    let l : length (part buf start n) ≡ min n (length (drop start buf)) = length-take n (drop start buf) in
    let d : length (drop start buf) ≡ length buf - start = length-drop start buf in
    omega arith

-- they are as many octets of what the line was cut from
pub own_taken : (k : ℕ) (ys : List ℕ) → take (length (own_of (take k ys))) ys ≡ own_of (take k ys)
unfolding own_of choose
own_taken k ys = go (is (code "\r") (get_or (take k ys) (length (take k ys) - 1) 0))
  where
    n : length (take k ys) ≡ min k (length ys)
    n = length-take k ys

    go : (b : Bool) → take (length (choose b (take (length (take k ys) - 1) (take k ys)) (take k ys))) ys ≡ choose b (take (length (take k ys) - 1) (take k ys)) (take k ys)
    go true =
        let m : length (take (length (take k ys) - 1) (take k ys)) ≡ length (take k ys) - 1 = length-take (length (take k ys) - 1) (take k ys) ∙ omega arith in
        rw m (sym (take-take (length (take k ys) - 1) k ys (omega (arith, n))))
    go false = sym (take-take (length (take k ys)) k ys (omega (arith, n))) ∙ take-length (take k ys)
