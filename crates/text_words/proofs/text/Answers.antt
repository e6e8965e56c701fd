-- `text_words::text` meets its contract: an end past the line is the line's end (take_least).
use Prim.Native.Nat.{◌-◌, min}
use native.Mathlib.Omega.{arith}
use mathlib.Core.Path.{◌≡◌, ap, ◌∙◌}
use lib.ListN.{length, take, drop, length-drop}
use Rattle.octets.specs.Sets.{take_least}
use Rattle.text_words.proofs.text.Goals as goal

pub returns-then-start-end : goal.returns-then-start-end
returns-then-start-end c =
    let a = c.args in
    let l = drop a.w.start a.line.now in
    let e : c.least-end.result - a.w.start ≡ min (a.w.end - a.w.start) (length l) = rw length-drop (omega arith) in
    ap (λ n. take n l) e ∙ take_least (a.w.end - a.w.start) l

pub returns-else-start-end : goal.returns-else-start-end
returns-else-start-end c =
    let a = c.args in
    let l = drop a.w.start a.line.now in
    let e : 0 ≡ min (a.w.end - a.w.start) (length l) = rw length-drop (omega arith) in
    ap (λ n. take n l) e ∙ take_least (a.w.end - a.w.start) l
