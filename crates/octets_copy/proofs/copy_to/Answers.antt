-- `octets_copy::copy_to` meets its contract: a run, and where eight or more are copied the last eight once more (copied_eight), are all that is
-- copied.
use mathlib.Core.Path.{ap, ap₂, ◌∙◌}
use Prim.Native.Nat.{ℕ, min}
use lib.Seq.{sets}
use Rattle.lists.specs.Sets.{part, copied_none, copied_all, copied_eight}
use Rattle.octets_copy.proofs.copy_to.Goals as goal

pub returns-then-m-eq0 : goal.returns-then-m-eq0
returns-then-m-eq0 c =
    let a = c.args in
    copied_none a.dst.now a.src.now a.at a.from a.n _ (c.least-m.ensures ∙ ap (min a.n) (c.least.ensures ∙ ap₂ min c.left.ensures c.left-2.ensures)) c.if-m-eq0.true

pub returns-then-m-ge8 : goal.returns-then-m-ge8
returns-then-m-ge8 c =
    let a = c.args in
    let w = c.whole in
    copied_eight a.dst.now a.src.now a.at a.from a.n _ (c.least-m.ensures ∙ ap (min a.n) (c.least.ensures ∙ ap₂ min c.left.ensures c.left-2.ensures))
    w.result _ _ c.if-m-ge8.true w.ensures.0 w.ensures.1 c.copy_run.ensures c.copy_eight.ensures

pub returns-else-m-ge8 : goal.returns-else-m-ge8
returns-else-m-ge8 c =
    let a = c.args in
    c.copy_run.ensures
    ∙ ap (λ (k : ℕ). sets a.dst.now a.at (part a.src.now a.from k)) (c.whole.ensures.2 c.if-m-ge8.false)
    ∙ copied_all a.dst.now a.src.now a.at a.from a.n _ (c.least-m.ensures ∙ ap (min a.n) (c.least.ensures ∙ ap₂ min c.left.ensures c.left-2.ensures))
