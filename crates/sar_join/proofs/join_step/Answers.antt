-- `sar_join::join_step` meets its contract: each return is one case law of `join_step`, by the tests on the way to it and by what `reach` ensures.
use mathlib.Core.Path.{◌∙◌}
use Rattle.sar_join.specs.JoinLaws.{above_mps, first_short, first_above_mtu, first_reaches, next_reaches}
use Rattle.sar_join.proofs.join_step.Goals as goal

pub returns-then-mps-n : goal.returns-then-mps-n
returns-then-mps-n c = let x = c.args in above_mps x.mtu x.mps x.d x.a x.queued x.n x.said c.if-mps-n.true

pub returns-then-n-lt2 : goal.returns-then-n-lt2
returns-then-n-lt2 c =
    let x = c.args in
    first_short x.mtu x.mps x.d x.a x.queued x.n x.said c.if-mps-n.false c.if-want-eq0.true c.if-n-lt2.true

pub returns-then-mtu-said : goal.returns-then-mtu-said
returns-then-mtu-said c =
    let x = c.args in
    first_above_mtu x.mtu x.mps x.d x.a x.queued x.n x.said c.if-mps-n.false c.if-want-eq0.true c.if-n-lt2.false c.if-mtu-said.true

pub returns-then-want-eq0 : goal.returns-then-want-eq0
returns-then-want-eq0 c =
    let x = c.args in
    c.reach.ensures
    ∙ first_reaches x.mtu x.mps x.d x.a x.queued x.n x.said c.if-mps-n.false c.if-want-eq0.true c.if-n-lt2.false c.if-mtu-said.false

pub returns : goal.returns
returns c =
    let x = c.args in
    c.reach-2.ensures ∙ next_reaches x.mtu x.mps x.d x.a x.queued x.n x.said c.if-mps-n.false c.if-want-eq0.false
