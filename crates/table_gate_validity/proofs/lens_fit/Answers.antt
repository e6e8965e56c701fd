use Rattle.std.proofs.Common.{rules, ◌∙◌, ℕ, leb, take}
use Rattle.std.proofs.lemmas.Iterator.{YieldsList-from_slice}
use Rattle.std.proofs.lemmas.Iterator.Search.{all_from_yields_List}
use borrow.Author.Tests.{tests}
use Rattle.table_gate_validity.proofs.Alls.{all_first}
use Rattle.table_gate_validity.proofs.lens_fit.Goals as goal

pub returns : goal.returns
returns c =
    let q = c.args.q in
    let p = λ (x : ℕ). leb x c.args.place in
    all_from_yields_List p _ _ c.all.result c.all.ensures.ran (YieldsList-from_slice (take c.least-n.result q.lens) cc) (λ x b q k. search (rules, tests)) ∙ all_first p q.count _ q.lens (search rules)
