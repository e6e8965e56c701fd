use Rattle.std.proofs.Common.{rules, ◌∙◌}
use Rattle.std.proofs.lemmas.Iterator.{YieldsList-from_slice}
use Rattle.std.proofs.lemmas.Iterator.Search.{position_from_yields_List}
use borrow.Author.Tests.{tests}
use Rattle.definition.specs.Table.{is_free}
use Rattle.table_search.specs.Scan.{searched}
use Rattle.table_search.proofs.lowest_free_in.Goals as goal

pub returns : goal.returns
returns c =
    let l = c.args.slots.now in
    position_from_yields_List is_free _ _ c.position.result c.position.ensures.ran (YieldsList-from_slice l cc) (λ x b q k. search (rules, tests)) ∙ searched l
