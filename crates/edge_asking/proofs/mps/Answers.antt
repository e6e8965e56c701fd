-- `edge_asking::mps` meets its contract: the call's own, on the table that the octets spell; a question keeps it.
use Rattle.edge.specs.Edge.{on_asked}
use Rattle.edge_asking.specs.Keeps.{query-keeps}
use Rattle.edge_asking.proofs.mps.Goals as goal

pub returns : goal.returns
returns c =
    let answered = c.put_answer.ensures in
    on_asked _ _ _ (query-keeps _ _) c.decode-d.ensures c.mps-s.ensures answered.value answered.out_after
