-- `edge::store` meets its contract: the two writers ensure its parts.
use Rattle.edge_answer.specs.Answers.{answer_octets}
use Rattle.edge.specs.Edge.{lifted}
use Rattle.edge.proofs.store.Goals as goal

pub returns : goal.returns
unfolding lifted answer_octets
returns c =
    let answered = c.put_answer.ensures in
    let kept = c.keep.ensures in
    λ room out job. rw (answered.value, answered.out_after, kept)
