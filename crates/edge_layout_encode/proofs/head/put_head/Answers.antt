-- `edge_layout_encode::head::put_head` meets its contract: its parts are the head (head-parts).
use Rattle.edge_layout_encode.specs.Head.{head-parts}
use Rattle.edge_layout_encode.proofs.head.put_head.Goals as goal

pub returns : goal.returns
returns c =
    let a = c.args in
    rw (c.put_spsms.ensures, c.zero.ensures, c.put_sizes.ensures) (head-parts a.out.now a.t)
