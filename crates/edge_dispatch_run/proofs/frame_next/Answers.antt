-- `edge_dispatch_run::frame_next` meets its contract: what `admitted` leaves, its answer back in its place of the answers.
use mathlib.Core.Path.{◌≡◌, ap, ◌∙◌}
use mathlib.Core.List.{[]}
use Prim.Native.Nat.{◌+◌}
use native.Mathlib.Omega.{arith}
use lib.ListN.{length}
use Rattle.octets.specs.Octets.{part}
use Rattle.octets.specs.Sets.{mid_part, part_length, put_sets}
use Rattle.edge.specs.Edge.{edge}
use Rattle.edge_run.specs.Run.{answer_size}
use Rattle.edge_dispatch_run.specs.Frames.{frame_edge, lent_by}
use Rattle.edge_dispatch_run.specs.Turn.{frame-left}
use Rattle.edge_dispatch_run.proofs.frame_next.Goals as goal

pub returns : goal.returns
returns c =
    let g = c.args in
    let answers = g.answers.now in
    let n = c.number-n in
    let f = c.admitted in
    let e : edge f.result f.new.table f.new.answer f.new.room [] [] ≡ frame_edge g.frames.now g.at (part answers g.to answer_size) (lent_by g.table.now g.room.now answers) =
    rw (mid_part answers g.to answer_size, mid_part g.frames.now (g.at + 6) n.result, c.number-link.ensures, c.number-cid.ensures, n.ensures) at f.ensures in
    let long : length f.new.answer ≡ answer_size = f.auto.answer ∙ ap length (mid_part answers g.to answer_size) ∙ part_length answers g.to answer_size c.requires.2 in
    record { value = omega (arith, n.ensures); answers_after = rw (put_sets answers g.to (g.to + answer_size) f.new.answer (omega arith) c.requires.2 (omega arith)) (frame-left g.frames.now g.table.now g.room.now answers g.at g.to e) }
