-- `row_view_peer::write_jobs` meets its contract: its pieces follow one another (writes-append), and the queue's array has DEPTH places.
use mathlib.Core.Path.{◌≡◌}
use native.Mathlib.Omega.{arith}
use lib.ListN.{length, length-take}
use Rattle.channel.specs.Limits.{depth_most}
use Rattle.text_write.specs.Rows.{writes-append}
use Rattle.row_view_peer.specs.PeerLine.{jobs_text}
use Rattle.row_view_peer.specs.Four.{four}
use borrow.Author.Rules.{rules}
use Rattle.row_view_peer.proofs.write_jobs.Goals as goal

pub slice_bounds-write_columns-end-2 : goal.slice_bounds-write_columns-end-2
slice_bounds-write_columns-end-2 c = rw length-take (omega arith)

pub returns : goal.returns
unfolding jobs_text
returns c =
    let q = c.args.q in
    let e : length q.lens ≡ depth_most = search rules in
    rw (← c.least-waiting.ensures, ← four q.lens e) (writes-append c.write_columns-count.ensures c.write_columns.ensures)
