-- `slot_frame::joining::queued` meets its contract: of four lengths one is put (put_four), and one job more waits.
use mathlib.Core.Path.{◌≡◌, refl}
use lib.ListN.{length}
use Rattle.slot_frame.specs.Four.{put_four}
use borrow.Author.Rules.{rules}
use Rattle.slot_frame.proofs.joining.queued.Goals as goal

pub returns : goal.returns
returns c =
    let l = c.args.q.lens in
    let e : length l ≡ 4 = search rules in
    rw (c.length_at.ensures, c.length_at-2.ensures, c.length_at-3.ensures, c.length_at-4.ensures, put_four l c.args.q.count c.args.len e c.requires) refl
