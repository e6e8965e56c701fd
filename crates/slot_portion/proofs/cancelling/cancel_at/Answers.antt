-- `slot_portion::cancel_at` meets its contract: code and definition make the same tests, and a channel that is left has its place for assembly zeroed.
use mathlib.Core.Path.{sym}
use mathlib.Core.List.{[]}
use borrow.Author.Tests.{eq-eqb, ne_eqb}
use Rattle.lists.specs.Choose.{choose}
use Rattle.definition.specs.Mem.{sizes}
use Rattle.definition.specs.Table.{part_width}
use Rattle.definition.proofs.Ending.{parts_none}
use Rattle.slot_portion.specs.Cancelling.{cancel_of}
use Rattle.slot_portion.proofs.cancelling.cancel_at.Goals as goal

pub returns-then-not-is_connected : goal.returns-then-not-is_connected
unfolding cancel_of choose sizes
returns-then-not-is_connected c =
    let g = c.args in
    rw (← c.is_connected.ensures, c.if-not-is_connected.true-raw) (c.became.ensures, sym (parts_none [] (part_width g.d g.m) g.s g.room.now))

pub returns-then-not-is_open : goal.returns-then-not-is_open
unfolding cancel_of choose sizes
returns-then-not-is_open c =
    let g = c.args in
    rw (← c.is_connected.ensures, c.if-not-is_connected.false-raw, ← c.is_open.ensures, c.if-not-is_open.true-raw) (c.became-then-not-is_open.ensures, sym (parts_none [] (part_width g.d g.m) g.s g.room.now))

pub returns-then-given_out-eq0 : goal.returns-then-given_out-eq0
unfolding cancel_of choose sizes
returns-then-given_out-eq0 c =
    let g = c.args in
    rw (← c.is_connected.ensures, c.if-not-is_connected.false-raw, ← c.is_open.ensures, c.if-not-is_open.false-raw, ← c.given_out.ensures, eq-eqb _ _ c.if-given_out-eq0.true)
    (rw (c.with_job-y.ensures, c.no_job.ensures, c.with_peer_credits.ensures) at c.became-then-given_out-eq0.ensures, sym (parts_none [] (part_width g.d g.m) g.s g.room.now))

pub returns : goal.returns
unfolding cancel_of choose sizes
returns c =
    rw (← c.is_connected.ensures, c.if-not-is_connected.false-raw, ← c.is_open.ensures, c.if-not-is_open.false-raw, ← c.given_out.ensures, ne_eqb _ _ c.if-given_out-eq0.false)
    (rw c.left-y.ensures at c.became-2.ensures, c.zero_assembly.ensures)
