-- `slot_portion::portion_from` meets its contract: the tests are those of the definition, and behind them it is `portioned`.
use mathlib.Core.Path.{sym, ◌∙◌}
use mathlib.Core.List.{[]}
use borrow.Author.Tests.{lt-ltb, le-ltb, ltb-true, not-false}
use Rattle.lists.specs.Choose.{choose}
use Rattle.definition.proofs.Ending.{written_none}
use Rattle.slot_portion.specs.Giving.{portion_of}
use Rattle.slot_portion.proofs.giving.portion_from.Goals as goal

pub returns-then-not-is_connected : goal.returns-then-not-is_connected
unfolding portion_of choose
returns-then-not-is_connected c =
    let g = c.args in
    rw (← c.is_connected.ensures, c.if-not-is_connected.true-raw, written_none g.portion.now [] g.buffer.now, c.became.ensures)

pub returns-then-not-is_open : goal.returns-then-not-is_open
unfolding portion_of choose
returns-then-not-is_open c =
    let g = c.args in
    rw (← c.is_connected.ensures, c.if-not-is_connected.false-raw, ← c.is_open.ensures, c.if-not-is_open.true-raw, written_none g.portion.now [] g.buffer.now, c.became-then-not-is_open.ensures)

pub returns-then-buffer-payload : goal.returns-then-buffer-payload
unfolding portion_of choose
returns-then-buffer-payload c =
    let g = c.args in
    rw (← c.is_connected.ensures, c.if-not-is_connected.false-raw, ← c.is_open.ensures, c.if-not-is_open.false-raw, ← c.longest-payload.ensures, lt-ltb _ _ c.if-buffer-payload.true, written_none g.portion.now [] g.buffer.now, c.became-then-buffer-payload.ensures)

pub returns-then-left-portion : goal.returns-then-left-portion
unfolding portion_of choose
returns-then-left-portion c =
    let g = c.args in
    rw (← c.is_connected.ensures, c.if-not-is_connected.false-raw, ← c.is_open.ensures, c.if-not-is_open.false-raw, ← c.longest-payload.ensures, le-ltb _ _ c.if-buffer-payload.false, ← c.left.ensures, lt-ltb _ _ c.if-left-portion.true, written_none g.portion.now [] g.buffer.now, c.became-then-left-portion.ensures)

pub portioned-requires : goal.portioned-requires
portioned-requires c =
    let o = c.is_open in
    ltb-true 0 _ (sym o.ensures ∙ not-false o.result c.if-not-is_open.false-raw)

pub returns : goal.returns
unfolding portion_of choose
returns c =
    rw (← c.is_connected.ensures, c.if-not-is_connected.false-raw, ← c.is_open.ensures, c.if-not-is_open.false-raw, ← c.longest-payload.ensures, le-ltb _ _ c.if-buffer-payload.false, ← c.left.ensures, le-ltb _ _ c.if-left-portion.false) c.portioned.ensures
