-- `on_credits::on_credits` meets its contract: no slot is found (credits_astray), and the work on the slot that is found, put into the table (credits-into).
use mathlib.Core.Path.{sym, ap, ◌∙◌}
use mathlib.Core.List.{[]}
use borrow.Author.Tests.{le-leb, lt-leb}
use Rattle.definition.specs.Mem.{sizes}
use Rattle.definition.specs.Table.{place_of, slot_at}
use Rattle.definition.specs.Ending.{end_of}
use Rattle.definition.proofs.Ending.{end-still, written_none}
use Rattle.definition.specs.Signals.{on_credits}
use Rattle.table_room.specs.Placed.{placed}
use Rattle.slot_work.specs.Work.{works_in}
use Rattle.slot_credits.specs.Crediting.{credits_of}
use Rattle.slot_credits.specs.Into.{credits-quiet, credits_astray, credits-into}
use Rattle.on_credits.proofs.on_credits.Goals as goal

pub returns-then-t-s : goal.returns-then-t-s
unfolding sizes
returns-then-t-s c =
    let g = c.args in
    let e = credits_astray g.t g.link g.id c.in-Some.ind (rw (← c.find-s.ensures) (le-leb _ _ c.if-t-s.true)) in
    rw (c.in-Some.is, e, c.refused.ensures) (sym (end-still _ _ _ _ _ _ _))

pub credit_at-w-requires : goal.credit_at-w-requires
credit_at-w-requires c =
    placed c.requires.0 c.find-s.result c.if-t-s.false

pub returns-in-None : goal.returns-in-None
unfolding on_credits
returns-in-None c = rw c.in-None.is (c.bad_body.ensures _ _ [])

pub returns-else-t-s : goal.returns-else-t-s
returns-else-t-s c =
    let g = c.args in
    let t = g.t in
    let s = c.find-s.result in
    let ind = c.in-Some.ind in
    let worked = rw c.slot_at-x.ensures at c.credit_at-w.ensures in
    let into = rw (← c.find-s.ensures) at (credits-into t g.link g.id ind (rw (← c.find-s.ensures) (lt-leb _ _ c.if-t-s.false))) in
    rw c.in-Some.is
    (works_in t s (credits_of (place_of t) (slot_at t s) ind.credits) [] g.room.now g.out.now [] c.changed.ensures worked.0 worked.1
    (rw (credits-quiet (place_of t) (slot_at t s) ind.credits) (sym (written_none [] g.room.now g.out.now)))
    ∙ ap (end_of t [] g.room.now g.out.now []) (sym into))
