-- `slot_take::take_from` meets its contract: code and definition make the same tests in the same order; a slot that stays is took_none, a job without a grant
-- took_still.
use borrow.Author.Tests.{eq-eqb, ne_eqb}
use Rattle.lists.specs.Choose.{choose}
use Rattle.slot_take.specs.Taking.{take_of}
use Rattle.slot_take.specs.Handed.{took_none, took_still}
use Rattle.slot_take.proofs.take_from.Goals as goal

pub returns-then-closed : goal.returns-then-closed
unfolding take_of choose
returns-then-closed c = rw (← c.closed.ensures, c.if-closed.true) (took_none _ _ _ _ _ _ _ c.became.ensures)

pub returns-then-q-eq0 : goal.returns-then-q-eq0
unfolding take_of choose
returns-then-q-eq0 c = rw (← c.closed.ensures, c.if-closed.false, eq-eqb _ _ c.if-q-eq0.true) (took_none _ _ _ _ _ _ _ c.became-then-q-eq0.ensures)

pub returns-then-short : goal.returns-then-short
unfolding take_of choose
returns-then-short c =
    rw (← c.closed.ensures, c.if-closed.false, ne_eqb _ _ c.if-q-eq0.false, ← c.short.ensures, c.if-short.true)
    (took_none _ _ _ _ _ _ _ c.became-then-short.ensures)

pub returns-in-None : goal.returns-in-None
unfolding take_of choose
returns-in-None c =
    let a = c.args in
    rw (
      ← c.closed.ensures,
      c.if-closed.false,
      ne_eqb _ _ c.if-q-eq0.false,
      ← c.short.ensures,
      c.if-short.false,
      ← c.grant_in.ensures,
      c.in-None.is,
    ) (took_still a.d a.m a.s a.id a.x a.signal.now c.hand.ensures)

pub returns-in-Some : goal.returns-in-Some
unfolding take_of choose
returns-in-Some c =
    rw (
      ← c.closed.ensures,
      c.if-closed.false,
      ne_eqb _ _ c.if-q-eq0.false,
      ← c.short.ensures,
      c.if-short.false,
      ← c.grant_in.ensures,
      c.in-Some.is,
    ) c.hand_and_grant.ensures
