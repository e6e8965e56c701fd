-- `call_accept::accept_pending` meets its contract: behind the gate code and definition make the same tests in the same order, the first two of
-- the definition as one (`table_settings::sizing`).
use mathlib.Core.Path.{sym, ◌∙◌}
use borrow.Author.Tests.{eq-eqb, ne_eqb}
use Rattle.lists.specs.Choose.{choose}
use Rattle.definition.specs.Pending.{accept_pending}
use Rattle.table_settings.specs.Sizing.{either_refuses, neither_refuses}
use Rattle.table_gate.specs.Behind.{behind, on, stopped, ended}
use Rattle.call_accept.proofs.accept_pending.Goals as goal

pub too_large-large-requires : goal.too_large-large-requires
too_large-large-requires c =
    let p = behind c.gate.ensures c.in-Ok.is in
    (p.sizes.m_least, p.sizes.m_most)

pub returns-then-large : goal.returns-then-large
unfolding choose accept_pending
returns-then-large c =
    rw (
      ← c.number-s.ensures,
      on c.gate.ensures c.in-Ok.is,
      either_refuses _ _ (sym c.too_large-large.ensures ∙ c.if-large.true),
    ) (ended c.refused-then-large.ensures _ _)

pub returns-then-not-asked : goal.returns-then-not-asked
unfolding choose accept_pending
returns-then-not-asked c =
    rw (
      ← c.number-s.ensures,
      on c.gate.ensures c.in-Ok.is,
      neither_refuses _ _ (sym c.too_large-large.ensures ∙ c.if-large.false),
      ← c.slot_at-x.ensures,
      ← c.is_peer_connecting-asked.ensures,
      c.if-not-asked.true-raw,
    ) (ended c.refused-then-not-asked.ensures _ _)

pub returns-then-x-eq0 : goal.returns-then-x-eq0
unfolding choose accept_pending
returns-then-x-eq0 c =
    rw (
      ← c.number-s.ensures,
      on c.gate.ensures c.in-Ok.is,
      neither_refuses _ _ (sym c.too_large-large.ensures ∙ c.if-large.false),
      ← c.slot_at-x.ensures,
      ← c.is_peer_connecting-asked.ensures,
      c.if-not-asked.false-raw,
      eq-eqb _ _ c.if-x-eq0.true,
    ) (ended c.refused-then-x-eq0.ensures _ _)

pub agree-requires : goal.agree-requires
agree-requires c =
    let p = behind c.gate.ensures c.in-Ok.is in
    (p.sizes, p.slot_is, p.signal-is)

pub returns-in-Err : goal.returns-in-Err
unfolding accept_pending
returns-in-Err c =
    rw (
      ← c.number-s.ensures,
      stopped c.gate.ensures c.in-Err.is,
    ) (ended c.refused.ensures _ _)

pub returns-else-x-eq0 : goal.returns-else-x-eq0
unfolding choose accept_pending
returns-else-x-eq0 c =
    rw (
      ← c.number-s.ensures,
      on c.gate.ensures c.in-Ok.is,
      neither_refuses _ _ (sym c.too_large-large.ensures ∙ c.if-large.false),
      ← c.slot_at-x.ensures,
      ← c.is_peer_connecting-asked.ensures,
      c.if-not-asked.false-raw,
      ne_eqb _ _ c.if-x-eq0.false,
    ) c.agree.ensures
