-- `call_create::create` meets its contract: behind the gate code and definition make the same tests in the same order, the first two of the
-- definition as one (`table_settings::sizing`).
use mathlib.Core.Path.{sym, ◌∙◌}
use borrow.Author.Tests.{le-leb, lt-leb}
use Rattle.lists.specs.Choose.{choose}
use Rattle.definition.specs.Opening.{create}
use Rattle.table_settings.specs.Sizing.{either_refuses, neither_refuses}
use Rattle.table_gate.specs.Behind.{behind, on, stopped, ended}
use borrow.Author.Rules.{rules}
use Rattle.call_create.proofs.create.Goals as goal

pub too_large-requires : goal.too_large-requires
too_large-requires c =
    let p = behind c.gate.ensures c.in-Ok.is in
    (p.sizes.m_least, p.sizes.m_most)

pub returns-then-too_large : goal.returns-then-too_large
unfolding choose create
returns-then-too_large c =
    rw (
      on c.gate.ensures c.in-Ok.is,
      either_refuses _ _ (sym c.too_large.ensures ∙ c.if-too_large.true),
      ← c.spent-u.ensures,
    ) (ended c.refused-then-too_large.ensures _ _)

pub returns-then-t-s : goal.returns-then-t-s
unfolding choose create
returns-then-t-s c =
    rw (
      on c.gate.ensures c.in-Ok.is,
      neither_refuses _ _ (sym c.too_large.ensures ∙ c.if-too_large.false),
      ← c.find-s.ensures,
      le-leb _ _ c.if-t-s.true,
      ← c.spent-u.ensures,
    ) (ended c.refused-then-t-s.ensures _ _)

pub start-requires : goal.start-requires
start-requires c =
    let p = behind c.gate.ensures c.in-Ok.is in
    (p.sizes, search rules, p.signal-is)

pub returns-in-Err : goal.returns-in-Err
unfolding create
returns-in-Err c =
    rw (stopped c.gate.ensures c.in-Err.is) (ended c.refused.ensures _ _)

pub returns-else-t-s : goal.returns-else-t-s
unfolding choose create
returns-else-t-s c =
    rw (
      on c.gate.ensures c.in-Ok.is,
      neither_refuses _ _ (sym c.too_large.ensures ∙ c.if-too_large.false),
      ← c.find-s.ensures,
      lt-leb _ _ c.if-t-s.false,
    ) c.start.ensures
