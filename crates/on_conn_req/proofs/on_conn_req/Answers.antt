-- `on_conn_req::on_conn_req` meets its contract: code and definition make the same tests in the same order.
use mathlib.Core.Path.{ap, ◌∙◌}
use borrow.Author.Tests.{le-leb, lt-leb, lt-ltb, le-ltb}
use Rattle.lists.specs.Choose.{choose}
use Rattle.definition.specs.Mem.{sizes}
use Rattle.definition.specs.Table.{below_least}
use Rattle.definition.specs.Signals.{on_conn_req}
use Rattle.on_conn_req.proofs.on_conn_req.Goals as goal

-- in each return `spsm`, `listens`, `least`, `used` and `free` are the places of the five tests
pub returns-then-not-is_registered : goal.returns-then-not-is_registered
unfolding choose sizes on_conn_req
returns-then-not-is_registered c t₀ room job =
    rw (c.in-Some.is, ← c.is_registered.ensures, c.if-not-is_registered.true-raw) (c.refuse.ensures t₀ room job)

pub returns-then-not-listening : goal.returns-then-not-listening
unfolding choose sizes on_conn_req
returns-then-not-listening c t₀ room job =
    rw (c.in-Some.is, ← c.is_registered.ensures, c.if-not-is_registered.false-raw, c.if-not-listening.true-raw) (c.refuse-then-not-listening.ensures t₀ room job)

pub returns-then-below_least : goal.returns-then-below_least
unfolding choose sizes on_conn_req
returns-then-below_least c t₀ room job =
    rw (
      c.in-Some.is,
      ← c.is_registered.ensures,
      c.if-not-is_registered.false-raw,
      c.if-not-listening.false-raw,
      ← (c.below_least.ensures ∙ ap below_least c.requester.ensures),
      c.if-below_least.true,
    ) (c.refuse-then-below_least.ensures t₀ room job)

pub returns-then-find-t : goal.returns-then-find-t
unfolding choose sizes on_conn_req
returns-then-find-t c t₀ room job =
    rw (
      c.in-Some.is,
      ← c.is_registered.ensures,
      c.if-not-is_registered.false-raw,
      c.if-not-listening.false-raw,
      ← (c.below_least.ensures ∙ ap below_least c.requester.ensures),
      c.if-below_least.false,
      ← c.find.ensures,
      lt-ltb _ _ c.if-find-t.true,
    ) (c.refuse-then-find-t.ensures t₀ room job)

pub returns-then-t-s : goal.returns-then-t-s
unfolding choose sizes on_conn_req
returns-then-t-s c t₀ room job =
    rw (
      c.in-Some.is,
      ← c.is_registered.ensures,
      c.if-not-is_registered.false-raw,
      c.if-not-listening.false-raw,
      ← (c.below_least.ensures ∙ ap below_least c.requester.ensures),
      c.if-below_least.false,
      ← c.find.ensures,
      le-ltb _ _ c.if-find-t.false,
      ← c.find-s.ensures,
      le-leb _ _ c.if-t-s.true,
    ) (c.refuse-then-t-s.ensures t₀ room job)

pub returns-in-None : goal.returns-in-None
unfolding choose sizes on_conn_req
returns-in-None c t₀ room job =
    rw c.in-None.is (c.bad_body.ensures t₀ room job)

pub returns-else-t-s : goal.returns-else-t-s
unfolding choose sizes on_conn_req
returns-else-t-s c t₀ room job =
    rw (
      c.in-Some.is,
      ← c.is_registered.ensures,
      c.if-not-is_registered.false-raw,
      c.if-not-listening.false-raw,
      ← (c.below_least.ensures ∙ ap below_least c.requester.ensures),
      c.if-below_least.false,
      ← c.find.ensures,
      le-ltb _ _ c.if-find-t.false,
      ← c.find-s.ensures,
      lt-leb _ _ c.if-t-s.false,
      ← c.asked.ensures,
    ) (c.alter.ensures t₀ room _ job)
