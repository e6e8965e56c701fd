use mathlib.Core.Path.{refl, sym, ◌∙◌}
use borrow.Author.Tests.{lt-ltb, le-ltb}
use Rattle.lists.specs.Choose.{choose}
use Rattle.octets.specs.Sets.{tail-part}
use Rattle.signal_headers.specs.Headers.{headers_eq}
use Rattle.signal_headers.proofs.check_headers.Goals as goal

pub loop-t-init : goal.loop-t-init
loop-t-init c = refl

pub returns-then-t-lt4 : goal.returns-then-t-lt4
unfolding choose
returns-then-t-lt4 c =
    sym (c.loop-t.invariant ∙ headers_eq c.loop-t.t.now ∙ rw (lt-ltb _ _ c.loop-t-test.true, lt-ltb _ _ c.if-t-lt4.true))

pub returns-then-t-n : goal.returns-then-t-n
unfolding choose
returns-then-t-n c =
    sym
    (c.loop-t.invariant ∙ headers_eq c.loop-t.t.now
    ∙ rw (lt-ltb _ _ c.loop-t-test.true, le-ltb _ _ c.if-t-lt4.false, ← c.number-n.ensures, lt-ltb _ _ c.if-t-n.true, c.octet.ensures))

pub loop-t-preserved : goal.loop-t-preserved
unfolding choose
loop-t-preserved c =
    c.loop-t.invariant ∙ headers_eq c.loop-t.t.now
    ∙ simp (lt-ltb _ _ c.loop-t-test.true, le-ltb _ _ c.if-t-lt4.false, ← c.number-n.ensures, le-ltb _ _ c.if-t-n.false, tail-part)

pub returns : goal.returns
unfolding choose
returns c = sym (c.loop-t.invariant ∙ headers_eq c.loop-t.t.now ∙ rw (le-ltb _ _ c.loop-t-test.false))
