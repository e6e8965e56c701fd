-- `slot_credits::credit_at` meets its contract: code and definition test the same sum, and a channel that is left has its place for assembly zeroed.
use mathlib.Core.Path.{sym}
use mathlib.Core.List.{[]}
use native.Mathlib.Omega.{arith}
use borrow.Author.Tests.{lt-ltb, le-ltb}
use Rattle.lists.specs.Choose.{choose}
use Rattle.definition.specs.Mem.{sizes}
use Rattle.definition.specs.Table.{part_width}
use Rattle.definition.proofs.Ending.{parts_none}
use Rattle.slot_credits.specs.Crediting.{credits_of}
use Rattle.slot_credits.proofs.credit_at.Goals as goal

pub zero_assembly-requires : goal.zero_assembly-requires
zero_assembly-requires c =
    let p = c.requires in
    record { deep = p.deep; most = p.most; low = omega (arith, p.low); within = omega (arith, p.within) }

pub returns-then-sum-gt-CREDITS_MOST : goal.returns-then-sum-gt-CREDITS_MOST
unfolding credits_of choose sizes
returns-then-sum-gt-CREDITS_MOST c =
    rw (← c.total-sum.ensures, lt-ltb _ _ c.if-sum-gt-CREDITS_MOST.true)
    (rw c.left-y.ensures at c.became.ensures, c.zero_assembly.ensures)

pub overflow_add-held : goal.overflow_add-held
overflow_add-held c = omega (arith, c.total-sum.ensures, c.if-sum-gt-CREDITS_MOST.false)

pub returns : goal.returns
unfolding credits_of choose sizes
returns c =
    let g = c.args in
    rw (← c.total-sum.ensures, le-ltb _ _ c.if-sum-gt-CREDITS_MOST.false)
    (rw c.with_peer_credits-y.ensures at c.became-2.ensures, sym (parts_none [] (part_width g.d g.m) g.s g.room.now))
