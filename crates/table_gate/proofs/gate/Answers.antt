-- `table_gate::gate` meets its contract: the definition's tests in its order, each by what its function ensures.
use Rattle.table_gate_sizes.specs.Sizes.{formed_sizes}
use Rattle.definition.specs.Outcome.{verdict}
use Rattle.lists.specs.Choose.{choose}
use mathlib.Core.Path.{sym, ◌∙◌}
use Rattle.table_gate.proofs.gate.Goals as goal

pub returns-then-not-formed : goal.returns-then-not-formed
unfolding verdict choose
returns-then-not-formed c = rw (← c.well_formed-formed.ensures, c.if-not-formed.true-raw)

pub room_size-requires : goal.room_size-requires
room_size-requires c = formed_sizes _ (sym c.well_formed-formed.ensures ∙ c.if-not-formed.false)

pub returns-then-other_than : goal.returns-then-other_than
unfolding verdict choose
returns-then-other_than c =
    let formed = c.well_formed-formed.ensures in
    let other = rw c.room_size.ensures at c.other_than.ensures in
    rw (← formed, c.if-not-formed.false-raw, ← other, c.if-other_than.true)

pub returns-then-short : goal.returns-then-short
unfolding verdict choose
returns-then-short c =
    let formed = c.well_formed-formed.ensures in
    let short = c.below-short.ensures in
    let other = rw c.room_size.ensures at c.other_than.ensures in
    rw (← formed, c.if-not-formed.false-raw, ← other, c.if-other_than.false, ← short, c.if-short.true)

pub returns-then-beyond : goal.returns-then-beyond
unfolding verdict choose
returns-then-beyond c =
    let formed = c.well_formed-formed.ensures in
    let short = c.below-short.ensures in
    let beyond = c.above-beyond.ensures in
    let other = rw c.room_size.ensures at c.other_than.ensures in
    rw (← formed, c.if-not-formed.false-raw, ← other, c.if-other_than.false, ← short, c.if-short.false, ← beyond, c.if-beyond.true)

pub returns-then-no_slot : goal.returns-then-no_slot
unfolding verdict choose
returns-then-no_slot c =
    let formed = c.well_formed-formed.ensures in
    let short = c.below-short.ensures in
    let beyond = c.above-beyond.ensures in
    let no_slot = c.reaching-no_slot.ensures in
    let other = rw c.room_size.ensures at c.other_than.ensures in
    rw (← formed, c.if-not-formed.false-raw, ← other, c.if-other_than.false, ← short, c.if-short.false, ← beyond, c.if-beyond.false, ← no_slot, c.if-no_slot.true)

pub returns : goal.returns
unfolding verdict choose
returns c =
    let formed = c.well_formed-formed.ensures in
    let short = c.below-short.ensures in
    let beyond = c.above-beyond.ensures in
    let no_slot = c.reaching-no_slot.ensures in
    let other = rw c.room_size.ensures at c.other_than.ensures in
    rw (← formed, c.if-not-formed.false-raw, ← other, c.if-other_than.false, ← short, c.if-short.false, ← beyond, c.if-beyond.false, ← no_slot, c.if-no_slot.false)
