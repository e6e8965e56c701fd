-- `run_table::shown` meets its contract: sizes that fit place the slot's part.
use mathlib.Core.Path.{sym, ◌∙◌}
use native.Mathlib.Omega.{arith}
use Rattle.definition.specs.Table.{part_width}
use Rattle.table_gate.specs.Sizes.{sizes_fit_lem, width-most, room_most, part-within}
use Rattle.run_table.specs.PlayedTableLaws.{no_part, past_parts, part-shown}
use Rattle.run_table.proofs.shown.Goals as goal

pub returns-then-t-s : goal.returns-then-t-s
returns-then-t-s c = past_parts c.args.t c.args.slot c.args.room.now c.sizes_fit.ensures c.if-sizes_fit.true c.if-t-s.true c.told.ensures

pub part_at-at-requires : goal.part_at-at-requires
part_at-at-requires c =
    let s = sizes_fit_lem c.args.t.n c.args.t.d c.args.t.m (sym c.sizes_fit.ensures ∙ c.if-sizes_fit.true) in
    (s.d_most, s.m_most, omega (arith, s.n-most, c.if-t-s.false))

pub part_size-requires : goal.part_size-requires
part_size-requires c =
    let s = sizes_fit_lem c.args.t.n c.args.t.d c.args.t.m (sym c.sizes_fit.ensures ∙ c.if-sizes_fit.true) in
    (s.d_most, s.m_most)

pub overflow_add-end : goal.overflow_add-end
overflow_add-end c =
    let s = sizes_fit_lem c.args.t.n c.args.t.d c.args.t.m (sym c.sizes_fit.ensures ∙ c.if-sizes_fit.true) in
    omega (arith, c.part_at-at.ensures, c.part_size.ensures, part-within c.args.slot c.args.t.n (part_width c.args.t.d c.args.t.m) c.if-t-s.false, room_most c.args.t.n (part_width c.args.t.d c.args.t.m) s.n-most (width-most c.args.t.d c.args.t.m s.d_most s.m_most))

pub returns-then-sizes_fit : goal.returns-then-sizes_fit
returns-then-sizes_fit c = part-shown c.args.t c.args.slot c.args.room.now c.sizes_fit.ensures c.if-sizes_fit.true c.if-t-s.false c.part_at-at.ensures c.part_size.ensures c.text.ensures c.answered.ensures

pub returns : goal.returns
returns c = no_part c.args.t c.args.slot c.args.room.now c.sizes_fit.ensures c.if-sizes_fit.false c.told-2.ensures
