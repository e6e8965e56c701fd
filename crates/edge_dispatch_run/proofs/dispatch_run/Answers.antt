-- `edge_dispatch_run::dispatch_run` meets its contract: the first refusals told from the octets, and behind them the frames.
use Rattle.std.specs.Prelude.{None, Some}
use mathlib.Core.Path.{◌≡◌, sym, ◌∙◌}
use mathlib.Core.Bool.{true, false}
use lib.Dec.{eqb}
use lib.ListN.{length, get_or}
use Rattle.octets.specs.Octets.{u16_at}
use Rattle.codes.specs.declared.Refusal.TheVariants.{BadTable, BadRoom}
use Rattle.definition.specs.Table.{room_width}
use Rattle.edge_scan.specs.Scan.{valid_octets}
use Rattle.edge_row.proofs.Gate.{refused_1, refused_2}
use Rattle.edge_dispatch_run.specs.Begins.{run-passes, run_stopped, run_ends}
use Rattle.edge_dispatch_run.proofs.dispatch_run.Goals as goal

pub returns-then-not-valid : goal.returns-then-not-valid
returns-then-not-valid c =
    let g = c.args in
    let o = g.table.now in
    let bad : valid_octets o ≡ false = sym c.valid.ensures ∙ c.if-not-valid.true in
    let told = c.put_ended.ensures in
    run_stopped o g.answer.now g.room.now g.frames.now g.answers.now BadTable (refused_1 o bad (Some (length g.room.now)) None None None) c.refused.ensures told.value told.answer_after

pub room_fits-requires : goal.room_fits-requires
room_fits-requires c = sym c.valid.ensures ∙ c.if-not-valid.false

pub returns-then-not-room_fits : goal.returns-then-not-room_fits
returns-then-not-room_fits c =
    let g = c.args in
    let o = g.table.now in
    let valid : valid_octets o ≡ true = sym c.valid.ensures ∙ c.if-not-valid.false in
    let other : eqb (length g.room.now) (room_width (get_or o 1 0) (get_or o 2 0) (u16_at o 3)) ≡ false = sym c.room_fits.ensures ∙ c.if-not-room_fits.true in
    let told = c.put_ended-then-not-room_fits.ensures in
    run_stopped o g.answer.now g.room.now g.frames.now g.answers.now BadRoom (refused_2 o valid (length g.room.now) None None None other) c.refused-then-not-room_fits.ensures told.value told.answer_after

pub frames_in-e-requires : goal.frames_in-e-requires
frames_in-e-requires c = sym c.valid.ensures ∙ c.if-not-valid.false

pub returns : goal.returns
returns c =
    let g = c.args in
    let o = g.table.now in
    let valid : valid_octets o ≡ true = sym c.valid.ensures ∙ c.if-not-valid.false in
    let fits : eqb (length g.room.now) (room_width (get_or o 1 0) (get_or o 2 0) (u16_at o 3)) ≡ true = sym c.room_fits.ensures ∙ c.if-not-room_fits.false in
    let told = c.put_ended-2.ensures in
    run_ends o g.answer.now g.room.now g.frames.now g.answers.now c.frames_in-e.result told.value told.answer_after (run-passes o valid (length g.room.now) fits) c.frames_in-e.ensures
