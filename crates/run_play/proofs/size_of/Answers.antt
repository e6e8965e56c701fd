-- `run_play::size_of` meets its contract: sizes that fit have a room.
use mathlib.Core.Path.{sym, ◌∙◌}
use Rattle.lists.specs.Choose.{choose}
use Rattle.table_gate.specs.Sizes.{sizes_fit_lem}
use Rattle.run_play.specs.Plays.{size_of}
use Rattle.run_play.proofs.size_of.Goals as goal

pub room_size-requires : goal.room_size-requires
room_size-requires c = sizes_fit_lem _ _ _ (sym c.sizes_fit.ensures ∙ c.if-sizes_fit.true)

pub returns-then-sizes_fit : goal.returns-then-sizes_fit
unfolding size_of choose
returns-then-sizes_fit c = rw (← c.sizes_fit.ensures, c.if-sizes_fit.true) c.room_size.ensures

pub returns-else-sizes_fit : goal.returns-else-sizes_fit
unfolding size_of choose
returns-else-sizes_fit c = rw (← c.sizes_fit.ensures, c.if-sizes_fit.false)
