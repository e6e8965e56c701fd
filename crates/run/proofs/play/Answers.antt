-- `run::play` meets its contract: in each arm what the match told is the definition's case, and the play's own contract is its end.
use mathlib.Core.Path.{refl}
use mathlib.Core.List.{List, []}
use Prim.Native.Nat.{ℕ}
use native.Mathlib.Omega.{arith}
use lib.ListN.{length-take}
use Rattle.channel.specs.declared.Table.{Table}
use Rattle.run_play.specs.Plays.{play, Plays}
use Rattle.run.specs.Playing.{play_of}
use Rattle.run.proofs.play.Goals as goal

-- no row: table, room and the row's buffer stay
no_row : {t : Table} {room : List ℕ} (row : List ℕ) → Plays (play t room []) row (record { table = t; octets = 0 }) room row
no_row row = record { table = refl; room = refl; text = record { next = omega arith; buffer = refl } }

pub slice_bounds-take-end-in-Receive : goal.slice_bounds-take-end-in-Receive
slice_bounds-take-end-in-Receive c = rw length-take (omega arith)

pub returns-in-Bad : goal.returns-in-Bad
unfolding play_of
returns-in-Bad c = rw c.in-Bad.is (record { table = refl; room = refl; text = c.bad-n.ensures })

pub returns-in-Opening : goal.returns-in-Opening
unfolding play_of
returns-in-Opening c = rw c.in-Opening.is c.opening.ensures

pub returns-in-Closing : goal.returns-in-Closing
unfolding play_of
returns-in-Closing c = rw c.in-Closing.is c.closing.ensures

pub returns-in-Make : goal.returns-in-Make
unfolding play_of
returns-in-Make c = rw c.in-Make.is (no_row _)

pub returns-in-Signal : goal.returns-in-Signal
unfolding play_of
returns-in-Signal c = rw c.in-Signal.is (no_row _)

pub returns-in-Opened : goal.returns-in-Opened
unfolding play_of
returns-in-Opened c = rw c.in-Opened.is c.opened.ensures

pub returns-in-Dispatch : goal.returns-in-Dispatch
unfolding play_of
returns-in-Dispatch c = rw c.in-Dispatch.is c.frame.ensures

pub returns-in-Send : goal.returns-in-Send
unfolding play_of
returns-in-Send c = rw c.in-Send.is c.send.ensures

pub returns-in-Receive : goal.returns-in-Receive
unfolding play_of
returns-in-Receive c = rw c.in-Receive.is (rw (← c.least-n.ensures) c.take.ensures)

pub returns-in-Queries : goal.returns-in-Queries
unfolding play_of
returns-in-Queries c = rw c.in-Queries.is (record { table = refl; room = refl; text = c.queried-n.ensures })

pub returns-in-Tallies : goal.returns-in-Tallies
unfolding play_of
returns-in-Tallies c = rw c.in-Tallies.is (record { table = refl; room = refl; text = c.tallied-n.ensures })

pub returns-in-View : goal.returns-in-View
unfolding play_of
returns-in-View c = rw c.in-View.is (record { table = refl; room = refl; text = c.write_view-n.ensures })

pub returns-in-Room : goal.returns-in-Room
unfolding play_of
returns-in-Room c = rw c.in-Room.is (record { table = refl; room = refl; text = c.shown-n.ensures })

pub returns-in-Portions : goal.returns-in-Portions
unfolding play_of
returns-in-Portions c = rw c.in-Portions.is (no_row _)
