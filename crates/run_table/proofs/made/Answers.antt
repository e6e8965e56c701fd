-- `run_table::made` meets its contract: the table's room is the start of what is lent, and what stands behind it stays.
use mathlib.Core.Path.{refl}
use native.Mathlib.Omega.{arith}
use lib.ListN.{length-take}
use Rattle.run_table.specs.PlayedTableLaws.{not_made, is_made}
use Rattle.run_table.proofs.made.Goals as goal

pub returns-then-room-size : goal.returns-then-room-size
returns-then-room-size c = not_made c.args.n c.args.d c.args.m c.args.room.now c.size_of-size.ensures c.if-room-size.true (record { table = c.blank-table.ensures; room = refl; text = c.told-octets.ensures })

pub slice_bounds-make-end-2 : goal.slice_bounds-make-end-2
slice_bounds-make-end-2 c = rw length-take (omega arith)

pub returns : goal.returns
returns c = is_made c.args.n c.args.d c.args.m c.args.room.now c.size_of-size.ensures c.if-room-size.false c.make-s.ensures (record { table = refl; room = refl; text = c.told-octets-2.ensures })
