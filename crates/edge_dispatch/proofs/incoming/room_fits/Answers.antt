-- `edge_dispatch::incoming::room_fits` meets its contract: the room that the sizes in line 0 ask for.
use Rattle.edge_placed.specs.Incoming.{sized-told}
use Rattle.edge_dispatch.proofs.incoming.room_fits.Goals as goal

pub room_size-requires : goal.room_size-requires
room_size-requires c =
    rw (c.octet-n.ensures, c.octet-d.ensures, c.number-m.ensures) (sized-told c.args.table.now c.requires)

pub returns : goal.returns
returns c = rw (c.room_size.ensures, c.octet-n.ensures, c.octet-d.ensures, c.number-m.ensures)
