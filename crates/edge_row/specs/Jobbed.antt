-- A slot that a send or a start has changed, in its table's octets: the peer's credits and what is counted of sends are written, for a start the open job too, and that is its whole row.
use Rattle.std.specs.Prelude.{List, ◌++◌, ℕ, ◌+◌}
use Rattle.channel.specs.declared.Slot.{Slot}
use Rattle.edge_layout.specs.Layout.{assembly_octets, queue_octets}

-- what stands between the peer's credits and the open job
abbrev pub between : Slot → List ℕ
between x = assembly_octets x.assembly ++ queue_octets x.queue
