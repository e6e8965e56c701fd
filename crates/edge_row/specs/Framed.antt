-- A slot that a frame has changed, in its table's octets: its state, its account, its assembly, the jobs that wait and what is counted of frames are written, and its open job and all
-- tallies where the channel is left; and that is its whole row.
use Rattle.std.specs.Prelude.{ℕ, ◌+◌}
use mathlib.Core.List.{List, ◌∷◌, ◌++◌}
use Rattle.channel.specs.declared.Slot.{Slot}
use Rattle.edge_layout.specs.Layout.{local_octets, peer_octets, job_octets, tally_octets, tallies_octets}

-- what no frame changes: link, SPSM and our sizes; holds and the peer's side
abbrev pub local_of : Slot → List ℕ
local_of x = local_octets x.link x.spsm x.mps x.mtu

abbrev pub peer_of : Slot → List ℕ
peer_of x = x.hold ∷ peer_octets x.peer

-- .. and, while the channel stays, the open job and what is counted of sends
abbrev pub middle_of : Slot → List ℕ
middle_of x = job_octets x.job ++ tally_octets x.tallies.sends

-- the columns behind the jobs that wait
abbrev pub tail_of : Slot → List ℕ
tail_of x = job_octets x.job ++ tallies_octets x.tallies
