-- What the tests of the definition tell: of two tests joined, of the states of a slot, and of its peer's sizes.
use Rattle.std.specs.Prelude.{◌≡◌, Bool, true, false, ◌||◌}
use Rattle.channel.specs.declared.ChannelState.{ChannelState}
use Rattle.channel.specs.declared.ChannelState.TheVariants.{Disconnected, Connecting, PeerConnecting, Connected, ConnectFailed, PeerDisconnecting, Disconnecting}
use Rattle.channel.specs.declared.Slot.{Slot}
use Rattle.definition.specs.Table.{is_peer_connecting, is_connected, is_peer_disconnecting, below_least}

-- A connection has begun: jobs may stand in the slot. (It was Connected, or was left on the way there.)
abbrev pub begun : ChannelState → Bool
begun Disconnected = false
begun (Connecting i) = false
begun (PeerConnecting i) = false
begun Connected = true
begun (ConnectFailed c) = false
begun (PeerDisconnecting i) = true
begun (Disconnecting a) = true

-- ---- "Core sets 23 as the least for MTU and for MPS" (document 02)

-- a slot that is PeerConnecting or Connected: a connection that the peer asks for, or that stands
abbrev pub offered : ChannelState → Bool
offered k = is_peer_connecting k || is_connected k

-- Such a slot's peer is not below the least.
abbrev pub Least : Slot → Type 0
Least x = offered x.state ≡ true → below_least x.peer ≡ false

-- ---- "S .. lets the next owner inherit them": where a channel's tallies stand (document 02)

-- a slot that is Connected, or that its peer has left: what it counted is not yet reset
abbrev pub counting : ChannelState → Bool
counting k = is_connected k || is_peer_disconnecting k
