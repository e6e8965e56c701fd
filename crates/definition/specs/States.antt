-- The seven states of a slot, test by test: which of them passes, and what a state carries. Document 01, 'Slots'.
use Rattle.std.specs.Prelude.{Bool, true, false, not, ℕ}
use Rattle.codes.specs.declared.LeCreditConnResultCode.{LeCreditConnResultCode}
use Rattle.codes.specs.declared.LeCreditConnResultCode.TheVariants.{Success}
use Rattle.channel.specs.declared.ChannelState.{ChannelState}
use Rattle.channel.specs.declared.ChannelState.TheVariants.{Disconnected, Connecting, PeerConnecting, Connected, ConnectFailed, PeerDisconnecting, Disconnecting}

abbrev pub is_disconnected : ChannelState → Bool
is_disconnected Disconnected = true
is_disconnected (Connecting i) = false
is_disconnected (PeerConnecting i) = false
is_disconnected Connected = false
is_disconnected (ConnectFailed c) = false
is_disconnected (PeerDisconnecting i) = false
is_disconnected (Disconnecting a) = false

abbrev pub is_connecting : ChannelState → Bool
is_connecting Disconnected = false
is_connecting (Connecting i) = true
is_connecting (PeerConnecting i) = false
is_connecting Connected = false
is_connecting (ConnectFailed c) = false
is_connecting (PeerDisconnecting i) = false
is_connecting (Disconnecting a) = false

abbrev pub is_peer_connecting : ChannelState → Bool
is_peer_connecting Disconnected = false
is_peer_connecting (Connecting i) = false
is_peer_connecting (PeerConnecting i) = true
is_peer_connecting Connected = false
is_peer_connecting (ConnectFailed c) = false
is_peer_connecting (PeerDisconnecting i) = false
is_peer_connecting (Disconnecting a) = false

abbrev pub is_connected : ChannelState → Bool
is_connected Disconnected = false
is_connected (Connecting i) = false
is_connected (PeerConnecting i) = false
is_connected Connected = true
is_connected (ConnectFailed c) = false
is_connected (PeerDisconnecting i) = false
is_connected (Disconnecting a) = false

abbrev pub is_connect_failed : ChannelState → Bool
is_connect_failed Disconnected = false
is_connect_failed (Connecting i) = false
is_connect_failed (PeerConnecting i) = false
is_connect_failed Connected = false
is_connect_failed (ConnectFailed c) = true
is_connect_failed (PeerDisconnecting i) = false
is_connect_failed (Disconnecting a) = false

abbrev pub is_peer_disconnecting : ChannelState → Bool
is_peer_disconnecting Disconnected = false
is_peer_disconnecting (Connecting i) = false
is_peer_disconnecting (PeerConnecting i) = false
is_peer_disconnecting Connected = false
is_peer_disconnecting (ConnectFailed c) = false
is_peer_disconnecting (PeerDisconnecting i) = true
is_peer_disconnecting (Disconnecting a) = false

abbrev pub is_disconnecting : ChannelState → Bool
is_disconnecting Disconnected = false
is_disconnecting (Connecting i) = false
is_disconnecting (PeerConnecting i) = false
is_disconnecting Connected = false
is_disconnecting (ConnectFailed c) = false
is_disconnecting (PeerDisconnecting i) = false
is_disconnecting (Disconnecting a) = true

-- "PeerDisconnecting .. or Disconnecting not yet announced"
abbrev pub is_due : ChannelState → Bool
is_due Disconnected = false
is_due (Connecting i) = false
is_due (PeerConnecting i) = false
is_due Connected = false
is_due (ConnectFailed c) = false
is_due (PeerDisconnecting i) = true
is_due (Disconnecting announced) = not announced

-- The identifier that a state carries; 0 where it carries none.
abbrev pub identifier_of : ChannelState → ℕ
identifier_of Disconnected = 0
identifier_of (Connecting i) = i
identifier_of (PeerConnecting i) = i
identifier_of Connected = 0
identifier_of (ConnectFailed c) = 0
identifier_of (PeerDisconnecting i) = i
identifier_of (Disconnecting a) = 0

-- The result code that a failed attempt got; Success where there is none.
abbrev pub failure_of : ChannelState → LeCreditConnResultCode
failure_of Disconnected = Success
failure_of (Connecting i) = Success
failure_of (PeerConnecting i) = Success
failure_of Connected = Success
failure_of (ConnectFailed c) = c
failure_of (PeerDisconnecting i) = Success
failure_of (Disconnecting a) = Success
