-- `row_view_names::write_state` meets its contract: in each arm what the match told is the definition's case.
use Rattle.lists.specs.Choose.{choose}
use Rattle.row_view_names.specs.Names.{state_text}
use Rattle.row_view_names.proofs.write_state.Goals as goal

pub returns-in-Disconnected : goal.returns-in-Disconnected
unfolding state_text
returns-in-Disconnected c = rw c.in-Disconnected.is c.write_text.ensures

pub returns-in-Connecting : goal.returns-in-Connecting
unfolding state_text
returns-in-Connecting c = rw c.in-Connecting.is c.write_named.ensures

pub returns-in-PeerConnecting : goal.returns-in-PeerConnecting
unfolding state_text
returns-in-PeerConnecting c = rw c.in-PeerConnecting.is c.write_named-in-PeerConnecting.ensures

pub returns-in-Connected : goal.returns-in-Connected
unfolding state_text
returns-in-Connected c = rw c.in-Connected.is c.write_text-in-Connected.ensures

pub returns-in-ConnectFailed : goal.returns-in-ConnectFailed
unfolding state_text
returns-in-ConnectFailed c = rw (c.in-ConnectFailed.is, ← c.result_number.ensures) c.write_named-in-ConnectFailed.ensures

pub returns-in-PeerDisconnecting : goal.returns-in-PeerDisconnecting
unfolding state_text
returns-in-PeerDisconnecting c = rw c.in-PeerDisconnecting.is c.write_named-in-PeerDisconnecting.ensures

pub returns-then-announced : goal.returns-then-announced
unfolding state_text choose
returns-then-announced c = rw (c.in-Disconnecting.is, c.if-announced.true) c.write_text-then-announced.ensures

pub returns-else-announced : goal.returns-else-announced
unfolding state_text choose
returns-else-announced c = rw (c.in-Disconnecting.is, c.if-announced.false) c.write_text-else-announced.ensures
