-- What the tests of the definition tell: of two tests joined, of the states of a slot, and of its peer's sizes.
use Rattle.std.specs.Prelude.{◌≡◌, refl, Bool, true, false, ◌||◌, ◌≤◌, ◌<◌, min, ltb}
use Rattle.std.proofs.Common.{sym, ap, arith, ltb-true, ltb-false}
use Rattle.std.proofs.lemmas.Bool.{false≢true}
use Rattle.channel.specs.Limits.{size_least}
use Rattle.channel.specs.declared.ChannelState.{ChannelState}
use Rattle.channel.specs.declared.ChannelState.TheVariants.{Disconnected, Connecting, PeerConnecting, Connected, ConnectFailed, PeerDisconnecting, Disconnecting}
use Rattle.channel.specs.declared.Peer.{Peer}
use Rattle.definition.specs.Table.{is_disconnected, is_connecting, is_peer_connecting, is_connected, is_connect_failed, is_peer_disconnecting, is_due, below_least}
use Rattle.rules.specs.Tests.{begun, counting, offered}

pub or_left : (a b : Bool) → (a || b) ≡ false → a ≡ false
or_left true b e = e
or_left false b e = refl

pub or_right : (a b : Bool) → (a || b) ≡ false → b ≡ false
or_right true b e = absurd (false≢true (sym e))
or_right false b e = e

pub begun-live : (k : ChannelState) → begun k ≡ true → is_disconnected k ≡ false
begun-live Disconnected e = absurd (false≢true e)
begun-live (Connecting i) e = refl
begun-live (PeerConnecting i) e = refl
begun-live Connected e = refl
begun-live (ConnectFailed c) e = refl
begun-live (PeerDisconnecting i) e = refl
begun-live (Disconnecting a) e = refl

pub connected-begun : (k : ChannelState) → is_connected k ≡ true → begun k ≡ true
connected-begun Disconnected e = e
connected-begun (Connecting i) e = e
connected-begun (PeerConnecting i) e = e
connected-begun Connected e = refl
connected-begun (ConnectFailed c) e = e
connected-begun (PeerDisconnecting i) e = refl
connected-begun (Disconnecting a) e = refl

pub due-begun : (k : ChannelState) → is_due k ≡ true → begun k ≡ true
due-begun Disconnected e = e
due-begun (Connecting i) e = e
due-begun (PeerConnecting i) e = e
due-begun Connected e = refl
due-begun (ConnectFailed c) e = e
due-begun (PeerDisconnecting i) e = refl
due-begun (Disconnecting a) e = refl

pub attempt-live : (k : ChannelState) → is_connecting k ≡ true → is_disconnected k ≡ false
attempt-live Disconnected e = absurd (false≢true e)
attempt-live (Connecting i) e = refl
attempt-live (PeerConnecting i) e = refl
attempt-live Connected e = refl
attempt-live (ConnectFailed c) e = refl
attempt-live (PeerDisconnecting i) e = refl
attempt-live (Disconnecting a) e = refl

pub attempt_unbegun : (k : ChannelState) → is_connecting k ≡ true → begun k ≡ false
attempt_unbegun Disconnected e = refl
attempt_unbegun (Connecting i) e = refl
attempt_unbegun (PeerConnecting i) e = refl
attempt_unbegun Connected e = absurd (false≢true e)
attempt_unbegun (ConnectFailed c) e = refl
attempt_unbegun (PeerDisconnecting i) e = absurd (false≢true e)
attempt_unbegun (Disconnecting a) e = absurd (false≢true e)

pub pending-live : (k : ChannelState) → is_peer_connecting k ≡ true → is_disconnected k ≡ false
pending-live Disconnected e = absurd (false≢true e)
pending-live (Connecting i) e = refl
pending-live (PeerConnecting i) e = refl
pending-live Connected e = refl
pending-live (ConnectFailed c) e = refl
pending-live (PeerDisconnecting i) e = refl
pending-live (Disconnecting a) e = refl

-- none of the four states in which nothing is taken
pub takes_begun : (k : ChannelState) → (is_disconnected k || (is_connecting k || (is_peer_connecting k || is_connect_failed k))) ≡ false → begun k ≡ true
takes_begun Disconnected e = sym e
takes_begun (Connecting i) e = sym e
takes_begun (PeerConnecting i) e = sym e
takes_begun Connected e = refl
takes_begun (ConnectFailed c) e = sym e
takes_begun (PeerDisconnecting i) e = refl
takes_begun (Disconnecting a) e = refl

pub begun_takes : (k : ChannelState) → begun k ≡ true → (is_disconnected k || (is_connecting k || (is_peer_connecting k || is_connect_failed k))) ≡ false
begun_takes Disconnected e = sym e
begun_takes (Connecting i) e = sym e
begun_takes (PeerConnecting i) e = sym e
begun_takes Connected e = refl
begun_takes (ConnectFailed c) e = sym e
begun_takes (PeerDisconnecting i) e = refl
begun_takes (Disconnecting a) e = refl

-- no state but Connected passes the test for it
pub unbegun_off : (k : ChannelState) → begun k ≡ false → is_connected k ≡ false
unbegun_off Disconnected e = refl
unbegun_off (Connecting i) e = refl
unbegun_off (PeerConnecting i) e = refl
unbegun_off Connected e = e
unbegun_off (ConnectFailed c) e = refl
unbegun_off (PeerDisconnecting i) e = refl
unbegun_off (Disconnecting a) e = refl

pub pending_off : (k : ChannelState) → is_peer_connecting k ≡ true → is_connected k ≡ false
pending_off Disconnected e = refl
pending_off (Connecting i) e = refl
pending_off (PeerConnecting i) e = refl
pending_off Connected e = sym e
pending_off (ConnectFailed c) e = refl
pending_off (PeerDisconnecting i) e = refl
pending_off (Disconnecting a) e = refl

pub pending_unbegun : (k : ChannelState) → is_peer_connecting k ≡ true → begun k ≡ false
pending_unbegun Disconnected e = refl
pending_unbegun (Connecting i) e = refl
pending_unbegun (PeerConnecting i) e = refl
pending_unbegun Connected e = absurd (false≢true e)
pending_unbegun (ConnectFailed c) e = refl
pending_unbegun (PeerDisconnecting i) e = absurd (false≢true e)
pending_unbegun (Disconnecting a) e = absurd (false≢true e)

pub due_off : (k : ChannelState) → is_due k ≡ true → is_connected k ≡ false
due_off Disconnected e = refl
due_off (Connecting i) e = refl
due_off (PeerConnecting i) e = refl
due_off Connected e = sym e
due_off (ConnectFailed c) e = refl
due_off (PeerDisconnecting i) e = refl
due_off (Disconnecting a) e = refl

pub pending-offered : (k : ChannelState) → is_peer_connecting k ≡ true → offered k ≡ true
pending-offered k e = ap (λ (b : Bool). b || is_connected k) e

pub connected-offered : (k : ChannelState) → is_connected k ≡ true → offered k ≡ true
connected-offered Disconnected e = e
connected-offered (Connecting i) e = e
connected-offered (PeerConnecting i) e = refl
connected-offered Connected e = refl
connected-offered (ConnectFailed c) e = e
connected-offered (PeerDisconnecting i) e = e
connected-offered (Disconnecting a) e = e

pub least_sizes : (p : Peer) → below_least p ≡ false → (size_least ≤ p.mtu) × (size_least ≤ p.mps)
least_sizes p e = (ltb-false p.mtu size_least (or_left (ltb p.mtu size_least) (ltb p.mps size_least) e), ltb-false p.mps size_least (or_right (ltb p.mtu size_least) (ltb p.mps size_least) e))

pub below_sizes : (p : Peer) → below_least p ≡ true → min p.mtu p.mps < size_least
below_sizes p e = by (ltb p.mtu size_least) refl
  where
    by : (b : Bool) → ltb p.mtu size_least ≡ b → min p.mtu p.mps < size_least
    by true f = omega (arith, ltb-true p.mtu size_least f)
    by false f = let g : ltb p.mps size_least ≡ true = rw f at e in omega (arith, ltb-true p.mps size_least g)

pub connected-counting : (k : ChannelState) → is_connected k ≡ true → counting k ≡ true
connected-counting k e = rw e refl

pub unbegun_uncounted : (k : ChannelState) → begun k ≡ false → counting k ≡ false
unbegun_uncounted Disconnected e = refl
unbegun_uncounted (Connecting i) e = refl
unbegun_uncounted (PeerConnecting i) e = refl
unbegun_uncounted Connected e = absurd (false≢true (sym e))
unbegun_uncounted (ConnectFailed c) e = refl
unbegun_uncounted (PeerDisconnecting i) e = absurd (false≢true (sym e))
unbegun_uncounted (Disconnecting a) e = refl

pub due-uncounted : (k : ChannelState) → is_due k ≡ true → is_peer_disconnecting k ≡ false → counting k ≡ false
due-uncounted Disconnected e f = refl
due-uncounted (Connecting i) e f = refl
due-uncounted (PeerConnecting i) e f = refl
due-uncounted Connected e f = absurd (false≢true e)
due-uncounted (ConnectFailed c) e f = refl
due-uncounted (PeerDisconnecting i) e f = absurd (false≢true (sym f))
due-uncounted (Disconnecting a) e f = refl
