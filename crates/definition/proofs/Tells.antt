-- What a test of the definition tells once it has passed: of a CID, of a slot's state, of what the gate was given.
use Rattle.std.specs.Prelude.{◌≡◌, refl, Bool, true, false, ℕ, ◌<◌, leb, Err, None, Ok, Option, Result, Some}
use Rattle.std.proofs.lemmas.Bool.{false≢true, lt-leb}
use Rattle.std.proofs.Common.{arith, leb-false, ltb-true}
use Rattle.lists.specs.Choose.{choose}
use Rattle.lists.specs.Both.{and_right}
use Rattle.codes.specs.declared.Refusal.{Refusal}
use Rattle.channel.specs.Limits.{cid_base}
use Rattle.channel.specs.declared.ChannelState.{ChannelState}
use Rattle.channel.specs.declared.ChannelState.TheVariants.{Disconnected, Connecting, PeerConnecting, Connected, ConnectFailed, PeerDisconnecting, Disconnecting}
use Rattle.channel.specs.declared.Table.{Table}
use Rattle.definition.specs.Table.{is_disconnected, is_connecting, is_peer_connecting, is_connected, identifier_of, is_cid, slot_of}
use Rattle.definition.specs.Outcome.{fails}
use Rattle.definition.specs.Tells.{InUse}

-- ---- a CID that names a slot names one of the N

pub cid_within : (t : Table) (cid : ℕ) → is_cid t cid ≡ true → slot_of cid < t.n
cid_within t cid e = ltb-true (slot_of cid) t.n (and_right (leb cid_base cid) _ e)

pub cid_slot : (t : Table) (cid : ℕ) → is_cid t cid ≡ true → leb t.n (slot_of cid) ≡ false
cid_slot t cid e = lt-leb t.n (slot_of cid) (cid_within t cid e)

-- ---- the state that passed a test, with what it carries

pub free-is : (k : ChannelState) → is_disconnected k ≡ true → k ≡ Disconnected
free-is Disconnected e = refl
free-is (Connecting i) e = absurd (false≢true e)
free-is (PeerConnecting i) e = absurd (false≢true e)
free-is Connected e = absurd (false≢true e)
free-is (ConnectFailed c) e = absurd (false≢true e)
free-is (PeerDisconnecting i) e = absurd (false≢true e)
free-is (Disconnecting a) e = absurd (false≢true e)

pub connecting_is : (k : ChannelState) → is_connecting k ≡ true → k ≡ Connecting (identifier_of k)
connecting_is Disconnected e = absurd (false≢true e)
connecting_is (Connecting i) e = refl
connecting_is (PeerConnecting i) e = absurd (false≢true e)
connecting_is Connected e = absurd (false≢true e)
connecting_is (ConnectFailed c) e = absurd (false≢true e)
connecting_is (PeerDisconnecting i) e = absurd (false≢true e)
connecting_is (Disconnecting a) e = absurd (false≢true e)

pub pending-is : (k : ChannelState) → is_peer_connecting k ≡ true → k ≡ PeerConnecting (identifier_of k)
pending-is Disconnected e = absurd (false≢true e)
pending-is (Connecting i) e = absurd (false≢true e)
pending-is (PeerConnecting i) e = refl
pending-is Connected e = absurd (false≢true e)
pending-is (ConnectFailed c) e = absurd (false≢true e)
pending-is (PeerDisconnecting i) e = absurd (false≢true e)
pending-is (Disconnecting a) e = absurd (false≢true e)

pub connected-is : (k : ChannelState) → is_connected k ≡ true → k ≡ Connected
connected-is Disconnected e = absurd (false≢true e)
connected-is (Connecting i) e = absurd (false≢true e)
connected-is (PeerConnecting i) e = absurd (false≢true e)
connected-is Connected e = refl
connected-is (ConnectFailed c) e = absurd (false≢true e)
connected-is (PeerDisconnecting i) e = absurd (false≢true e)
connected-is (Disconnecting a) e = absurd (false≢true e)

-- ---- what the gate was given

-- a refusal that does not come, and then what follows it
pub not_stopped : (b : Bool) (r : Refusal) (v : Result (Unit {0}) Refusal) → choose b (Err r) v ≡ Ok tt → (b ≡ false) × (v ≡ Ok tt)
unfolding choose
not_stopped true r v e = let z : ◌≡◌ {A = ℕ} 0 1 = cc in absurd (omega arith)
not_stopped false r v e = (refl, e)

pub given_in_use : (t : Table) (slot : Option ℕ) → fails (λ s. leb t.n s) slot ≡ false → InUse t slot
given_in_use t None e = tt
given_in_use t (Some s) e = leb-false t.n s e
