-- The words that the laws are stated in: what document 01 calls a slot, said of its state by name and of no test that the definition makes.
use Rattle.std.specs.Prelude.{◌≡◌, Bool, false, ℕ, ◌<◌}
use Rattle.channel.specs.declared.ChannelState.TheVariants.{Disconnected, Connecting, PeerConnecting, Connected, PeerDisconnecting, Disconnecting}
use Rattle.channel.specs.declared.Slot.{Slot}
use Rattle.channel.specs.declared.Table.{Table}
use Rattle.definition.specs.Table.{slot_at}

-- a slot that is given out: "each slot is not Disconnected or has a hold" where there is none
pub record Free (x : Slot) : Type 0 where
  pub state : x.state ≡ Disconnected
  pub hold : x.hold ≡ 0

-- link l's: not Disconnected, and that link
pub record Of (l : ℕ) (x : Slot) : Type 0 where
  pub state : ¬ (x.state ≡ Disconnected)
  pub link : x.link ≡ l

-- "PeerConnecting slot of the link"
pub record Pending (l : ℕ) (x : Slot) : Type 0 where
  pub id : ℕ
  pub state : x.state ≡ PeerConnecting id
  pub link : x.link ≡ l

-- ".. without holds"
pub record Unheld (l : ℕ) (x : Slot) : Type 0 where
  pub pending : Pending l x
  pub hold : x.hold ≡ 0

-- "Connecting slot with that identifier and link"
pub record Attempt (l id : ℕ) (x : Slot) : Type 0 where
  pub state : x.state ≡ Connecting id
  pub link : x.link ≡ l

-- "Connected slot of this link"
pub record Open (l : ℕ) (x : Slot) : Type 0 where
  pub state : x.state ≡ Connected
  pub link : x.link ≡ l

-- ".. with that peer CID"
pub record OpenTo (l cid : ℕ) (x : Slot) : Type 0 where
  pub slot : Open l x
  pub peer : x.peer.cid ≡ cid

-- "a Disconnecting slot of this link"
pub record Leaving (l : ℕ) (x : Slot) : Type 0 where
  pub announced : Bool
  pub state : x.state ≡ Disconnecting announced
  pub link : x.link ≡ l

-- "in PeerDisconnecting .. or Disconnecting not yet announced"
pub data Due (x : Slot) : Type 0 where
  answer : {id : ℕ} → x.state ≡ PeerDisconnecting id → Due x
  request : x.state ≡ Disconnecting false → Due x

-- the lowest of those slots in use that are so
pub record Lowest (P : Slot → Type 0) (t : Table) (i : ℕ) : Type 0 where
  pub within : i < t.n
  pub stands : P (slot_at t i)
  pub least : (j : ℕ) → j < i → ¬ P (slot_at t j)
