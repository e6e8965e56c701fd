-- The rules of every run from a made table that speak of the table: refusal 1 never comes (A), identifiers are 1 to 255 (B), credits
-- held plus received stay what they were when the connection began (C); a job handed over in portions stands only in a Connected slot, with
-- a credit set aside for each frame to come (G); a peer's MTU and MPS are at least 23, so that refusal 20 never comes (H); tallies stand only in a slot that is Connected or that its peer has left (J). They follow from what every reached state has (Good.antt).
use Rattle.std.specs.Prelude.{◌≡◌, Bool, true, false, List, [], ◌∷◌, ℕ, ◌+◌}
use Rattle.credit.specs.Account.{credit_sum}
use Rattle.channel.specs.declared.ChannelState.{ChannelState}
use Rattle.channel.specs.declared.ChannelState.TheVariants.{Disconnected, Connecting, PeerConnecting, Connected, ConnectFailed, PeerDisconnecting, Disconnecting}
use Rattle.channel.specs.declared.Slot.{Slot}
use Rattle.channel.specs.declared.Table.{Table}
use Rattle.definition.specs.Mem.{given, Move}
use Rattle.definition.specs.Table.{slot_at}
use Rattle.definition.specs.Outcome.{Outcome}
use Rattle.definition.specs.Calls.{Call}
use Rattle.definition.specs.Run.{State, after}
use Rattle.rules.specs.Step.{Step}
use Rattle.rules.specs.Step as Step

-- ---- C. "Credits held plus received always equals the initial credits."

-- A connection lasts from the moment its account is made until its slot is freed.
abbrev pub lasts : ChannelState → Bool
lasts Disconnected = false
lasts (Connecting i) = true
lasts (PeerConnecting i) = false
lasts Connected = true
lasts (ConnectFailed c) = true
lasts (PeerDisconnecting i) = true
lasts (Disconnecting a) = true

-- the step that a call makes in slot i
pub record Change (t : Table) (k : ℕ) (x y : Slot) : Type 0 where
  pub moves : List Move
  pub step : Step t k x y moves

-- The connection in slot i lasts through all these calls.
abbrev pub Lasts : ℕ → State → List Call → Type 0
Lasts i s [] = lasts (slot_at s.table i).state ≡ true
Lasts i s (a ∷ as') = (lasts (slot_at s.table i).state ≡ true) × Lasts i (after s a) as'

-- The initial credits are those that we tell the peer: in the response of an accept, in the request of a create.

pub record Begins (o : Outcome) (i credits : ℕ) (told : List ℕ) : Type 0 where
  pub sum : credit_sum (slot_at o.table i).account ≡ credits
  pub out : o.out ≡ given told ∷ []

-- A portion that gives out a frame uses one of them, the last frame the last one; any other uses none. The peer's credits stay.
pub record Uses (x y : Slot) (n : ℕ) : Type 0 where
  pub aside : y.job.aside + n ≡ x.job.aside
  pub credits : y.peer.credits ≡ x.peer.credits
