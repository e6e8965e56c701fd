-- From what a call is answered to what it came to and left: a start, a portion, a cancel and a send that are answered 0 passed every refusal.
use Rattle.std.specs.Prelude.{◌≡◌, Bool, true, false, List, [], ◌∷◌, ℕ, ◌-◌, ◌≤◌, eqb}
use Rattle.std.proofs.lemmas.List.Edits.{sets}
use Rattle.lists.specs.Choose.{choose}
use Rattle.sar_cut.specs.Cutting.{frames_length}
use Rattle.sar_cut.specs.CutLaws.{Allowed}
use Rattle.channel.specs.declared.Answer.TheVariants.{Done, Frames}
use Rattle.channel.specs.declared.ChannelState.TheVariants.{Disconnecting}
use Rattle.channel.specs.declared.Slot.{Slot}
use Rattle.channel.specs.declared.Table.{Table}
use Rattle.definition.specs.Mem.{Fill, given, fills}
use Rattle.definition.specs.Table.{slot_at, is_connected, is_open, with_peer_credits, with_job, count_sent}
use Rattle.definition.specs.Outcome.{Outcome, filling, change, leaving}
use Rattle.definition.specs.Ending.{itself}
use Rattle.definition.specs.Frames.{first_header, frames}
use Rattle.definition.specs.Portions.{given_out, longest, buffer_size, begun, taking, full_with, portioned, returned}
use Rattle.definition.specs.Calls.{Call, jobs}
use Rattle.definition.specs.Run.{State, lent, out_window, after}
use Rattle.rules_portions.specs.Statement.{Admits}

-- ---- what a start and a portion leave: slot i is y, and its buffer is filled

pub record Leaves (s : State) (c : Call) (i : ℕ) (y : Slot) (at : ℕ) (fs : List Fill) : Type 0 where
  pub slot : slot_at (after s c).table i ≡ y
  pub buffer : lent (out_window c) (after s c).memory ≡ sets (lent (out_window c) s.memory) at (fills itself (jobs s.table c) s.room fs)

-- ---- portion

pub record Takes (t : Table) (i count size : ℕ) (link taken : ℕ) (full : Bool) (o : Outcome) : Type 0 where
  pub admits : Admits t i
  pub going : is_open (slot_at t i).job ≡ true
  pub is : o ≡ portioned t i (slot_at t i) count
  pub took : taken ≡ taking (slot_at t i).peer.mps (slot_at t i).job count
  pub filled : full ≡ full_with (slot_at t i).peer.mps (slot_at t i).job count

pub record Starts (t : Table) (i l size link n : ℕ) (o : Outcome) : Type 0 where
  pub admits : Admits t i
  pub shut : is_open (slot_at t i).job ≡ false
  pub allowed : Allowed l (slot_at t i).peer.mtu (slot_at t i).peer.mps (slot_at t i).peer.credits (frames_length l (slot_at t i).peer.mps) n (frames_length l (slot_at t i).peer.mps)
  pub own : link ≡ (slot_at t i).link
  pub big : buffer_size (slot_at t i).peer.mps l ≤ size
  pub is : o ≡ filling t i (with_job (begun l n) (count_sent n (with_peer_credits ((slot_at t i).peer.credits - n) (slot_at t i)))) (Frames (slot_at t i).link n) 0
      (given (first_header (slot_at t i).peer.cid (longest (slot_at t i).peer.mps l) l) ∷ []) 0

-- a send that is answered 0
pub record Sends (t : Table) (i l size link n : ℕ) (o : Outcome) : Type 0 where
  pub admits : Admits t i
  pub shut : is_open (slot_at t i).job ≡ false
  pub allowed : Allowed l (slot_at t i).peer.mtu (slot_at t i).peer.mps (slot_at t i).peer.credits size n (frames_length l (slot_at t i).peer.mps)
  pub own : link ≡ (slot_at t i).link
  pub is : o ≡ change t i (count_sent n (with_peer_credits ((slot_at t i).peer.credits - n) (slot_at t i))) [] (Frames (slot_at t i).link n) (frames (slot_at t i).peer.cid (slot_at t i).peer.mps l n)

-- ---- cancel

pub record Cancels (t : Table) (i : ℕ) (o : Outcome) : Type 0 where
  pub on : is_connected (slot_at t i).state ≡ true
  pub going : is_open (slot_at t i).job ≡ true
  pub is : o ≡ choose (eqb (given_out (slot_at t i).job) 0) (change t i (returned (slot_at t i)) [] Done []) (leaving t i (slot_at t i) (Disconnecting false) Done)
