-- The peer of a channel: as long as its slot is Connected, its CID and its MPS stay what they were, whatever calls come. So of what a portion needs to find as the
-- job's last call left it (`HandedOn` of crate rules_portions), the manager keeps the peer's numbers here, the job by `job_moved_by` (crate rules_steps), and the caller the buffer.
use Rattle.std.specs.Prelude.{◌≡◌, true, List, [], ◌∷◌, ℕ}
use Rattle.channel.specs.declared.Peer.{Peer}
use Rattle.definition.specs.Table.{slot_at, is_connected}
use Rattle.definition.specs.Calls.{Call}
use Rattle.definition.specs.Run.{State, after}

pub record SamePeer (p q : Peer) : Type 0 where
  pub cid : q.cid ≡ p.cid
  pub mps : q.mps ≡ p.mps

-- Slot i is Connected before and after each of these calls.
abbrev pub Stays : ℕ → State → List Call → Type 0
Stays i s [] = is_connected (slot_at s.table i).state ≡ true
Stays i s (c ∷ cs) = (is_connected (slot_at s.table i).state ≡ true) × Stays i (after s c) cs
