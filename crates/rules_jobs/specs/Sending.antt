-- Exact rejoining at the table (F), from the sender's SDU to the job taken: what a send that is answered 0 writes, and that its frames, as they come to
-- the receiver, are that SDU again. Rests on the frames of a job (crate sar_cut) and on the receiving side (Rejoin.antt, Taking.antt).
use Rattle.std.specs.Prelude.{◌≡◌, List, ℕ, ◌≤◌, length}
use Rattle.sar_cut.specs.Cutting.{payloads, frames_of}
use Rattle.channel.specs.declared.Slot.{Slot}
use Rattle.definition.specs.Mem.{fills}
use Rattle.definition.specs.Outcome.{Outcome}

-- ---- a send that is answered 0

-- It writes the n frames of the SDU for the peer's MPS, and they fit. x is the slot that is sent on, o what the call comes to, `size` how many
-- octets its output has.
pub record Sends (x : Slot) (sdu room : List ℕ) (size n : ℕ) (o : Outcome) : Type 0 where
  pub octets : fills (λ x. x) sdu room o.out ≡ frames_of x.peer.cid x.peer.mps sdu
  pub count : length (payloads x.peer.mps sdu) ≡ n
  pub wide : 2 ≤ x.peer.mps
  pub fits : length (frames_of x.peer.cid x.peer.mps sdu) ≤ size
