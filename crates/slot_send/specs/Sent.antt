-- The law of a send: what is planned and done is the definition's. The octets of its frames, given the job's, are those that `sar_cut` writes (Sent.antt of
-- `rules_portions`).
use Rattle.std.specs.Prelude.{◌≡◌, refl, List, [], ℕ, ◌-◌, ◌≤◌, length, Ok}
use Rattle.std.proofs.Common.{arith}
use Rattle.std.proofs.lemmas.List.Edits.{sets}
use Rattle.sar_cut.specs.Cutting.{frame_count, frames_of}
use Rattle.sar_cut.specs.CutLaws.{Allowed}
use Rattle.channel.specs.declared.Answer.TheVariants.{Frames}
use Rattle.channel.specs.declared.Served.{Served}
use Rattle.channel.specs.declared.Slot.{Slot}
use Rattle.channel.specs.declared.Table.{Table}
use Rattle.definition.specs.Mem.{written}
use Rattle.definition.specs.Table.{width, put_slot, with_peer_credits, count_sent}
use Rattle.definition.specs.Ending.{end, end_of, gave}
use Rattle.definition.proofs.Ending.{parts_none, written_none}
use Rattle.definition.specs.Frames.{planned}
use Rattle.rules_portions.proofs.Sent.{frames_octets, frames-sizes}

-- what is planned and done, from what the plan's tests allow
pub sends : (t : Table) (s : ℕ) (x : Slot) (sdu out : List ℕ) {n octets : ℕ} {r : Served} {out' : List ℕ}
    → Allowed (length sdu) x.peer.mtu x.peer.mps x.peer.credits (length out) n octets
    → r ≡ gave (Frames x.link n) (put_slot t s (count_sent n (with_peer_credits (x.peer.credits - n) x))) octets
    → out' ≡ sets out 0 (frames_of x.peer.cid x.peer.mps sdu)
    → end r [] out' [] ≡ end_of t sdu [] out [] (planned t s x (length sdu) (Ok (record { n = n; octets = octets })))
unfolding end_of planned written
sends t s x sdu out a e o =
    let w : 2 ≤ x.peer.mps = omega (arith, a.wide) in
    rw (
      e,
      o,
      a.frames,
      a.long,
      frames_octets x.peer.cid x.peer.mps sdu [] w (frame_count (length sdu) x.peer.mps) refl,
      frames-sizes x.peer.cid x.peer.mps sdu w (frame_count (length sdu) x.peer.mps) refl,
      parts_none sdu (width t) s [],
      written_none sdu [] [],
    )
