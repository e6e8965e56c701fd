-- What a send does to one slot: the tests are the definition's (`sent_on` of Frames.antt), and the frames stand as octets.
use Rattle.std.specs.Prelude.{not, List, ℕ, ◌-◌, length, Result, Ok, Err}
use Rattle.std.proofs.lemmas.List.Edits.{sets}
use Rattle.codes.specs.declared.Refusal.TheVariants.{ChannelClosed, JobOpen}
use Rattle.sar_cut.specs.declared.Framed.{Framed}
use Rattle.sar_cut.specs.Cutting.{frames_of, plan_send}
use Rattle.channel.specs.declared.Answer.TheVariants.{Refused, Frames}
use Rattle.channel.specs.declared.Slot.{Slot}
use Rattle.definition.specs.Table.{when◌then◌else◌, is_connected, with_peer_credits, count_sent, blocked_by, is_open}
use Rattle.slot_work.specs.declared.Worked.{Worked}
pub use Rattle.slot_work.specs.Work.{worked}
use Rattle.codes.specs.declared.Refusal.{Refusal}

-- what work on a slot leaves: what it gave, and the output
pub record Work : Type 0 where
  pub gave : Worked
  pub out : List ℕ

abbrev pub work : Worked → (out : List ℕ) → Work
work w out = record { gave = w; out = out }

unfoldable pub planned_from : Slot → (sdu out : List ℕ) → Result Framed Refusal → Work
planned_from x sdu out (Err r) = work (worked (Refused r) (blocked_by r x) 0) out
planned_from x sdu out (Ok framed) =
    work (worked (Frames x.link framed.n) (count_sent framed.n (with_peer_credits (x.peer.credits - framed.n) x)) framed.octets) (sets out 0 (frames_of x.peer.cid x.peer.mps sdu))

unfoldable pub sent_from : Slot → (sdu out : List ℕ) → Work
sent_from x sdu out =
    when not (is_connected x.state) then work (worked (Refused ChannelClosed) x 0) out
    else when is_open x.job then work (worked (Refused JobOpen) x 0) out
    else planned_from x sdu out (plan_send (length sdu) x.peer.mtu x.peer.mps x.peer.credits (length out))
