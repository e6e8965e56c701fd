-- What a start makes of one slot, as data: its tests are the definition's (`start_on` of Portions.antt). And the laws by which the code asks for its plan and
-- writes the head of the first frame.
use Rattle.std.specs.Prelude.{◌≡◌, not, List, [], ◌∷◌, ◌++◌, ℕ, ◌-◌, ◌≤◌, ltb, Result, Ok, Err}
use Rattle.std.proofs.Common.{sym, ◌∙◌, arith}
use Rattle.std.proofs.lemmas.List.Edits.{sets}
use Rattle.octets.specs.Octets.{le16}
use Rattle.octets.specs.Sets.{sets-append}
use Rattle.codes.specs.Limits.{size_least}
use Rattle.codes.specs.declared.Refusal.TheVariants.{NoRoom, ChannelClosed, JobOpen}
use Rattle.sar_cut.specs.declared.Framed.{Framed}
use Rattle.sar_cut.specs.Cutting.{frame_count, frames_length, longest_job, plan_send}
use Rattle.sar_cut.proofs.CutLaws.{split}
use Rattle.sar_cut.proofs.CutLaws.{count_small, plan_above_mtu, plan_too_long, plan_bad_mps, plan_busy, plan_frames}
use Rattle.channel.specs.declared.Answer.TheVariants.{Frames}
use Rattle.channel.specs.declared.Slot.{Slot}
use Rattle.definition.specs.Mem.{given}
use Rattle.definition.specs.Table.{when◌then◌else◌, is_connected, is_open, with_peer_credits, with_job, count_sent, blocked_by}
use Rattle.definition.specs.Frames.{first_header}
use Rattle.definition.specs.Portions.{longest, buffer_size, begun}
use Rattle.slot_portion.specs.Filled.{Filled, stays}
use Rattle.codes.specs.declared.Refusal.{Refusal}

unfoldable pub start_planned_of : Slot → (l size : ℕ) → Result Framed Refusal → Filled
start_planned_of x l size (Err r) = stays (blocked_by r x) r
start_planned_of x l size (Ok framed) =
    when ltb size (buffer_size x.peer.mps l) then stays x NoRoom
    else record {
      answer = Frames x.link framed.n;
      slot = with_job (begun l framed.n) (count_sent framed.n (with_peer_credits (x.peer.credits - framed.n) x));
      at = 0;
      out = given (first_header x.peer.cid (longest x.peer.mps l) l) ∷ [];
      octets = 0;
    }

unfoldable pub start_of : Slot → (l size : ℕ) → Filled
start_of x l size =
    when not (is_connected x.state) then stays x ChannelClosed
    else when is_open x.job then stays x JobOpen
    else start_planned_of x l size (plan_send l x.peer.mtu x.peer.mps x.peer.credits (frames_length l x.peer.mps))

-- ---- an output that the frames of any job fit

abbrev pub enough : ℕ
enough = 1048576

module _ (l mtu mps credits : ℕ) where
  frames_fit : l ≤ longest_job → mps ≤ 65535 → frames_length l mps ≤ enough
  unfolding frames_length
  frames_fit h p = omega (arith, count_small l mps)

  pub plan_enough : mps ≤ 65535 → plan_send l mtu mps credits enough ≡ plan_send l mtu mps credits (frames_length l mps)
  plan_enough p =
      split l mtu
      (λ fits. split l longest_job
      (λ short. split size_least mps
      (λ wide. split (frame_count l mps) credits
      (λ paid. let h = frames_fit short p in
      sym (plan_frames l mtu mps credits enough fits short wide paid h) ∙ plan_frames l mtu mps credits (frames_length l mps) fits short wide paid (omega arith))
      (λ h. sym (plan_busy l mtu mps credits enough fits short wide h) ∙ plan_busy l mtu mps credits (frames_length l mps) fits short wide h))
      (λ h. sym (plan_bad_mps l mtu mps credits enough fits short h) ∙ plan_bad_mps l mtu mps credits (frames_length l mps) fits short h))
      (λ h. sym (plan_too_long l mtu mps credits enough fits h) ∙ plan_too_long l mtu mps credits (frames_length l mps) fits h))
      (λ h. sym (plan_above_mtu l mtu mps credits enough h) ∙ plan_above_mtu l mtu mps credits (frames_length l mps) h)

-- the head of a first frame is written by its three numbers
pub first-sets : (buffer : List ℕ) (cid p l : ℕ) → sets (sets (sets buffer 0 (le16 p)) 2 (le16 cid)) 4 (le16 l) ≡ sets buffer 0 (first_header cid p l)
first-sets buffer cid p l = sym (sets-append buffer 0 (le16 p) (le16 cid ++ le16 l) ∙ sets-append (sets buffer 0 (le16 p)) 2 (le16 cid) (le16 l))
