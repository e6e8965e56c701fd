-- What a portion makes of one slot, as data: its tests are the definition's (`portion_on` of Portions.antt). And the octets that it writes: a header where a
-- frame begins, then the portion's behind those that stand in the buffer.
use Rattle.std.specs.Prelude.{◌≡◌, refl, Bool, true, false, ◌||◌, not, List, [], ◌++◌, ℕ, ◌+◌, ◌-◌, eqb, ltb}
use Rattle.std.proofs.Common.{sym, ap, ◌∙◌, append-nil, arith, eqb-true}
use Rattle.std.proofs.lemmas.List.Edits.{sets}
use Rattle.lists.specs.Choose.{choose}
use Rattle.lists.specs.Both.{and_left}
use Rattle.octets.specs.Octets.{part, le16}
use Rattle.octets.specs.Sets.{sets-append}
use Rattle.codes.specs.declared.Refusal.TheVariants.{NoRoom, NotFound, ChannelClosed, WrongLength}
use Rattle.channel.specs.Limits.{frame_head}
use Rattle.channel.specs.declared.Answer.TheVariants.{Portion}
use Rattle.channel.specs.declared.OpenJob.{OpenJob}
use Rattle.channel.specs.declared.Slot.{Slot}
use Rattle.definition.specs.Mem.{fill, fills, written}
use Rattle.definition.specs.Table.{when◌then◌else◌, is_connected, is_open, with_job, no_job}
use Rattle.definition.specs.Ending.{itself}
use Rattle.definition.specs.Frames.{header}
use Rattle.definition.specs.Portions.{given_out, buffer_size, frame_size, taking, full_with, filled_by, begins, filled_from, filled_with, frame_out}
use Rattle.slot_portion.specs.Filled.{Filled, stays}

-- The job once so many octets more are in a frame of that size: `filled_by`, of a frame's size and what is taken.
abbrev pub filled_to : OpenJob → (size taken : ℕ) → OpenJob
filled_to j size taken =
    when not (eqb (j.filled + taken) size) then record { length = j.length; taken = j.taken + taken; filled = j.filled + taken; aside = j.aside }
    else when eqb (given_out j + size) (j.length + 2) || eqb j.aside 1 then no_job
    else record { length = j.length; taken = j.taken + taken; filled = 0; aside = j.aside - 1 }

unfoldable pub portioned_of : Slot → (count : ℕ) → Filled
portioned_of x count =
    let mps = x.peer.mps in
    record {
      answer = Portion x.link (taking mps x.job count) (full_with mps x.job count);
      slot = with_job (filled_by mps x.job count) x;
      at = filled_from mps x.job count;
      out = filled_with x.peer.cid mps x.job count;
      octets = frame_out mps x.job count;
    }

unfoldable pub portion_of : Slot → (count size : ℕ) → Filled
portion_of x count size =
    when not (is_connected x.state) then stays x ChannelClosed
    else when not (is_open x.job) then stays x NotFound
    else when ltb size (buffer_size x.peer.mps x.job.length) then stays x NoRoom
    else when ltb (x.job.length - x.job.taken) count then stays x WrongLength
    else portioned_of x count

-- ---- what it writes

-- a frame's header is written by its two numbers
pub header-sets : (buffer : List ℕ) (cid p : ℕ) → sets (sets buffer 0 (le16 p)) 2 (le16 cid) ≡ sets buffer 0 (header cid p)
header-sets buffer cid p = sym (sets-append buffer 0 (le16 p) (le16 cid))

-- THE HEADER WHERE A FRAME BEGINS, AND THE PORTION'S OCTETS BEHIND THOSE OF THE FRAME
pub filled_octets : (cid mps : ℕ) (j : OpenJob) (count : ℕ) (jobs buffer : List ℕ)
    → written itself jobs [] (filled_from mps j count) (filled_with cid mps j count) buffer
    ≡ sets (choose (begins mps j count) (sets buffer 0 (header cid (frame_size mps j))) buffer) (frame_head + j.filled) (part jobs 0 (taking mps j count))
unfolding written fills fill choose
filled_octets cid mps j count jobs buffer = go (begins mps j count) refl
  where
    go : (b : Bool) → begins mps j count ≡ b
        → written itself jobs [] (filled_from mps j count) (filled_with cid mps j count) buffer
        ≡ sets (choose (begins mps j count) (sets buffer 0 (header cid (frame_size mps j))) buffer) (frame_head + j.filled) (part jobs 0 (taking mps j count))
    go true e =
        let f : j.filled ≡ 0 = eqb-true j.filled 0 (and_left (eqb j.filled 0) _ e) in
        let h = header cid (frame_size mps j) in
        let p = part jobs 0 (taking mps j count) in
        let g : 4 ≡ frame_head + j.filled = omega (arith, f) in
        rw e (ap (λ (r : List ℕ). sets buffer 0 (h ++ r)) (append-nil p) ∙ sets-append buffer 0 h p ∙ ap (λ (k : ℕ). sets (sets buffer 0 h) k p) g)
    go false e = rw e (ap (sets buffer (frame_head + j.filled)) (append-nil (part jobs 0 (taking mps j count))))
