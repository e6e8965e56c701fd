-- What a portion finds. Between two portions of a job any calls may come, on this slot and on others: as long as the slot stays Connected and none of them is a start, a
-- portion or a cancel on it, its job and its peer's CID and MPS are as they were. So of what makes the same frames (`HandedOn` of crate rules_portions) the caller sees
-- to the buffer alone, as document 02 (i) has it.
use Rattle.std.specs.Prelude.{◌≡◌, Bool, List, [], ◌∷◌, ℕ, ◌+◌, ◌≤◌, ◌<◌, length, take}
use Rattle.std.proofs.Math.Path.{refl, ap}
use Rattle.std.proofs.Common.{sym, ◌∙◌, subst, eqb-true}
use Rattle.std.proofs.Math.Bool.{true, false}
use Rattle.std.proofs.lemmas.Bool.{false≢true, eqb-false}
use Rattle.std.proofs.Math.Dec.{eqb}
use Rattle.channel.specs.Limits.{frame_head}
use Rattle.channel.specs.declared.Answer.{Answer}
use Rattle.channel.specs.declared.ChannelState.{ChannelState}
use Rattle.channel.specs.declared.OpenJob.{OpenJob}
use Rattle.channel.specs.declared.Slot.{Slot}
use Rattle.definition.specs.Table.{slot_at, is_connected}
use Rattle.definition.specs.Portions.{buffer_size}
use Rattle.definition.specs.Calls.{Window, Call, jobs}
use Rattle.definition.specs.Run.{State, lent, out_window, job_window, outcome, after, run}
use Rattle.definition.specs.Forms.{Fit}
use Rattle.rules.specs.Run.{AllFit, Reached, next}
use Rattle.rules.proofs.Good.{within, reached-good, same-sizes}
use Rattle.rules_jobs.specs.Peer.{Stays}
use Rattle.rules_jobs.proofs.Peer.{peer_stays_through, stays-now}
use Rattle.rules_portions.specs.Statement.{HandedOn}
use Rattle.rules_slots.proofs.Changes.{change_law}
use Rattle.rules_steps.specs.Consequences.{JobMoves, same-job, close_job, begin-job, fill-job, cancel_job_lem}
use Rattle.rules_steps.proofs.Concluding.{job_moved_by}
use Rattle.rules_steps.specs.Between.{JobCall, NoJobCall, cancelling, giving, starting}

-- a job that moves while its slot is Connected is moved by such a call
moved : {c : Call} {a : Answer} {k : ChannelState} {j j' : OpenJob} → JobMoves c a k j j' → is_connected k ≡ true → ((s : ℕ) → JobCall s c → j' ≡ j) → j' ≡ j
moved same-job e f = refl
moved (close_job z) e f = absurd (false≢true (sym z ∙ e))
moved (begin-job {s = s} o) e f = f s starting
moved (fill-job {s = s} o g) e f = f s giving
moved (cancel_job_lem {s = s} o g) e f = f s cancelling

module _ {s : State} (r : Reached s) (i : ℕ) (h : i < s.table.n) where
  fit : Fit s.table
  fit = record { fits = within (reached-good r) }

  -- a call of another slot's job leaves this one
  elsewhere : {c : Call} (k : ℕ) → JobCall k c → (i ≡ k → ⊥) → slot_at (outcome s c).table i ≡ slot_at s.table i
  elsewhere {c} k starting d = ((change_law s.table fit c _ _ _ _).0 i (λ p. d p.1)).slot
  elsewhere {c} k giving d = ((change_law s.table fit c _ _ _ _).0 i (λ p. d p.1)).slot
  elsewhere {c} k cancelling d = ((change_law s.table fit c _ _ _ _).0 i (λ p. d p.1)).slot

  -- ONE CALL
  pub job-stays : (c : Call) → is_connected (slot_at (after s c).table i).state ≡ true → ¬ JobCall i c → (slot_at (after s c).table i).job ≡ (slot_at s.table i).job
  unfolding after
  job-stays c e none =
      moved (job_moved_by c i s.table fit h (length (jobs s.table c)) (length s.room) (length (lent (out_window c) s.memory)) (length (lent (job_window c) s.memory))) e other
    where
      other : (k : ℕ) → JobCall k c → (slot_at (outcome s c).table i).job ≡ (slot_at s.table i).job
      other k p = go (eqb i k) refl
        where
          go : (b : Bool) → eqb i k ≡ b → (slot_at (outcome s c).table i).job ≡ (slot_at s.table i).job
          go true f = absurd (none (subst (λ (m : ℕ). JobCall m c) (sym (eqb-true i k f)) p))
          go false f = ap (λ (x : Slot). x.job) (elsewhere k p (eqb-false i k f))

-- MANY CALLS
pub job_stays_through : {s : State} → Reached s → (cs : List Call) → AllFit cs → (i : ℕ) → i < s.table.n → Stays i s cs → NoJobCall i cs → (slot_at (run s cs).table i).job ≡ (slot_at s.table i).job
unfolding run
job_stays_through r [] f i h st none = refl
job_stays_through {s} r (c ∷ cs) f i h st none =
    let n : i < (after s c).table.n = rw (same-sizes s c (reached-good r) f.0).n h in
    job_stays_through {s = after s c} (next c r f.0) cs f.1 i n st.1 none.1 ∙ job-stays r i h c (stays-now i (after s c) cs st.1) none.0

-- SO THE BUFFER IS THE CALLER'S PART, AND ALL OF IT: where it is long enough and has the frame that is being filled as the job's last call left it, the next portion finds the job as that call left it.
pub handed_on : {s : State} → Reached s → (cs : List Call) → AllFit cs → (i : ℕ) → i < s.table.n → Stays i s cs → NoJobCall i cs
    → (b : List ℕ) (w : Window) → buffer_size (slot_at s.table i).peer.mps (slot_at s.table i).job.length ≤ length (lent w (run s cs).memory)
    → (0 < (slot_at s.table i).job.filled → take (frame_head + (slot_at s.table i).job.filled) (lent w (run s cs).memory) ≡ take (frame_head + (slot_at s.table i).job.filled) b)
    → HandedOn i s b (run s cs) w
handed_on r cs f i h st none b w z e =
    let p = peer_stays_through r cs f i h st in
    record { job = job_stays_through r cs f i h st none; cid = p.cid; mps = p.mps; size = z; frame = e }
