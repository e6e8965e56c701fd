-- A send's work on one slot, put into the table, is what the definition's send leaves; and of the slot it changes the peer's credits and what is counted of sends alone.
use Rattle.std.specs.Prelude.{◌≡◌, Bool, ℕ, ◌≤◌, length, Result, Ok, Err}
use Rattle.std.proofs.Math.Path.{refl, sym}
use Rattle.std.proofs.Common.{ap, ◌∙◌, arith}
use Rattle.std.proofs.Math.Bool.{true, false, not}
use mathlib.Core.List.{List, []}
use Rattle.lists.specs.Choose.{choose}
use Rattle.sar_cut.specs.declared.Framed.{Framed}
use Rattle.sar_cut.specs.Cutting.{plan_send}
use Rattle.sar_cut.proofs.CutLaws.{plan_allowed}
use Rattle.codes.specs.declared.Refusal.{Refusal}
use Rattle.channel.specs.declared.Answer.TheVariants.{Refused}
use Rattle.channel.specs.declared.Slot.{Slot}
use Rattle.channel.specs.declared.Table.{Table}
use Rattle.definition.specs.Table.{slot_at, put_slot, is_connected, count_blocked_send, blocks, blocked_by, is_open}
use Rattle.definition.specs.Outcome.{refuse}
use Rattle.definition.specs.Ending.{End, end, end_of, gave}
use Rattle.definition.proofs.Ending.{end-still, end-slot}
use Rattle.definition.specs.Frames.{unsent, planned, sent_on}
use Rattle.slot_work.specs.Work.{put_same, sending_as, blocked_sends}
use Rattle.slot_send.specs.Sending.{Work, work, worked, planned_from, sent_from}
use Rattle.slot_send.specs.Sent.{sends}

-- the work put into slot s of the table
abbrev pub into : Table → (slot : ℕ) → Work → End
into t s w = end (gave w.gave.answer (put_slot t s w.gave.slot) w.gave.octets) [] w.out []

module _ (t : Table) (s : ℕ) (sdu out : List ℕ) where
  refused-into : (r : Refusal) → end_of t sdu [] out [] (refuse t r) ≡ into t s (work (worked (Refused r) (slot_at t s) 0) out)
  refused-into r = end-still t t (Refused r) sdu [] out [] ∙ ap (λ (u : Table). end (gave (Refused r) u 0) [] out []) (sym (put_same t s))

  -- one that is blocked changes its tally
  unsent-into : (r : Refusal) → end_of t sdu [] out [] (unsent t s (slot_at t s) r) ≡ into t s (work (worked (Refused r) (blocked_by r (slot_at t s)) 0) out)
  unfolding choose
  unsent-into r = go (blocks r) refl
    where
      go : (b : Bool) → blocks r ≡ b → end_of t sdu [] out [] (unsent t s (slot_at t s) r) ≡ into t s (work (worked (Refused r) (blocked_by r (slot_at t s)) 0) out)
      go true e = rw e (end-slot t t s (count_blocked_send (slot_at t s)) (Refused r) sdu [] out [])
      go false e = rw e (refused-into r)

  planned-into : (p : Result Framed Refusal) → plan_send (length sdu) (slot_at t s).peer.mtu (slot_at t s).peer.mps (slot_at t s).peer.credits (length out) ≡ p
      → end_of t sdu [] out [] (planned t s (slot_at t s) (length sdu) p) ≡ into t s (planned_from (slot_at t s) sdu out p)
  unfolding planned planned_from
  planned-into (Err r) e = unsent-into r
  planned-into (Ok framed) e =
      let x = slot_at t s in
      sym (sends t s x sdu out (plan_allowed (length sdu) x.peer.mtu x.peer.mps x.peer.credits (length out) framed.n framed.octets e) refl refl)

  -- THE WORK ON THE SLOT IS THE DEFINITION'S SEND
  pub sent-into : end_of t sdu [] out [] (sent_on t s (length sdu) (length out)) ≡ into t s (sent_from (slot_at t s) sdu out)
  unfolding sent_from choose
  sent-into = go (not (is_connected (slot_at t s).state)) (is_open (slot_at t s).job) refl refl
    where
      go : (b o : Bool) → not (is_connected (slot_at t s).state) ≡ b → is_open (slot_at t s).job ≡ o → end_of t sdu [] out [] (sent_on t s (length sdu) (length out)) ≡ into t s (sent_from (slot_at t s) sdu out)
      go true o e f = rw e (refused-into _)
      go false true e f = rw (e, f) (refused-into _)
      go false false e f = rw (e, f) (planned-into _ refl)

-- of a slot a send changes the peer's credits and what is counted of sends alone
planned_sends : (x : Slot) (sdu out : List ℕ) (p : Result Framed Refusal) → (planned_from x sdu out p).gave.slot ≡ sending_as (planned_from x sdu out p).gave.slot x
unfolding planned_from
planned_sends x sdu out (Err r) = blocked_sends r x
planned_sends x sdu out (Ok framed) = refl

pub sends_alone : (x : Slot) (sdu out : List ℕ) → (sent_from x sdu out).gave.slot ≡ sending_as (sent_from x sdu out).gave.slot x
unfolding sent_from choose
sends_alone x sdu out = go (not (is_connected x.state)) (is_open x.job) refl refl
  where
    go : (b o : Bool) → not (is_connected x.state) ≡ b → is_open x.job ≡ o → (sent_from x sdu out).gave.slot ≡ sending_as (sent_from x sdu out).gave.slot x
    go true o e f = rw e
    go false true e f = rw (e, f)
    go false false e f = rw (e, f) (planned_sends x sdu out (plan_send (length sdu) x.peer.mtu x.peer.mps x.peer.credits (length out)))

-- its frames are no more octets than the output has
planned-within : (x : Slot) (sdu out : List ℕ) (p : Result Framed Refusal) → plan_send (length sdu) x.peer.mtu x.peer.mps x.peer.credits (length out) ≡ p → (planned_from x sdu out p).gave.octets ≤ length out
unfolding planned_from
planned-within x sdu out (Err r) e = omega arith
planned-within x sdu out (Ok framed) e =
    let a = plan_allowed (length sdu) x.peer.mtu x.peer.mps x.peer.credits (length out) framed.n framed.octets e in
    rw a.long a.holds

pub sent-within : (x : Slot) (sdu out : List ℕ) → (sent_from x sdu out).gave.octets ≤ length out
unfolding sent_from choose
sent-within x sdu out = go (not (is_connected x.state)) (is_open x.job) refl refl
  where
    go : (b o : Bool) → not (is_connected x.state) ≡ b → is_open x.job ≡ o → (sent_from x sdu out).gave.octets ≤ length out
    go true o e f = rw e (omega arith)
    go false true e f = rw (e, f) (omega arith)
    go false false e f = rw (e, f) (planned-within x sdu out _ refl)
