-- A send lowers the peer's credits by the frames that it writes, a start by those that it sets aside, which a cancel in time returns, and a take books the grant that it
-- tells (Credits.antt). Carried by the plan (crate sar_cut) and
-- by the account's own rule (crate credit).
use Rattle.std.specs.Prelude.{◌≡◌, refl, false, ℕ, zero, suc, ◌+◌, ◌-◌, ◌≤◌, min, None, Option, Some, Result, Ok, Err}
use Rattle.std.proofs.Common.{sym, ap, ◌∙◌, subst, arith}
use Rattle.std.proofs.lemmas.Bool.{false≢true}
use borrow.Author.Tests.{ltb-true, ltb-false, eqb-true, eqb-false, not-false}
use Rattle.lists.specs.Choose.{choose, if_cases}
use Rattle.credit.specs.declared.CreditFlowControl.{CreditFlowControl}
use Rattle.credit.specs.Account.{grant_of}
use Rattle.sar_cut.specs.declared.Framed.{Framed}
use Rattle.sar_cut.specs.Cutting.{frame_count, frames_length, plan_send}
use Rattle.sar_cut.proofs.CutLaws.{count-holds, plan_allowed}
use Rattle.sar_join.specs.Joining.{idle}
use Rattle.channel.specs.declared.Answer.TheVariants.{Done}
use Rattle.channel.specs.declared.ChannelState.TheVariants.{Connected, Disconnecting}
use Rattle.channel.specs.declared.Slot.{Slot}
use Rattle.channel.specs.declared.Table.{Table}
use Rattle.definition.specs.Table.{slot_at, put_slot, in_state, with_assembly, with_job, with_tallies, no_job, no_tallies, blocks, is_connected, is_open}
use Rattle.definition.specs.Outcome.{Outcome, leaving}
use Rattle.definition.specs.Frames.{later_frames, frames, send, planned, receive, oldest, taken, grant_in}
use Rattle.definition.specs.Portions.{start_planned, start_job, cancel_job}
use Rattle.definition.specs.Calls.{bare, decide, serve}
use Rattle.definition.proofs.Tells.{connected-is}
use Rattle.rules.proofs.Forms.{gate_refusals}
use Rattle.rules_steps.specs.Credits.{LaterFrames, none, more, AllFrames, first, sent, SendsAs, EverySend, started, StartsAs, EveryStart, returns, leaves, CancelsAs, EveryCancel, grants, grants_none, none_waits, short, TakesAs, EveryTake}
use Rattle.rules_steps.specs.Credits as Credits
use Rattle.codes.specs.declared.Refusal.{Refusal}

-- ---- what is written is n frames

later-frames : (cid mps l n from : ℕ) → LaterFrames cid n (later_frames cid mps l n from)
unfolding later_frames
later-frames cid mps l zero from = none
later-frames cid mps l (suc n) from = more (later-frames cid mps l n (from + min mps (l - from)))

all_frames : (cid mps l n : ℕ) → AllFrames cid l (suc n) (frames cid mps l (suc n))
unfolding frames
all_frames cid mps l n =
    let p : ℕ = min l (mps - 2) in
    let e : n ≡ suc n - 1 = omega arith in
    first (subst (λ (k : ℕ). LaterFrames cid n (later_frames cid mps l k p)) e (later-frames cid mps l n p))

some_frames : (cid mps l n : ℕ) → 1 ≤ n → AllFrames cid l n (frames cid mps l n)
some_frames cid mps l zero h = absurd (omega arith)
some_frames cid mps l (suc n) h = all_frames cid mps l n

-- ---- send

module _ (t : Table) (s l out : ℕ) where
  abbrev x : Slot
  x = slot_at t s

  abbrev N : Outcome → Type 0
  N o = SendsAs t s l o

  planned_sends : x.state ≡ Connected → is_open x.job ≡ false → (p : Result Framed Refusal) → plan_send l x.peer.mtu x.peer.mps x.peer.credits out ≡ p → N (planned t s x l p)
  unfolding planned
  planned_sends on shut (Err r) e = if_cases N (blocks r) (λ b. Credits.Sends.blocked on (eqb-true _ 14 b)) (λ b. Credits.Sends.refused (eqb-false _ 14 b))
  planned_sends on shut (Ok framed) e =
      let a = plan_allowed l x.peer.mtu x.peer.mps x.peer.credits out framed.n framed.octets e in
      let some : 1 ≤ frame_count l x.peer.mps = (count-holds l x.peer.mps (let w = a.wide in omega arith)).some in
      sent on shut a.frames (some_frames x.peer.cid x.peer.mps l framed.n (let f = a.frames in omega arith)) (let f = a.frames in let c = a.paid in omega arith)

  send_sends : N (send t s l out)
  unfolding send
  send_sends = gate_refusals N t _ _ _ _ (λ r h. Credits.Sends.refused (λ e. omega arith)) (λ _. if_cases N _ (λ _. Credits.Sends.refused (λ e. omega arith))
      (λ e. if_cases N _ (λ _. Credits.Sends.refused (λ e. omega arith)) (λ f. planned_sends (connected-is x.state (not-false _ e)) f _ refl)))

pub every-send : EverySend
unfolding decide bare
every-send t s sdu w count room out job = send_sends t s count out

-- ---- start and cancel

module _ (t : Table) (s : ℕ) where
  abbrev z : Slot
  z = slot_at t s

  module _ (l size : ℕ) where
    abbrev B : Outcome → Type 0
    B o = StartsAs t s l o

    planned_starts : z.state ≡ Connected → is_open z.job ≡ false → (p : Result Framed Refusal) → plan_send l z.peer.mtu z.peer.mps z.peer.credits (frames_length l z.peer.mps) ≡ p
        → B (start_planned t s z l size p)
    unfolding start_planned
    planned_starts on shut (Err r) e = if_cases B (blocks r) (λ b. Credits.Starts.blocked on (eqb-true _ 14 b)) (λ b. Credits.Starts.refused (eqb-false _ 14 b))
    planned_starts on shut (Ok framed) e =
        let a = plan_allowed l z.peer.mtu z.peer.mps z.peer.credits (frames_length l z.peer.mps) framed.n framed.octets e in
        if_cases B _ (λ _. Credits.Starts.refused (λ e. omega arith)) (λ _. started on shut a.frames (let f = a.frames in let c = a.paid in omega arith))

    start_starts : B (start_job t s l size)
    unfolding start_job
    start_starts =
        gate_refusals B t _ _ _ _ (λ r h. Credits.Starts.refused (λ e. omega arith))
        (λ _. if_cases B _ (λ _. Credits.Starts.refused (λ e. omega arith))
        (λ e. if_cases B _ (λ _. Credits.Starts.refused (λ e. omega arith)) (λ f. planned_starts (connected-is z.state (not-false _ e)) f _ refl)))

  abbrev C : Outcome → Type 0
  C o = CancelsAs t s o

  -- leaving Connected resets the tallies
  left-leaves : Credits.Cancels t s Done (put_slot t s (with_tallies no_tallies (with_job no_job (with_assembly idle (in_state (Disconnecting false) z))))) → C (leaving t s z (Disconnecting false) Done)
  unfolding choose
  left-leaves h = h

  cancel_cancels : (room : ℕ) → C (cancel_job t room s)
  unfolding cancel_job
  cancel_cancels room =
      gate_refusals C t _ _ _ _ (λ r h. Credits.Cancels.refused)
      (λ _. if_cases C _ (λ _. Credits.Cancels.refused)
      (λ e. if_cases C _ (λ _. Credits.Cancels.refused)
      (λ f. if_cases C _ (λ g. returns (connected-is z.state (not-false _ e)) (not-false _ f) (eqb-true _ _ g)) (λ g. left-leaves (leaves (connected-is z.state (not-false _ e)) (not-false _ f) (eqb-false _ _ g))))))

pub every-start : EveryStart
unfolding decide bare serve
every-start t s l v w count room out job = start_starts t s l out

pub every_cancel : EveryCancel
unfolding decide bare serve
every_cancel t s v w count room out job = cancel_cancels t s room

-- ---- take

-- a grant is never of 0 credits
grant_some : (a : CreditFlowControl) (n : ℕ) → grant_of a ≡ Some n → 1 ≤ n
unfolding grant_of
grant_some a n =
    if_cases (λ g. g ≡ Some n → 1 ≤ n) _ (λ _ e. nothing e)
    (λ f. if_cases (λ g. g ≡ Some n → 1 ≤ n) _ (λ _ e. let z : a.received ≡ n = cc in let y = eqb-false a.received 0 f in omega arith) (λ _ e. nothing e))
  where
    nothing : None ≡ Some n → 1 ≤ n
    nothing e = let no : ◌≡◌ {A = ℕ} 0 1 = cc in absurd (omega arith)

-- what is granted: the policy's grant in Connected, nothing elsewhere
granted-is : (x : Slot) (P : Option ℕ → Type 0) → (x.state ≡ Connected → P (grant_of x.account)) → ((x.state ≡ Connected → ⊥) → P None) → P (grant_in x)
unfolding grant_in
granted-is x P f g = if_cases P _ (λ e. f (connected-is x.state e)) (λ e. g (λ on. false≢true (sym e ∙ ap is_connected on)))

module _ (t : Table) (s size : ℕ) where
  abbrev y : Slot
  y = slot_at t s

  abbrev T : Outcome → Type 0
  T o = TakesAs t s size o

  on_grant : oldest y ≤ size → y.state ≡ Connected → (g : Option ℕ) → grant_of y.account ≡ g → T (taken t s y g)
  unfolding taken
  on_grant fits on None e = grants_none fits (λ _. e)
  on_grant fits on (Some n) e = grants fits on e (grant_some y.account n e)

  off_grant : oldest y ≤ size → (y.state ≡ Connected → ⊥) → T (taken t s y None)
  unfolding taken
  off_grant fits off = grants_none fits (λ on. absurd (off on))

  receive_takes : (room signal : ℕ) → T (receive t room signal s size)
  unfolding receive
  receive_takes room signal =
      gate_refusals T t _ _ _ _ (λ r h. Credits.Takes.refused (λ e. omega arith))
      (λ _. if_cases T _ (λ _. Credits.Takes.refused (λ e. omega arith))
      (λ _. if_cases T _ (λ e. none_waits (eqb-true y.queue.count 0 e))
      (λ c. if_cases T _ (λ e. short (eqb-false y.queue.count 0 c) (ltb-true size (oldest y) e))
      (λ e.
      let fits = ltb-false size (oldest y) e in
      granted-is y (λ g. T (taken t s y g)) (λ on. on_grant fits on _ refl) (off_grant fits)))))

pub every_take : EveryTake
unfolding decide bare serve
every_take t s v w count room out job = receive_takes t s job room out
