-- All that the rules need to know of crates sar_join and sar_cut: what the join step and the plan of a send may come to. The only file that names the
-- variants of their answers; it rests on `join_step` and `plan_send` alone.
use Rattle.std.specs.Prelude.{◌≡◌, true, false, ℕ, ◌+◌, ◌-◌, ◌≤◌, ◌<◌, length, Result, Ok, Err}
use Rattle.std.proofs.Math.Path.{refl, ap}
use Rattle.std.proofs.Common.{sym, ◌∙◌, arith}
use mathlib.Core.List.{List, [], ◌∷◌}
use borrow.Author.Tests.{ltb-true, ltb-false, leb-false, eqb-true, eqb-false, eq-eqb, ne_eqb, lt-ltb, le-ltb, lt-leb}
use Rattle.lists.specs.Choose.{choose_true, choose_false, if_cases}
use Rattle.codes.specs.Limits.{size_least}
use Rattle.codes.specs.declared.Refusal.{Refusal}
use Rattle.credit.specs.Account.{received}
use Rattle.sar_join.specs.declared.Assembly.{Assembly}
use Rattle.sar_join.specs.declared.Joined.{Joined}
use Rattle.sar_join.specs.declared.Joined.TheVariants as Joined
use Rattle.sar_join.specs.Joining.{idle, assembled, reached, first_step, join_step}
use Rattle.sar_cut.specs.declared.Framed.{Framed}
use Rattle.sar_cut.specs.Cutting.{frames_length, plan_send}
use Rattle.sar_cut.proofs.CutLaws.{plan_allowed}
use Rattle.channel.specs.declared.Answer.TheVariants.{Done, Refused, Frames}
use Rattle.channel.specs.declared.Slot.{Slot}
use Rattle.channel.specs.declared.Table.{Table}
use Rattle.definition.specs.Mem.{job, put}
use Rattle.definition.specs.Table.{slot_at, is_disconnected, is_connected, with_account, with_assembly, with_queue, count_received, blocks}
use Rattle.definition.specs.Outcome.{Outcome, change}
use Rattle.definition.specs.Frames.{queued, finishing, frames, joined, unsent, planned}
use Rattle.definition.specs.Portions.{start_planned}
use Rattle.rules.specs.Tests.{begun}
use Rattle.rules.proofs.Tests.{begun-live, connected-begun}
use Rattle.rules.specs.Step.{same, use_one, keep, leave, grow, finish, stay, shut, pay, begin, reset, sent, arrived, blocked_send, go, passes, Stepped}
use Rattle.rules.proofs.Forms.{goes_on, ended, stepped_still, stepped_change, stepped_filling}
use Rattle.rules.specs.Join.{Headed, Joins, Plans, Reaches, Sent}

-- Where no assembly is open none of its octets are there.
assembled-is : (a : Assembly) → (a.want ≡ 0 → a.have ≡ 0) → assembled a ≡ a.have
unfolding assembled
assembled-is a closed = if_cases (λ n. n ≡ a.have) _ (λ e. sym (closed (eqb-true a.want 0 e))) (λ _. refl)

module _ (d : ℕ) (a : Assembly) (q k : ℕ) (closed : a.want ≡ 0 → a.have ≡ 0) (mtu : ℕ) where
  reached_joins : (want have : ℕ) → have ≡ a.have + k → want ≤ mtu → Joins mtu d a q k (reached d q want have)
  unfolding reached
  reached_joins want have e h =
      if_cases (Joins mtu d a q k) _ (λ _. refl)
      (λ f. if_cases (Joins mtu d a q k) _ (λ g. (e, ltb-true have want g, h, assembled-is a closed))
      (λ g. if_cases (Joins mtu d a q k) _ (λ _. tt) (λ i. (omega (arith, ltb-false want have f, ltb-false have want g), h, leb-false d q i))))

  pub step_joins : (mps stated : ℕ) (head : List ℕ) → a.want ≤ mtu → Headed a head k → Joins mtu d a q k (join_step mtu mps d a q (length head + k) stated)
  unfolding join_step first_step
  step_joins mps stated head hw headed =
      if_cases (Joins mtu d a q k) _ (λ _. refl)
      (λ _. if_cases (Joins mtu d a q k) _
      (λ e.
      let z : a.want ≡ 0 = eqb-true a.want 0 e in
      let c = closed z in
      if_cases (Joins mtu d a q k) _ (λ _. refl)
      (λ f. if_cases (Joins mtu d a q k) _ (λ _. refl)
      (λ g.
      let long = ltb-false (length head + k) 2 f in
      let both = headed.opens z long in
      reached_joins stated (length head + k - 2) (omega arith) (ltb-false mtu stated g))))
      (λ e.
      let f = headed.joins (eqb-false a.want 0 e) in
      reached_joins a.want (a.have + (length head + k)) (omega arith) hw))

pub plan_passes : (size mtu mps credits out : ℕ) → size_least ≤ mps → Plans (plan_send size mtu mps credits out)
unfolding plan_send
plan_passes size mtu mps credits out wide =
    if_cases Plans _ (λ _. refl)
    (λ _. if_cases Plans _ (λ _. refl)
    (λ _. if_cases Plans _ (λ e. absurd (omega (arith, ltb-true mps size_least e))) (λ _. if_cases Plans _ (λ _. refl) (λ _. if_cases Plans _ (λ _. refl) (λ _. tt)))))

-- ---- the calls that ask them

module _ (t : Table) (k s : ℕ) (h : s < t.n) (l : t.n ≤ length t.slots) (on : is_connected (slot_at t s).state ≡ true) where
  has-begun : begun (slot_at t s).state ≡ true
  has-begun = connected-begun (slot_at t s).state on

  was_live : is_disconnected (slot_at t s).state ≡ false
  was_live = begun-live (slot_at t s).state has-begun

  pub stepped_joined : ((slot_at t s).account.credits ≡ 0 → ⊥) → (j : Result Joined Refusal) → Joins (slot_at t s).mtu t.d (slot_at t s).assembly (slot_at t s).queue.count k j
      → Stepped t k (joined t s (count_received (with_account (received (slot_at t s).account 1) (slot_at t s))) k j)
  unfolding joined
  stepped_joined some (Err r) f = stepped_change t k s _ _ h l (go (goes_on was_live refl refl ended (reset _)) (use_one some) leave shut) _ _ f
  stepped_joined some (Ok (Joined.Assembling a)) f =
      rw f.3 (stepped_change t k s _ _ h l (go (goes_on was_live has-begun refl (λ f. f) (arrived on)) (use_one some) (grow has-begun f.0 f.1 f.2) stay) _ _ refl)
  stepped_joined some (Ok (Joined.Finished len)) f =
      stepped_change t k s _ _ h l (go (goes_on was_live has-begun refl (λ f. f) (arrived on)) (use_one some) (finish has-begun f.0 f.1 f.2) stay) _ _ refl
  stepped_joined some (Ok Joined.Dropped) f = stepped_change t k s _ _ h l (go (goes_on was_live has-begun refl (λ f. f) (arrived on)) (use_one some) leave stay) _ _ refl

  -- what a plan refuses: 14 is counted
  stepped_unsent : (r : Refusal) → passes (Refused r) ≡ true → Stepped t k (unsent t s (slot_at t s) r)
  stepped_unsent r f =
      if_cases (Stepped t k) (blocks r) (λ _. stepped_change t k s _ _ h l (go (goes_on was_live has-begun refl (λ f. f) (blocked_send on)) same keep stay) _ _ f) (λ _. stepped_still t k _ _ f)

  pub stepped_planned : (size : ℕ) (p : Result Framed Refusal) → Plans p → Stepped t k (planned t s (slot_at t s) size p)
  unfolding planned
  stepped_planned size (Err r) f = stepped_unsent r f
  stepped_planned size (Ok framed) f = stepped_change t k s _ _ h l (go (goes_on was_live has-begun refl (λ f. f) (sent framed.n on)) same keep (pay framed.n)) _ _ refl

  -- a start sets aside what the plan counts
  pub stepped_started : (size room : ℕ) (p : Result Framed Refusal) → Plans p
      → plan_send size (slot_at t s).peer.mtu (slot_at t s).peer.mps (slot_at t s).peer.credits (frames_length size (slot_at t s).peer.mps) ≡ p
      → Stepped t k (start_planned t s (slot_at t s) size room p)
  unfolding start_planned
  stepped_started size room (Err r) f e = stepped_unsent r f
  stepped_started size room (Ok framed) f e =
      let a = plan_allowed size (slot_at t s).peer.mtu (slot_at t s).peer.mps (slot_at t s).peer.credits (frames_length size (slot_at t s).peer.mps) framed.n framed.octets e in
      let q = a.frames in
      let w = a.wide in
      let p = a.paid in
      if_cases (Stepped t k) _ (λ _. stepped_still t k _ _ refl)
      (λ _. stepped_filling t k s _ [] h l (go (goes_on was_live has-begun refl (λ f. f) (sent framed.n on)) same keep (begin size framed.n on (omega arith) q (omega arith))) _ _ _ _ refl refl)

pub reaches_first : (mtu mps d : ℕ) (a : Assembly) (q k stated : ℕ) → 2 + k ≤ mps → a.want ≡ 0 → stated ≤ mtu → Reaches d q (join_step mtu mps d a q (2 + k) stated) k stated
unfolding join_step first_step
reaches_first mtu mps d a q k stated w z m =
    choose_false _ _ _ (le-ltb mps (2 + k) w) ∙ choose_true _ _ _ (eq-eqb a.want 0 z) ∙ choose_false _ _ _ (le-ltb (2 + k) 2 (omega arith)) ∙ choose_false _ _ _ (le-ltb mtu stated m)
    ∙ (let e : 2 + k - 2 ≡ k = omega arith in rw e)

pub reaches_next : (mtu mps d : ℕ) (a : Assembly) (q k stated : ℕ) → k ≤ mps → (a.want ≡ 0 → ⊥) → Reaches d q (join_step mtu mps d a q k stated) (a.have + k) a.want
unfolding join_step
reaches_next mtu mps d a q k stated w some = choose_false _ _ _ (le-ltb mps k w) ∙ choose_false _ _ _ (ne_eqb a.want 0 some)

-- An assembly grows; or the job is whole, and a place is free for it.
module _ (t : Table) (s : ℕ) (x : Slot) (k d q have want : ℕ) (j : Result Joined Refusal) (r : Reaches d q j have want) where
  pub joined-part : (x.assembly.want ≡ 0 → x.assembly.have ≡ 0) → have < want
      → joined t s x k j ≡ change t s (with_assembly (record { have = have; want = want }) x) (put x.assembly.have (job 0 k) ∷ []) Done []
  unfolding joined reached
  joined-part closed l =
      ap (joined t s x k) (r ∙ choose_false _ _ _ (le-ltb want have (omega arith)) ∙ choose_true _ _ _ (lt-ltb have want l))
      ∙ ap (λ (n : ℕ). change t s (with_assembly (record { have = have; want = want }) x) (put n (job 0 k) ∷ []) Done []) (assembled-is x.assembly closed)

  pub joined-whole : have ≡ want → q < d → joined t s x k j ≡ change t s (with_queue (queued want x.queue) (with_assembly idle x)) (finishing t x k) Done []
  unfolding joined reached
  joined-whole e l =
      ap (joined t s x k)
      (r ∙ choose_false _ _ _ (le-ltb want have (omega arith)) ∙ choose_false _ _ _ (le-ltb have want (omega arith)) ∙ choose_false _ _ _ (lt-leb d q l))

-- A plan's refusal is the call's, counted or not.
pub unsent-answers : (t : Table) (s : ℕ) (x : Slot) (r : Refusal) → (unsent t s x r).answer ≡ Refused r
unsent-answers t s x r = if_cases (λ (o : Outcome). o.answer ≡ Refused r) (blocks r) (λ _. refl) (λ _. refl)

pub planned-frames : (t : Table) (s : ℕ) (x : Slot) (l out link n : ℕ) → (planned t s x l (plan_send l x.peer.mtu x.peer.mps x.peer.credits out)).answer ≡ Frames link n
    → Sent t s x l out n (planned t s x l (plan_send l x.peer.mtu x.peer.mps x.peer.credits out))
unfolding planned
planned-frames t s x l out link n = by (plan_send l x.peer.mtu x.peer.mps x.peer.credits out) refl
  where
    by : (p : Result Framed Refusal) → plan_send l x.peer.mtu x.peer.mps x.peer.credits out ≡ p → (planned t s x l p).answer ≡ Frames link n → Sent t s x l out n (planned t s x l p)
    by (Err r) e f = let g = unsent-answers t s x r in let z : ◌≡◌ {A = ℕ} 0 1 = cc in absurd (omega arith)
    by (Ok framed) e f =
        let a = plan_allowed l x.peer.mtu x.peer.mps x.peer.credits out framed.n framed.octets e in
        let q : framed.n ≡ n = cc in
        record { wide = a.wide; holds = a.holds; count = sym q ∙ a.frames; out = ap (λ (m : ℕ). frames x.peer.cid x.peer.mps l m) q }
