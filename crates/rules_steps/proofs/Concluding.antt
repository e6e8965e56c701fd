-- The laws of Consequences.antt: each is read off the rows of the table (Steps.antt), which every call keeps to (Stepping.antt).
use Rattle.std.specs.Prelude.{◌≡◌, refl, Bool, true, false, ◌&&◌, ◌||◌, not, List, ℕ, suc, ◌+◌, ◌-◌, ◌≤◌, ◌<◌, eqb, Some}
use Rattle.std.proofs.Common.{sym, ap, ◌∙◌, le_refl, add-zero, arith, eq-eqb, ltb-true, ltb-false}
use Rattle.std.proofs.lemmas.Bool.{false≢true}
use Rattle.codes.specs.declared.LeCreditConnResultCode.{LeCreditConnResultCode}
use Rattle.channel.specs.declared.Answer.{Answer}
use Rattle.channel.specs.declared.Answer.TheVariants.{Portion}
use Rattle.channel.specs.declared.ChannelState.{ChannelState}
use Rattle.channel.specs.declared.ChannelState.TheVariants.{Connected, Disconnecting}
use Rattle.channel.specs.declared.L2capChannelConfig.{L2capChannelConfig}
use Rattle.channel.specs.declared.OpenJob.{OpenJob}
use Rattle.channel.specs.declared.Table.{Table}
use Rattle.definition.specs.Table.{is_disconnected, is_connected, is_disconnecting, is_due, cid_of, is_open}
use Rattle.definition.specs.Calls.{Window, Call, frame, portions, plain, Request, accepts, rejects, creates, gives, releases, announces}
use Rattle.rules_steps.specs.Steps.{Seen, is, free, Row, is_number, gives-slot, Step, row, stay, link_down, stay_down, overrun, stay-frame, send, stay-send, portion, stay-portion, Fills, part, full, last}
use Rattle.rules_steps.specs.Steps as Steps
use Rattle.rules_steps.proofs.Stepping.{every_step}
use Rattle.rules_steps.specs.Consequences.{Accepted, AcceptNeedsHold, Rejected, RejectNeedsHold, GiveUpLeavesHeld, LastReleaseLeaves, ReleaseKeepsState, Left, OverrunLeaves, AnnouncedOnce, responded, requested, Announced, AnnounceMarks, Waits, CreateWaits, LinkStays, no_fall, fall, set_aside, CreditsFallBySend, kept, given, sent, framed, ended, BudgetKept, JobMoves, same-job, close_job, begin-job, fill-job, cancel_job_lem, JobMovedBy, Leaves, left, freed, LeavingReturnsNone}
use Rattle.rules_steps.specs.Concluding.{Stays}

-- an answer 0 about a slot does not leave it as it was
not-stay : {ok : Bool} (i s : ℕ) → i ≡ s → ok ≡ true → (ok && eqb i s) ≡ false → ⊥
not-stay i s q e f = false≢true (sym f ∙ ap (λ (b : Bool). b && eqb i s) e ∙ eq-eqb i s q)

-- ---- each call's rows. The slot that the call names is a variable of its own, and q says that it is this one.

module _ {t : Table} {i : ℕ} {v w : Window} where
  accepted : {s : ℕ} {c : L2capChannelConfig} {a : Answer} {x y : Seen} → i ≡ s → Step t i (plain (accepts s c) v w) a x y → is_number 0 a ≡ true → Accepted x y
  accepted q (row Steps.accept) e = record { was = refl; held = omega arith; now = refl }
  accepted {s = s} q (stay f) e = absurd (not-stay i s q e f)

  rejected : {s : ℕ} {result : LeCreditConnResultCode} {a : Answer} {x y : Seen} → i ≡ s → Step t i (plain (rejects s (Some result)) v w) a x y → is_number 0 a ≡ true → Rejected x y
  rejected q (row (Steps.reject {h = h})) e = record { was = refl; held = omega arith; now = (let z : h ≡ suc h - 1 = omega arith in ap free z) }
  rejected {s = s} q (stay f) e = absurd (not-stay i s q e f)

  -- a held Connected slot
  given_up : {s : ℕ} {a : Answer} {x y : Seen} → i ≡ s → Step t i (plain (gives s) v w) a x y → x.state ≡ Connected → 1 ≤ x.hold → (y ≡ x) × (is_number 0 a ≡ false)
  given_up q (row Steps.give_attempt) k h = absurd (false≢true (ap is_connected k))
  given_up q (row Steps.give_failed) k h = absurd (false≢true (ap is_connected k))
  given_up q (row Steps.give_unheld) k h = absurd (omega arith)
  given_up {s = s} {a = a} q (stay f) k h = (refl, sym (and-true (is_number 0 a)) ∙ ap (λ (b : Bool). is_number 0 a && b) (sym (eq-eqb i s q)) ∙ f)
    where
      and-true : (b : Bool) → (b && true) ≡ b
      and-true true = refl
      and-true false = refl

  last_released : {s : ℕ} {a : Answer} {x y : Seen} → i ≡ s → Step t i (plain (releases s) v w) a x y → is_number 0 a ≡ true → x.state ≡ Connected → y.hold ≡ 0 → y.state ≡ Disconnecting false
  last_released q (row Steps.release_last) e k z = refl
  last_released q (row (Steps.release {h = h} f)) e k z = absurd (false≢true (sym f ∙ ap (λ (n : ChannelState). is_connected n && eqb h 0) k ∙ eq-eqb h 0 z))
  last_released {s = s} q (stay f) e k z = absurd (not-stay i s q e f)

  released : {s : ℕ} {a : Answer} {x y : Seen} → Step t i (plain (releases s) v w) a x y → 1 ≤ y.hold → y.state ≡ x.state
  released (row Steps.release_last) h = absurd (omega arith)
  released (row (Steps.release f)) h = refl
  released (stay f) h = refl

  announced : {a : Answer} {x y : Seen} → Step t i (plain announces v w) a x y → x.state ≡ Disconnecting true → (y ≡ x) × (gives-slot i a ≡ false)
  announced (row (Steps.announce_response f)) k = absurd (false≢true (ap is_disconnecting k))
  announced (row (Steps.announce_request f)) k = absurd (false≢true (ap marked k))
    where
      marked : ChannelState → Bool
      marked k = not (is_due k)
  announced (stay f) k = (refl, f)

  marks : {a : Answer} {x y : Seen} → Step t i (plain announces v w) a x y → gives-slot i a ≡ true → Announced x y
  marks (row (Steps.announce_response f)) e = responded
  marks (row (Steps.announce_request f)) e = requested
  marks (stay f) e = absurd (false≢true (sym f ∙ e))

  waits : {link spsm : ℕ} {c : L2capChannelConfig} {a : Answer} {x y : Seen} → Step t i (plain (creates link spsm c) v w) a x y → gives-slot i a ≡ true → Waits t link x y
  waits (row (Steps.create f)) e = record { was = refl; unheld = refl; now = refl }
  waits (stay f) e = absurd (false≢true (sym f ∙ e))

overran : {t : Table} {i cid link : ℕ} {payload : List ℕ} {a : Answer} {x y : Seen} → cid_of i ≡ cid → Step t i (frame link cid payload) a x y → (is_number 9 a || is_number 19 a) ≡ true → Left x y
overran q (overrun f) e = record { was = refl; now = refl }
overran {i = i} {cid = cid} q (stay-frame f) e = absurd (false≢true (sym f ∙ ap (λ (b : Bool). b && eqb (cid_of i) cid) e ∙ eq-eqb (cid_of i) cid q))

-- ---- all rows: while a slot is in use its link lasts

row-link : {t : Table} {i : ℕ} {r : Request} {a : Answer} {x y : Seen} → Row t i r a x y → is_disconnected x.state ≡ false → is_disconnected y.state ≡ false → y.link ≡ x.link
row-link (Steps.pend f) u z = refl
row-link (Steps.clear f) u z = absurd (false≢true (sym z))
row-link Steps.accept u z = refl
row-link Steps.reject u z = absurd (false≢true (sym z))
row-link Steps.drop-pending u z = absurd (false≢true (sym z))
row-link (Steps.drop_hold f g) u z = refl
row-link (Steps.create f) u z = absurd (false≢true (sym u))
row-link (Steps.open_down f) u z = absurd (false≢true (sym z))
row-link Steps.open_left_by_peer u z = absurd (false≢true (sym z))
row-link Steps.open_left u z = absurd (false≢true (sym z))
row-link Steps.open_failed u z = absurd (false≢true (sym z))
row-link Steps.open_held u z = refl
row-link Steps.give_attempt u z = absurd (false≢true (sym z))
row-link Steps.give_failed u z = absurd (false≢true (sym z))
row-link Steps.give_unheld u z = absurd (false≢true (sym z))
row-link (Steps.hold f) u z = refl
row-link Steps.release_last u z = refl
row-link (Steps.release f) u z = refl
row-link Steps.leave u z = refl
row-link Steps.leave_cid u z = refl
row-link (Steps.announce_response f) u z = absurd (false≢true (sym z))
row-link (Steps.announce_request f) u z = refl
row-link (Steps.peer-leaves c b n f) u z = refl
row-link (Steps.peer_confirms c b n) u z = absurd (false≢true (sym z))
row-link (Steps.peer_asks c b f g) u z = absurd (false≢true (sym u))
row-link (Steps.peer_accepts c b f n g) u z = refl
row-link (Steps.peer_below c b f n g) u z = refl
row-link (Steps.peer_refuses c b f n) u z = refl
row-link (Steps.unmatched c f) u z = absurd (false≢true (sym z))
row-link (Steps.peer_grants c b f n) u z = refl
row-link (Steps.peer_overflows c b f n) u z = refl
row-link (Steps.begin o s n) u z = refl
row-link (Steps.cancel_unsent o f) u z = refl
row-link (Steps.cancel_sent o f) u z = refl

step_link : {t : Table} {i : ℕ} {c : Call} {a : Answer} {x y : Seen} → Step t i c a x y → is_disconnected x.state ≡ false → is_disconnected y.state ≡ false → y.link ≡ x.link
step_link (row p) u z = row-link p u z
step_link (stay f) u z = refl
step_link (link_down f) u z = absurd (false≢true (sym z))
step_link (stay_down f) u z = refl
step_link (overrun f) u z = refl
step_link (stay-frame f) u z = refl
step_link (send f) u z = refl
step_link (stay-send f) u z = refl
step_link (portion o f) u z = refl
step_link (stay-portion f) u z = refl

-- ---- all rows: while a slot stays Connected

-- (p: the peer's credits; a: those set aside; n: as many as are given, set aside or used)
rises : (p n : ℕ) → p ≤ p + n
rises p n = omega arith

granted : (p a n : ℕ) → p + n + a ≡ p + a + n
granted p a n = omega arith

shut_none : (j : OpenJob) → is_open j ≡ false → j.aside ≡ 0
shut_none j e = let h = ltb-false 0 j.aside e in omega arith

put_aside : (p n : ℕ) {a : ℕ} → a ≡ 0 → n ≤ p → p - n + n ≡ p + a
put_aside p n z h = omega arith

used : (p a n : ℕ) → n ≤ p → p - n + a + n ≡ p + a
used p a n h = omega arith

used-one : (p a : ℕ) → 0 < a → p + (a - 1) + 1 ≡ p + a
used-one p a h = omega arith

used-last : (p a : ℕ) → p + 0 + a ≡ p + a
used-last p a = omega arith

same : {c : Call} {a : Answer} {k k' : ChannelState} {h h' l p : ℕ} {j : OpenJob} → Stays c a (is k h l p j) (is k' h' l p j)
same {p = p} = record { credits = no_fall (le_refl p); budget = kept refl }

row_stays : {t : Table} {i : ℕ} {r : Request} {v w : Window} {a : Answer} {x y : Seen} → Row t i r a x y → is_connected x.state ≡ true → is_connected y.state ≡ true → Stays (plain r v w) a x y
row_stays (Steps.pend f) u z = absurd (false≢true u)
row_stays (Steps.clear f) u z = absurd (false≢true u)
row_stays Steps.accept u z = absurd (false≢true u)
row_stays Steps.reject u z = absurd (false≢true u)
row_stays Steps.drop-pending u z = absurd (false≢true u)
row_stays (Steps.drop_hold f g) u z = same
row_stays (Steps.create f) u z = absurd (false≢true u)
row_stays (Steps.open_down f) u z = absurd (false≢true z)
row_stays Steps.open_left_by_peer u z = absurd (false≢true u)
row_stays Steps.open_left u z = absurd (false≢true u)
row_stays Steps.open_failed u z = absurd (false≢true u)
row_stays Steps.open_held u z = same
row_stays Steps.give_attempt u z = absurd (false≢true u)
row_stays Steps.give_failed u z = absurd (false≢true u)
row_stays Steps.give_unheld u z = absurd (false≢true z)
row_stays (Steps.hold f) u z = same
row_stays Steps.release_last u z = absurd (false≢true z)
row_stays (Steps.release f) u z = same
row_stays Steps.leave u z = absurd (false≢true z)
row_stays Steps.leave_cid u z = absurd (false≢true z)
row_stays (Steps.announce_response f) u z = absurd (false≢true u)
row_stays (Steps.announce_request f) u z = absurd (false≢true u)
row_stays (Steps.peer-leaves c b n f) u z = absurd (false≢true z)
row_stays (Steps.peer_confirms c b n) u z = absurd (false≢true u)
row_stays (Steps.peer_asks c b f g) u z = absurd (false≢true u)
row_stays (Steps.peer_accepts c b f n g) u z = absurd (false≢true u)
row_stays (Steps.peer_below c b f n g) u z = absurd (false≢true u)
row_stays (Steps.peer_refuses c b f n) u z = absurd (false≢true u)
row_stays (Steps.unmatched c f) u z = absurd (false≢true u)
row_stays (Steps.peer_grants c b f n) u z = record { credits = no_fall (rises _ _); budget = given c b (granted _ _ _) refl }
row_stays (Steps.peer_overflows c b f n) u z = absurd (false≢true z)
row_stays (Steps.begin {j = j} o s n) u z = record { credits = set_aside n; budget = kept (put_aside _ _ (shut_none j o) n) }
row_stays (Steps.cancel_unsent o f) u z = record { credits = no_fall (rises _ _); budget = kept (add-zero _) }
row_stays (Steps.cancel_sent o f) u z = absurd (false≢true z)

portion-stays : {s l p k h h' : ℕ} {octets : List ℕ} {w : Window} {whole : Bool} {j j' : OpenJob} → is_open j ≡ true → Fills j k whole j'
    → Stays (portions s octets w) (Portion l k whole) (is Connected h l p j) (is Connected h' l p j')
portion-stays {p = p} o part = record { credits = no_fall (le_refl p); budget = kept refl }
portion-stays {p = p} {j = j} o (full n) = record { credits = no_fall (le_refl p); budget = framed (used-one _ _ (ltb-true 0 j.aside o)) }
portion-stays {p = p} o last = record { credits = no_fall (le_refl p); budget = ended (used-last _ _) }

step_stays : {t : Table} {i : ℕ} {c : Call} {a : Answer} {x y : Seen} → Step t i c a x y → is_connected x.state ≡ true → is_connected y.state ≡ true → Stays c a x y
step_stays (row p) u z = row_stays p u z
step_stays (stay f) u z = same
step_stays (link_down f) u z = absurd (false≢true z)
step_stays (stay_down f) u z = same
step_stays (overrun f) u z = absurd (false≢true z)
step_stays (stay-frame f) u z = same
step_stays (send f) u z = record { credits = fall f; budget = sent (used _ _ _ f) }
step_stays (stay-send f) u z = same
step_stays (portion o f) u z = portion-stays o f
step_stays (stay-portion f) u z = same

-- ---- all rows: Connected is left

row-leaves : {t : Table} {i : ℕ} {r : Request} {a : Answer} {x y : Seen} → Row t i r a x y → is_connected x.state ≡ true → is_connected y.state ≡ false → Leaves x y
row-leaves (Steps.pend f) u z = absurd (false≢true u)
row-leaves (Steps.clear f) u z = absurd (false≢true u)
row-leaves Steps.accept u z = absurd (false≢true u)
row-leaves Steps.reject u z = absurd (false≢true u)
row-leaves Steps.drop-pending u z = absurd (false≢true u)
row-leaves (Steps.drop_hold f g) u z = absurd (false≢true (sym f ∙ u))
row-leaves (Steps.create f) u z = absurd (false≢true u)
row-leaves (Steps.open_down f) u z = freed
row-leaves Steps.open_left_by_peer u z = absurd (false≢true u)
row-leaves Steps.open_left u z = absurd (false≢true u)
row-leaves Steps.open_failed u z = absurd (false≢true u)
row-leaves Steps.open_held u z = absurd (false≢true (sym z))
row-leaves Steps.give_attempt u z = absurd (false≢true u)
row-leaves Steps.give_failed u z = absurd (false≢true u)
row-leaves Steps.give_unheld u z = freed
row-leaves (Steps.hold f) u z = absurd (false≢true (sym z ∙ u))
row-leaves Steps.release_last u z = left
row-leaves (Steps.release f) u z = absurd (false≢true (sym z ∙ u))
row-leaves Steps.leave u z = left
row-leaves Steps.leave_cid u z = left
row-leaves (Steps.announce_response f) u z = absurd (false≢true u)
row-leaves (Steps.announce_request f) u z = absurd (false≢true u)
row-leaves (Steps.peer-leaves c b n f) u z = left
row-leaves (Steps.peer_confirms c b n) u z = absurd (false≢true u)
row-leaves (Steps.peer_asks c b f g) u z = absurd (false≢true u)
row-leaves (Steps.peer_accepts c b f n g) u z = absurd (false≢true u)
row-leaves (Steps.peer_below c b f n g) u z = absurd (false≢true u)
row-leaves (Steps.peer_refuses c b f n) u z = absurd (false≢true u)
row-leaves (Steps.unmatched c f) u z = absurd (false≢true u)
row-leaves (Steps.peer_grants c b f n) u z = absurd (false≢true (sym z))
row-leaves (Steps.peer_overflows c b f n) u z = left
row-leaves (Steps.begin o s n) u z = absurd (false≢true (sym z))
row-leaves (Steps.cancel_unsent o f) u z = absurd (false≢true (sym z))
row-leaves (Steps.cancel_sent o f) u z = left

step_leaves : {t : Table} {i : ℕ} {c : Call} {a : Answer} {x y : Seen} → Step t i c a x y → is_connected x.state ≡ true → is_connected y.state ≡ false → Leaves x y
step_leaves (row p) u z = row-leaves p u z
step_leaves (stay f) u z = absurd (false≢true (sym z ∙ u))
step_leaves (link_down f) u z = freed
step_leaves (stay_down f) u z = absurd (false≢true (sym z ∙ u))
step_leaves (overrun f) u z = left
step_leaves (stay-frame f) u z = absurd (false≢true (sym z ∙ u))
step_leaves (send f) u z = absurd (false≢true (sym z))
step_leaves (stay-send f) u z = absurd (false≢true (sym z ∙ u))
step_leaves (portion o f) u z = absurd (false≢true (sym z))
step_leaves (stay-portion f) u z = absurd (false≢true (sym z ∙ u))

-- ---- all rows: the job

row-job : {t : Table} {i : ℕ} {r : Request} {v w : Window} {a : Answer} {x y : Seen} → Row t i r a x y → JobMoves (plain r v w) a y.state x.job y.job
row-job (Steps.pend f) = same-job
row-job (Steps.clear f) = close_job refl
row-job Steps.accept = same-job
row-job Steps.reject = close_job refl
row-job Steps.drop-pending = close_job refl
row-job (Steps.drop_hold f g) = same-job
row-job (Steps.create f) = close_job refl
row-job (Steps.open_down f) = close_job refl
row-job Steps.open_left_by_peer = close_job refl
row-job Steps.open_left = close_job refl
row-job Steps.open_failed = close_job refl
row-job Steps.open_held = same-job
row-job Steps.give_attempt = close_job refl
row-job Steps.give_failed = close_job refl
row-job Steps.give_unheld = close_job refl
row-job (Steps.hold f) = same-job
row-job Steps.release_last = close_job refl
row-job (Steps.release f) = same-job
row-job Steps.leave = close_job refl
row-job Steps.leave_cid = close_job refl
row-job (Steps.announce_response f) = close_job refl
row-job (Steps.announce_request f) = same-job
row-job (Steps.peer-leaves c b n f) = close_job refl
row-job (Steps.peer_confirms c b n) = close_job refl
row-job (Steps.peer_asks c b f g) = close_job refl
row-job (Steps.peer_accepts c b f n g) = same-job
row-job (Steps.peer_below c b f n g) = same-job
row-job (Steps.peer_refuses c b f n) = same-job
row-job (Steps.unmatched c f) = close_job refl
row-job (Steps.peer_grants c b f n) = same-job
row-job (Steps.peer_overflows c b f n) = close_job refl
row-job (Steps.begin o s n) = begin-job o
row-job (Steps.cancel_unsent o f) = cancel_job_lem o f
row-job (Steps.cancel_sent o f) = close_job refl

step_job : {t : Table} {i : ℕ} {c : Call} {a : Answer} {x y : Seen} → Step t i c a x y → JobMoves c a y.state x.job y.job
step_job (row p) = row-job p
step_job (stay f) = same-job
step_job (link_down f) = close_job refl
step_job (stay_down f) = same-job
step_job (overrun f) = close_job refl
step_job (stay-frame f) = same-job
step_job (send f) = same-job
step_job (stay-send f) = same-job
step_job (portion o f) = fill-job o f
step_job (stay-portion f) = same-job

-- ---- the laws

pub accept_needs_hold : AcceptNeedsHold
accept_needs_hold s c v w t fit h count room out job = accepted refl (every_step t fit (plain (accepts s c) v w) count room out job s h)

pub reject_needs_hold : RejectNeedsHold
reject_needs_hold s result v w t fit h count room out job = rejected refl (every_step t fit (plain (rejects s (Some result)) v w) count room out job s h)

pub give_up_leaves_held : GiveUpLeavesHeld
give_up_leaves_held s v w t fit h count room out job = given_up refl (every_step t fit (plain (gives s) v w) count room out job s h)

pub last_release_leaves : LastReleaseLeaves
last_release_leaves s v w t fit h count room out job = last_released refl (every_step t fit (plain (releases s) v w) count room out job s h)

pub release_keeps_state : ReleaseKeepsState
release_keeps_state s v w t fit h count room out job = released (every_step t fit (plain (releases s) v w) count room out job s h)

pub overrun_leaves : OverrunLeaves
overrun_leaves i link payload t fit h count room out job = overran refl (every_step t fit (frame link (cid_of i) payload) count room out job i h)

pub announced_once : AnnouncedOnce
announced_once i v w t fit h count room out job = announced (every_step t fit (plain announces v w) count room out job i h)

pub announce_marks : AnnounceMarks
announce_marks i v w t fit h count room out job = marks (every_step t fit (plain announces v w) count room out job i h)

pub create_waits : CreateWaits
create_waits link spsm i c v w t fit h count room out job = waits (every_step t fit (plain (creates link spsm c) v w) count room out job i h)

pub link_stays : LinkStays
link_stays c i t fit h count room out job = step_link (every_step t fit c count room out job i h)

pub credits_fall_by_send : CreditsFallBySend
credits_fall_by_send c i t fit h count room out job u z = (step_stays (every_step t fit c count room out job i h) u z).credits

pub budget_kept : BudgetKept
budget_kept c i t fit h count room out job u z = (step_stays (every_step t fit c count room out job i h) u z).budget

pub job_moved_by : JobMovedBy
job_moved_by c i t fit h count room out job = step_job (every_step t fit c count room out job i h)

pub leaving_returns_none : LeavingReturnsNone
leaving_returns_none c i t fit h count room out job = step_leaves (every_step t fit c count room out job i h)
