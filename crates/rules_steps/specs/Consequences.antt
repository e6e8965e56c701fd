-- What the table of steps (Steps.antt) comes to, call by call, in document 01's words: for every table that has its slots, every size, every slot in use. Each law is a type,
-- proved in Concluding.antt.
use Rattle.std.specs.Prelude.{◌≡◌, Bool, true, false, ◌||◌, List, ℕ, ◌+◌, ◌-◌, ◌≤◌, ◌<◌, get_or, Some}
use Rattle.codes.specs.declared.LeCreditConnResultCode.{LeCreditConnResultCode}
use Rattle.signal_headers.specs.Headers.{body_in}
use Rattle.signal_bodies.specs.LeCreditBodies.{le_credit_flow_ind}
use Rattle.signal_forms.specs.declared.LeCreditFlowInd.{LeCreditFlowInd}
use Rattle.channel.specs.declared.Answer.{Answer}
use Rattle.channel.specs.declared.Answer.TheVariants.{Done, Frames, Portion}
use Rattle.channel.specs.declared.ChannelState.{ChannelState}
use Rattle.channel.specs.declared.ChannelState.TheVariants.{Disconnected, Connecting, Connected, PeerDisconnecting, Disconnecting}
use Rattle.channel.specs.declared.L2capChannelConfig.{L2capChannelConfig}
use Rattle.channel.specs.declared.OpenJob.{OpenJob}
use Rattle.channel.specs.declared.Table.{Table}
use Rattle.definition.specs.Table.{slot_at, is_disconnected, is_peer_connecting, is_connected, cid_of, next_id, is_open, no_job}
use Rattle.definition.specs.Portions.{given_out, begun}
use Rattle.definition.specs.Outcome.{Outcome}
use Rattle.definition.specs.Calls.{Window, Call, frame, sends, portions, plain, signals, accepts, rejects, creates, gives, releases, announces, starts, cancels, bare, decide}
use Rattle.definition.specs.Forms.{Fit}
use Rattle.rules_steps.specs.Steps.{Seen, is, seen, free, is_number, gives-slot, Fills}

-- R holds of the answer, and of slot i before and after: of an outcome, and of call c on every table.
abbrev pub Of : Table → Outcome → (i : ℕ) → (Answer → Seen → Seen → Type 0) → Type 0
Of t o i R = R o.answer (seen (slot_at t i)) (seen (slot_at o.table i))

abbrev pub On : (c : Call) (i : ℕ) → (Answer → Seen → Seen → Type 0) → Type 0
On c i R = (t : Table) → Fit t → i < t.n → (count room out job : ℕ) → Of t (decide t (bare t c) count room out job) i R

-- ---- "Accept: .. state (8), hold 0 (22, added)": answered 0, the slot was PeerConnecting and held, and is Connected with the same holds

pub record Accepted (x y : Seen) : Type 0 where
  pub was : is_peer_connecting x.state ≡ true
  pub held : 1 ≤ x.hold
  pub now : y ≡ is Connected x.hold x.link x.credits x.job

abbrev pub AcceptNeedsHold : Type 0
AcceptNeedsHold = (s : ℕ) (c : L2capChannelConfig) (v w : Window) → On (plain (accepts s c) v w) s (λ a x y. is_number 0 a ≡ true → Accepted x y)

-- ---- "Reject: state, hold.": answered 0, the slot was PeerConnecting and held, and is freed with one hold less

pub record Rejected (x y : Seen) : Type 0 where
  pub was : is_peer_connecting x.state ≡ true
  pub held : 1 ≤ x.hold
  pub now : y ≡ free (x.hold - 1)

abbrev pub RejectNeedsHold : Type 0
RejectNeedsHold = (s : ℕ) (result : LeCreditConnResultCode) (v w : Window) → On (plain (rejects s (Some result)) v w) s (λ a x y. is_number 0 a ≡ true → Rejected x y)

-- ---- "Give-up frees .. Connected without holds": a held Connected slot stays as it is, and the answer is not 0

abbrev pub GiveUpLeavesHeld : Type 0
GiveUpLeavesHeld = (s : ℕ) (v w : Window) → On (plain (gives s) v w) s (λ a x y. x.state ≡ Connected → 1 ≤ x.hold → (y ≡ x) × (is_number 0 a ≡ false))

-- ---- "Releasing to hold 0 turns Connected into Disconnecting", not announced yet; and no other release changes the state

abbrev pub LastReleaseLeaves : Type 0
LastReleaseLeaves = (s : ℕ) (v w : Window) → On (plain (releases s) v w) s (λ a x y. is_number 0 a ≡ true → x.state ≡ Connected → y.hold ≡ 0 → y.state ≡ Disconnecting false)

abbrev pub ReleaseKeepsState : Type 0
ReleaseKeepsState = (s : ℕ) (v w : Window) → On (plain (releases s) v w) s (λ a x y. 1 ≤ y.hold → y.state ≡ x.state)

-- ---- "bad SDU length or overrun: Disconnecting", "first frame under 2 octets (added): Disconnecting": from Connected, not announced yet, the holds kept

pub record Left (x y : Seen) : Type 0 where
  pub was : x.state ≡ Connected
  pub now : y ≡ is (Disconnecting false) x.hold x.link x.credits no_job

abbrev pub OverrunLeaves : Type 0
OverrunLeaves = (i link : ℕ) (payload : List ℕ) → On (frame link (cid_of i) payload) i (λ a x y. (is_number 9 a || is_number 19 a) ≡ true → Left x y)

-- ---- "Disconnecting not yet announced (request written .., marked)": an announced disconnect is not announced again

abbrev pub AnnouncedOnce : Type 0
AnnouncedOnce = (i : ℕ) (v w : Window) → On (plain announces v w) i (λ a x y. x.state ≡ Disconnecting true → (y ≡ x) × (gives-slot i a ≡ false))

-- the slot that is given was due, and is freed or marked
pub data Announced : Seen → Seen → Type 0 where
  responded : {id h l p : ℕ} {j : OpenJob} → Announced (is (PeerDisconnecting id) h l p j) (free h)
  requested : {h l p : ℕ} {j : OpenJob} → Announced (is (Disconnecting false) h l p j) (is (Disconnecting true) h l p j)

abbrev pub AnnounceMarks : Type 0
AnnounceMarks = (i : ℕ) (v w : Window) → On (plain announces v w) i (λ a x y. gives-slot i a ≡ true → Announced x y)

-- ---- a create gives a slot that was free, which then waits for the response to the identifier that its request carries (Told.antt)

pub record Waits (t : Table) (link : ℕ) (x y : Seen) : Type 0 where
  pub was : x.state ≡ Disconnected
  pub unheld : x.hold ≡ 0
  pub now : y ≡ is (Connecting (next_id t)) 0 link 0 no_job

abbrev pub CreateWaits : Type 0
CreateWaits = (link spsm i : ℕ) (c : L2capChannelConfig) (v w : Window) (t : Table) → Fit t → i < t.n → (count room out job : ℕ)
    → Of t (decide t (bare t (plain (creates link spsm c) v w)) count room out job) i (λ a x y. gives-slot i a ≡ true → Waits t link x y)

-- ---- every call: while a slot is in use its link stays

abbrev pub LinkStays : Type 0
LinkStays = (c : Call) (i : ℕ) → On c i (λ a x y. is_disconnected x.state ≡ false → is_disconnected y.state ≡ false → y.link ≡ x.link)

-- ---- every call: while a slot stays Connected the peer's credits fall by the frames of a send alone, and by those that a start sets aside

pub data Credits : Call → Answer → (before after : ℕ) → Type 0 where
  no_fall : {c : Call} {a : Answer} {p q : ℕ} → p ≤ q → Credits c a p q
  fall : {s l p n : ℕ} {sdu : List ℕ} {w : Window} → n ≤ p → Credits (sends s sdu w) (Frames l n) p (p - n)
  set_aside : {s len l p n : ℕ} {v w : Window} → n ≤ p → Credits (plain (starts s len) v w) (Frames l n) p (p - n)

abbrev pub CreditsFallBySend : Type 0
CreditsFallBySend = (c : Call) (i : ℕ) → On c i (λ a x y. is_connected x.state ≡ true → is_connected y.state ≡ true → Credits c a x.credits y.credits)

-- ---- every call: while a slot stays Connected, what the peer gave and no frame has used, set aside or not. A send and a frame that a portion fills use it, 0x16 adds to it;
-- a start, a portion that fills no frame, a cancel and every other call leave it as it is.

abbrev pub unused : Seen → ℕ
unused x = x.credits + x.job.aside

pub data Budget : Call → Answer → Seen → Seen → Type 0 where
  kept : {c : Call} {a : Answer} {x y : Seen} → unused y ≡ unused x → Budget c a x y
  given : {link : ℕ} {listening central : Bool} {pdu : List ℕ} {ind : LeCreditFlowInd} {v w : Window} {x y : Seen} → get_or pdu 0 0 ≡ 0x16
      → le_credit_flow_ind (body_in pdu) ≡ Some ind → unused y ≡ unused x + ind.credits → y.job ≡ x.job → Budget (plain (signals link listening central pdu) v w) Done x y
  sent : {s l n : ℕ} {sdu : List ℕ} {w : Window} {x y : Seen} → unused y + n ≡ unused x → Budget (sends s sdu w) (Frames l n) x y
  framed : {s l k : ℕ} {octets : List ℕ} {w : Window} {x y : Seen} → unused y + 1 ≡ unused x → Budget (portions s octets w) (Portion l k true) x y
  -- the last frame closes the job: in a run it uses the last credit that was set aside (`portion-credits` of crate rules)
  ended : {s l k : ℕ} {octets : List ℕ} {w : Window} {x y : Seen} → unused y + x.job.aside ≡ unused x → Budget (portions s octets w) (Portion l k true) x y

abbrev pub BudgetKept : Type 0
BudgetKept = (c : Call) (i : ℕ) → On c i (λ a x y. is_connected x.state ≡ true → is_connected y.state ≡ true → Budget c a x y)

-- ---- every call: a slot's job is changed by a start, a portion and a cancel alone, and it is closed where the slot is not Connected afterwards

pub data JobMoves : Call → Answer → ChannelState → OpenJob → OpenJob → Type 0 where
  same-job : {c : Call} {a : Answer} {k : ChannelState} {j : OpenJob} → JobMoves c a k j j
  close_job : {c : Call} {a : Answer} {k : ChannelState} {j : OpenJob} → is_connected k ≡ false → JobMoves c a k j no_job
  begin-job : {s len l n : ℕ} {v w : Window} {j : OpenJob} → is_open j ≡ false → JobMoves (plain (starts s len) v w) (Frames l n) Connected j (begun len n)
  fill-job : {s l k : ℕ} {octets : List ℕ} {w : Window} {whole : Bool} {j j' : OpenJob} → is_open j ≡ true → Fills j k whole j'
      → JobMoves (portions s octets w) (Portion l k whole) Connected j j'
  cancel_job_lem : {s : ℕ} {v w : Window} {j : OpenJob} → is_open j ≡ true → given_out j ≡ 0 → JobMoves (plain (cancels s) v w) Done Connected j no_job

abbrev pub JobMovedBy : Type 0
JobMovedBy = (c : Call) (i : ℕ) → On c i (λ a x y. JobMoves c a y.state x.job y.job)

-- ---- every call: "leaving Connected [closes the job], which returns none": the peer's credits stay as they were, or the slot is freed

pub data Leaves : Seen → Seen → Type 0 where
  left : {k k' : ChannelState} {h h' l p : ℕ} {j : OpenJob} → Leaves (is k h l p j) (is k' h' l p no_job)
  freed : {k : ChannelState} {h l p : ℕ} {j : OpenJob} → Leaves (is k h l p j) (free h)

abbrev pub LeavingReturnsNone : Type 0
LeavingReturnsNone = (c : Call) (i : ℕ) → On c i (λ a x y. is_connected x.state ≡ true → is_connected y.state ≡ false → Leaves x y)
