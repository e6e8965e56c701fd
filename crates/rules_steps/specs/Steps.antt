-- Which steps a slot can make, as one table: by call and answer the slot before and the slot after, with its holds, its identifiers, its link, the peer's credits and the
-- job that is handed over in portions. Document 01, 'Slots', 'Signals' and 'Cutting, joining, credits'; document 02 (i), (ii). Proved in Stepping.antt; what it comes to call by call is in Consequences.antt.
use Rattle.std.specs.Prelude.{◌≡◌, Bool, true, false, ◌&&◌, ◌||◌, not, List, ℕ, suc, ◌+◌, ◌-◌, ◌≤◌, ◌<◌, min, eqb, leb, ltb, get_or, None, Option, Some, Result, Ok, Err}
use Rattle.codes.specs.declared.LeCreditConnResultCode.{LeCreditConnResultCode}
use Rattle.codes.specs.Codes.{result_number}
use Rattle.codes.specs.declared.Refusal.{Refusal}
use Rattle.codes.specs.declared.Refusal.TheVariants as Refusal
use Rattle.signal_headers.specs.Headers.{headers_of, body_in}
use Rattle.signal_headers.specs.declared.BadHeader.{BadHeader}
use Rattle.signal_headers.specs.declared.BadHeader.TheVariants.{Cut, Past}
use Rattle.signal_bodies.specs.Bodies.{disconnection_req, disconnection_res}
use Rattle.signal_bodies.specs.LeCreditBodies.{le_credit_conn_req, le_credit_conn_res, le_credit_flow_ind}
use Rattle.signal_forms.specs.declared.DisconnectionReq.{DisconnectionReq}
use Rattle.signal_forms.specs.declared.DisconnectionRes.{DisconnectionRes}
use Rattle.signal_forms.specs.declared.LeCreditConnReq.{LeCreditConnReq}
use Rattle.signal_forms.specs.declared.LeCreditConnRes.{LeCreditConnRes}
use Rattle.signal_forms.specs.declared.LeCreditFlowInd.{LeCreditFlowInd}
use Rattle.channel.specs.Limits.{holds_most, credits_most, size_least}
use Rattle.channel.specs.declared.Answer.{Answer}
use Rattle.channel.specs.declared.Answer.TheVariants.{Done, Refused, At, Link, Opened, Due, Frames, Job, Attention, Number, Event, Portion}
use Rattle.channel.specs.declared.ChannelState.{ChannelState}
use Rattle.channel.specs.declared.ChannelState.TheVariants.{Disconnected, Connecting, PeerConnecting, Connected, ConnectFailed, PeerDisconnecting, Disconnecting}
use Rattle.channel.specs.declared.L2capChannelConfig.{L2capChannelConfig}
use Rattle.channel.specs.declared.OpenJob.{OpenJob}
use Rattle.channel.specs.declared.Slot.{Slot}
use Rattle.channel.specs.declared.Table.{Table}
use Rattle.definition.specs.Table.{slot_at, found, is_disconnected, is_connecting, is_peer_connecting, is_connected, is_disconnecting, is_free, pending_of, unheld_pending_of, attempt_by, connected_to, uses_peer, due_slot, index, cid_of, next_id, is_registered, is_open, no_job}
use Rattle.definition.specs.Portions.{given_out, begun}
use Rattle.definition.specs.Outcome.{Outcome}
use Rattle.definition.specs.Calls.{Window, Call, frame, sends, portions, down, plain, Request, register, signals, pends, rejects_all, accepts, rejects, drops, creates, opens, gives, holds, releases, leaves, leaves_cid, announces, takes, starts, cancels, attends, asks, sends_signal, writes, bare, decide}
use Rattle.definition.specs.Numbers.{answer_number}
use Rattle.definition.specs.Forms.{Fit}

-- ---- what is seen of a slot: state, holds, link, the peer's credits, the job that is handed over in portions

pub record Seen : Type 0 where
  pub state : ChannelState
  pub hold : ℕ
  pub link : ℕ
  pub credits : ℕ
  pub job : OpenJob

abbrev pub is : ChannelState → (hold link credits : ℕ) → OpenJob → Seen
is k h l p j = record { state = k; hold = h; link = l; credits = p; job = j }

abbrev pub seen : Slot → Seen
seen x = is x.state x.hold x.link x.peer.credits x.job

-- "Freed means Disconnected and all numbers but the hold count reset."
abbrev pub free : ℕ → Seen
free h = is Disconnected h 0 0 no_job

-- ---- the rows. i is the slot's number; k any state, h holds, l the slot's link, p the peer's credits, j the job. "The lowest" is `found` (Table.antt of the definition).

pub data Row (t : Table) (i : ℕ) : Request → Answer → Seen → Seen → Type 0 where
  -- "Next pending takes the lowest PeerConnecting slot of the link; held already → 22"
  pend : {id l p : ℕ} {j : OpenJob} {up : Bool} → found (pending_of l) t ≡ i → Row t i (pends l up) (At (index i)) (is (PeerConnecting id) 0 l p j) (is (PeerConnecting id) 1 l p j)
  -- "the link's lowest PeerConnecting slot without holds gets response 4 and is freed"
  clear : {id l p : ℕ} {j : OpenJob} → found (unheld_pending_of l) t ≡ i → Row t i (rejects_all l) (At (index i)) (is (PeerConnecting id) 0 l p j) (free 0)
  -- "Accept: .. state (8), hold 0 (22, added)."
  accept : {id h l p : ℕ} {j : OpenJob} {c : L2capChannelConfig} → Row t i (accepts i c) (Link l) (is (PeerConnecting id) (suc h) l p j) (is Connected (suc h) l p j)
  -- "Reject: state, hold."
  reject : {id h l p : ℕ} {j : OpenJob} {result : LeCreditConnResultCode} → Row t i (rejects i (Some result)) (Link l) (is (PeerConnecting id) (suc h) l p j) (free h)
  -- "Dropping a pending: when Connected nothing ..; else the hold falls by one, and PeerConnecting is freed."
  drop-pending : {id h l p : ℕ} {j : OpenJob} → Row t i (drops i) Done (is (PeerConnecting id) (suc h) l p j) (free h)
  drop_hold : {k : ChannelState} {h l p : ℕ} {j : OpenJob} → is_connected k ≡ false → is_peer_connecting k ≡ false → Row t i (drops i) Done (is k (suc h) l p j) (is k h l p j)
  -- a create: the lowest free slot, which then waits for the response to the next identifier
  create : {l spsm l' p : ℕ} {j : OpenJob} {c : L2capChannelConfig} → found is_free t ≡ i → Row t i (creates l spsm c) (At (index i)) (is Disconnected 0 l' p j) (is (Connecting (next_id t)) 0 l 0 no_job)
  -- "Opened query: .. link down or disconnecting → 18, freed; failed → 17, freed; .. Connected → hold."
  open_down : {k : ChannelState} {h l p : ℕ} {j : OpenJob} → is_disconnected k ≡ false → Row t i (opens i l false) (Refused Refusal.Disconnected) (is k h l p j) (free h)
  open_left_by_peer : {id h l p : ℕ} {j : OpenJob} → Row t i (opens i l true) (Refused Refusal.Disconnected) (is (PeerDisconnecting id) h l p j) (free h)
  open_left : {a : Bool} {h l p : ℕ} {j : OpenJob} → Row t i (opens i l true) (Refused Refusal.Disconnected) (is (Disconnecting a) h l p j) (free h)
  open_failed : {r : LeCreditConnResultCode} {h l p : ℕ} {j : OpenJob} → Row t i (opens i l true) (Refused (Refusal.ConnectError r)) (is (ConnectFailed r) h l p j) (free h)
  open_held : {l p : ℕ} {j : OpenJob} → Row t i (opens i l true) Opened (is Connected 0 l p j) (is Connected 1 l p j)
  -- "Give-up frees Connecting, ConnectFailed, or Connected without holds"
  give_attempt : {id h l p : ℕ} {j : OpenJob} → Row t i (gives i) Done (is (Connecting id) h l p j) (free h)
  give_failed : {r : LeCreditConnResultCode} {h l p : ℕ} {j : OpenJob} → Row t i (gives i) Done (is (ConnectFailed r) h l p j) (free h)
  give_unheld : {l p : ℕ} {j : OpenJob} → Row t i (gives i) Done (is Connected 0 l p j) (free 0)
  -- "Adding a hold at 255, or releasing at 0, gives 22. Releasing to hold 0 turns Connected into Disconnecting"
  hold : {k : ChannelState} {h l p : ℕ} {j : OpenJob} → h < holds_most → Row t i (holds i) Done (is k h l p j) (is k (h + 1) l p j)
  release_last : {l p : ℕ} {j : OpenJob} → Row t i (releases i) Done (is Connected 1 l p j) (is (Disconnecting false) 0 l p no_job)
  release : {k : ChannelState} {h l p : ℕ} {j : OpenJob} → (is_connected k && eqb h 0) ≡ false → Row t i (releases i) Done (is k (suc h) l p j) (is k h l p j)
  -- "so does a disconnect by slot or by CID, which does nothing in other states"
  leave : {h l p : ℕ} {j : OpenJob} → Row t i (leaves i) Done (is Connected h l p j) (is (Disconnecting false) h l p no_job)
  leave_cid : {h l p : ℕ} {j : OpenJob} → Row t i (leaves_cid (cid_of i)) Done (is Connected h l p j) (is (Disconnecting false) h l p no_job)
  -- "PeerDisconnecting (response written, freed) or Disconnecting not yet announced (request written with the next identifier, marked)"
  announce_response : {id h l p : ℕ} {j : OpenJob} → found due_slot t ≡ i → Row t i announces (Due l (index i)) (is (PeerDisconnecting id) h l p j) (free h)
  announce_request : {h l p : ℕ} {j : OpenJob} → found due_slot t ≡ i → Row t i announces (Due l (index i)) (is (Disconnecting false) h l p j) (is (Disconnecting true) h l p j)
  -- 0x06: "slot with that CID, this link, not Disconnected → PeerDisconnecting"
  peer-leaves : {k : ChannelState} {h l p : ℕ} {j : OpenJob} {listening central : Bool} {pdu : List ℕ} {req : DisconnectionReq} → get_or pdu 0 0 ≡ 0x06
      → disconnection_req (body_in pdu) ≡ Some req → req.dcid ≡ cid_of i → is_disconnected k ≡ false
      → Row t i (signals l listening central pdu) Done (is k h l p j) (is (PeerDisconnecting (get_or pdu 1 0)) h l p no_job)
  -- 0x07: "SCID names a Disconnecting slot of this link: freed"
  peer_confirms : {a : Bool} {h l p : ℕ} {j : OpenJob} {listening central : Bool} {pdu : List ℕ} {res : DisconnectionRes} → get_or pdu 0 0 ≡ 0x07
      → disconnection_res (body_in pdu) ≡ Some res → res.scid ≡ cid_of i
      → Row t i (signals l listening central pdu) Done (is (Disconnecting a) h l p j) (free h)
  -- 0x14: "Else the lowest free slot becomes PeerConnecting." The request's MTU and MPS are at least 23 (document 02).
  peer_asks : {l l' p : ℕ} {j : OpenJob} {central : Bool} {pdu : List ℕ} {req : LeCreditConnReq} → get_or pdu 0 0 ≡ 0x14 → le_credit_conn_req (body_in pdu) ≡ Some req
      → found is_free t ≡ i → size_least ≤ min req.mtu req.mps → Row t i (signals l true central pdu) Done (is Disconnected 0 l' p j) (is (PeerConnecting (get_or pdu 1 0)) 0 l req.credits no_job)
  -- 0x15: "matched to the lowest Connecting slot with that identifier and link"; row 17: "a response leaves ConnectFailed";
  -- row 8: "unmatched connect response frees all Connecting slots of that link"; "a good response below either [least] leaves the slot Disconnecting, its numbers stored" (document 02)
  peer_accepts : {h l p : ℕ} {j : OpenJob} {listening central : Bool} {pdu : List ℕ} {res : LeCreditConnRes} → get_or pdu 0 0 ≡ 0x15 → le_credit_conn_res (body_in pdu) ≡ Some res
      → found (attempt_by l (get_or pdu 1 0)) t ≡ i → result_number res.result ≡ 0 → size_least ≤ min res.mtu res.mps
      → Row t i (signals l listening central pdu) Done (is (Connecting (get_or pdu 1 0)) h l p j) (is Connected h l res.credits j)
  peer_below : {h l p : ℕ} {j : OpenJob} {listening central : Bool} {pdu : List ℕ} {res : LeCreditConnRes} → get_or pdu 0 0 ≡ 0x15 → le_credit_conn_res (body_in pdu) ≡ Some res
      → found (attempt_by l (get_or pdu 1 0)) t ≡ i → result_number res.result ≡ 0 → min res.mtu res.mps < size_least
      → Row t i (signals l listening central pdu) (Refused Refusal.InvalidValue) (is (Connecting (get_or pdu 1 0)) h l p j) (is (Disconnecting false) h l res.credits j)
  peer_refuses : {h l p : ℕ} {j : OpenJob} {listening central : Bool} {pdu : List ℕ} {res : LeCreditConnRes} → get_or pdu 0 0 ≡ 0x15 → le_credit_conn_res (body_in pdu) ≡ Some res
      → found (attempt_by l (get_or pdu 1 0)) t ≡ i → ¬ (result_number res.result ≡ 0)
      → Row t i (signals l listening central pdu) (Refused (Refusal.ConnectError res.result)) (is (Connecting (get_or pdu 1 0)) h l p j) (is (ConnectFailed res.result) h l p j)
  unmatched : {id h l p : ℕ} {j : OpenJob} {listening central : Bool} {pdu : List ℕ} → get_or pdu 0 0 ≡ 0x15 → t.n ≤ found (attempt_by l (get_or pdu 1 0)) t
      → Row t i (signals l listening central pdu) (Refused Refusal.NotFound) (is (Connecting id) h l p j) (free h)
  -- 0x16: "first Connected slot of this link with that peer CID. A sum above 65,535: Disconnecting, credits kept." It "counts credits set aside".
  peer_grants : {h l p : ℕ} {j : OpenJob} {listening central : Bool} {pdu : List ℕ} {ind : LeCreditFlowInd} → get_or pdu 0 0 ≡ 0x16 → le_credit_flow_ind (body_in pdu) ≡ Some ind
      → found (connected_to l ind.cid) t ≡ i → p + j.aside + ind.credits ≤ credits_most
      → Row t i (signals l listening central pdu) Done (is Connected h l p j) (is Connected h l (p + ind.credits) j)
  peer_overflows : {h l p : ℕ} {j : OpenJob} {listening central : Bool} {pdu : List ℕ} {ind : LeCreditFlowInd} → get_or pdu 0 0 ≡ 0x16 → le_credit_flow_ind (body_in pdu) ≡ Some ind
      → found (connected_to l ind.cid) t ≡ i → credits_most < p + j.aside + ind.credits
      → Row t i (signals l listening central pdu) (Refused Refusal.InvalidValue) (is Connected h l p j) (is (Disconnecting false) h l p no_job)
  -- "The sender states the SDU length first, gets n credits set aside"; 24: "for a second send while a job is open"
  begin : {h l p n len : ℕ} {j : OpenJob} → is_open j ≡ false → 1 ≤ n → n ≤ p → Row t i (starts i len) (Frames l n) (is Connected h l p j) (is Connected h l (p - n) (begun len n))
  -- "Cancelling before the first frame is given out returns the credits; later it turns Connected into Disconnecting"
  cancel_unsent : {h l p : ℕ} {j : OpenJob} → is_open j ≡ true → given_out j ≡ 0 → Row t i (cancels i) Done (is Connected h l p j) (is Connected h l (p + j.aside) no_job)
  cancel_sent : {h l p : ℕ} {j : OpenJob} → is_open j ≡ true → ¬ (given_out j ≡ 0) → Row t i (cancels i) Done (is Connected h l p j) (is (Disconnecting false) h l p no_job)

-- ---- when a slot may stay as it was: unless the answer says that the call was carried out on it

-- the slot that an answer gives
abbrev pub gives-slot : ℕ → Answer → Bool
gives-slot i Done = false
gives-slot i (Refused r) = false
gives-slot i (At slot) = eqb i slot.0
gives-slot i (Link link) = false
gives-slot i Opened = false
gives-slot i (Due link slot) = eqb i slot.0
gives-slot i (Frames link n) = false
gives-slot i (Job link len) = false
gives-slot i (Attention set n lowest) = false
gives-slot i (Number n) = false
gives-slot i (Event min max latency timeout) = false
gives-slot i (Portion link taken full) = false

abbrev pub is_number : ℕ → Answer → Bool
is_number n a = eqb (answer_number a) n

-- A signal: which slots its code must have moved, given the answer.

unfoldable pub by_code : (code : ℕ) (x06 x07 x14 x15 x16 : Bool) → Bool
by_code code x06 x07 x14 x15 x16 = (eqb code 0x06 && x06) || ((eqb code 0x07 && x07) || ((eqb code 0x14 && x14) || ((eqb code 0x15 && x15) || (eqb code 0x16 && x16))))

abbrev pub names_as_dcid : (i : ℕ) → Option DisconnectionReq → Bool
names_as_dcid i None = false
names_as_dcid i (Some req) = eqb (cid_of i) req.dcid

abbrev pub names_as_scid : (i : ℕ) → Option DisconnectionRes → Bool
names_as_scid i None = false
names_as_scid i (Some res) = eqb (cid_of i) res.scid

-- "SPSM not registered → result 2; not listening → 4; peer CID used on this link by a slot not Disconnected → 10", nor MTU or MPS below 23 → 0x000B: none of these
abbrev pub admits : Table → (link : ℕ) (listening : Bool) → Option LeCreditConnReq → Bool
admits t l listening None = false
admits t l listening (Some req) = is_registered t req.spsm && (listening && (leb size_least (min req.mtu req.mps) && not (ltb (found (uses_peer l req.scid) t) t.n)))

abbrev pub grants_to : Table → (i link : ℕ) → Option LeCreditFlowInd → Bool
grants_to t i l None = false
grants_to t i l (Some ind) = eqb i (found (connected_to l ind.cid) t)

abbrev pub is_good : Result (Unit {0}) BadHeader → Bool
is_good (Ok tt) = true
is_good (Err Cut) = false
is_good (Err (Past id)) = false

abbrev pub signal_steps : Table → (i link : ℕ) (listening : Bool) (pdu : List ℕ) → Answer → Seen → Bool
signal_steps t i l listening pdu a x =
    by_code (get_or pdu 0 0)
    (is_number 0 a && (names_as_dcid i (disconnection_req (body_in pdu)) && (not (is_disconnected x.state) && eqb x.link l)))
    (is_number 0 a && (names_as_scid i (disconnection_res (body_in pdu)) && (is_disconnecting x.state && eqb x.link l)))
    (is_number 0 a && (admits t l listening (le_credit_conn_req (body_in pdu)) && eqb i (found is_free t)))
    ((is_number 8 a && (is_connecting x.state && eqb x.link l)) || ((is_number 0 a || (is_number 17 a || (is_number 9 a && is_good (headers_of pdu)))) && eqb i (found (attempt_by l (get_or pdu 1 0)) t)))
    ((is_number 0 a || (is_number 9 a && is_good (headers_of pdu))) && grants_to t i l (le_credit_flow_ind (body_in pdu)))

abbrev pub steps : Table → (i : ℕ) → Request → Answer → Seen → Bool
steps t i (register spsm) a x = false
steps t i (signals link listening central pdu) a x = signal_steps t i link listening pdu a x
steps t i (pends link up) a x = gives-slot i a
steps t i (rejects_all link) a x = gives-slot i a
steps t i (accepts s c) a x = is_number 0 a && eqb i s
steps t i (rejects s result) a x = is_number 0 a && eqb i s
steps t i (drops s) a x = is_number 0 a && (eqb i s && not (is_connected x.state))
steps t i (creates link spsm c) a x = gives-slot i a
steps t i (opens s link up) a x = (is_number 0 a && (eqb i s && is_connected x.state)) || ((is_number 17 a || is_number 18 a) && (eqb i s && not (is_disconnected x.state)))
steps t i (gives s) a x = is_number 0 a && eqb i s
steps t i (holds s) a x = is_number 0 a && eqb i s
steps t i (releases s) a x = is_number 0 a && eqb i s
steps t i (leaves s) a x = is_number 0 a && (eqb i s && is_connected x.state)
steps t i (leaves_cid cid) a x = is_number 0 a && (eqb (cid_of i) cid && is_connected x.state)
steps t i announces a x = gives-slot i a
steps t i (takes s) a x = false
steps t i (starts s l) a x = is_number 0 a && eqb i s
steps t i (cancels s) a x = is_number 0 a && eqb i s
steps t i attends a x = false
steps t i (asks of s) a x = false
steps t i (sends_signal link s) a x = false
steps t i (writes octets) a x = false

-- ---- what a portion of which k octets are taken makes of an open job: the frame is not full; it is, and uses a credit; it is the last, which closes the job

pub data Fills (j : OpenJob) (k : ℕ) : Bool → OpenJob → Type 0 where
  part : Fills j k false (record { length = j.length; taken = j.taken + k; filled = j.filled + k; aside = j.aside })
  full : ¬ (j.aside ≡ 1) → Fills j k true (record { length = j.length; taken = j.taken + k; filled = 0; aside = j.aside - 1 })
  last : Fills j k true no_job

-- ---- one slot in one call: a row, or it stays

pub data Step (t : Table) (i : ℕ) : Call → Answer → Seen → Seen → Type 0 where
  row : {r : Request} {v w : Window} {a : Answer} {x y : Seen} → Row t i r a x y → Step t i (plain r v w) a x y
  stay : {r : Request} {v w : Window} {a : Answer} {x : Seen} → steps t i r a x ≡ false → Step t i (plain r v w) a x x
  -- "Link down frees all its slots; holds stay until released"
  link_down : {k : ChannelState} {h l p : ℕ} {j : OpenJob} → is_disconnected k ≡ false → Step t i (down l) Done (is k h l p j) (free h)
  stay_down : {l : ℕ} {a : Answer} {x : Seen} → (is_number 0 a && (not (is_disconnected x.state) && eqb x.link l)) ≡ false → Step t i (down l) a x x
  -- "bad SDU length or overrun: Disconnecting"; "first frame under 2 octets (added): Disconnecting"; one longer than our MPS "disconnects the channel" (document 02)
  overrun : {h l p : ℕ} {j : OpenJob} {payload : List ℕ} {r : Refusal} → (is_number 9 (Refused r) || is_number 19 (Refused r)) ≡ true
      → Step t i (frame l (cid_of i) payload) (Refused r) (is Connected h l p j) (is (Disconnecting false) h l p no_job)
  stay-frame : {l cid : ℕ} {payload : List ℕ} {a : Answer} {x : Seen} → ((is_number 9 a || is_number 19 a) && eqb (cid_of i) cid) ≡ false → Step t i (frame l cid payload) a x x
  -- "On success peer credits fall by n."
  send : {h l p n : ℕ} {j : OpenJob} {sdu : List ℕ} {w : Window} → n ≤ p → Step t i (sends i sdu w) (Frames l n) (is Connected h l p j) (is Connected h l (p - n) j)
  stay-send : {s : ℕ} {sdu : List ℕ} {w : Window} {a : Answer} {x : Seen} → (is_number 0 a && eqb i s) ≡ false → Step t i (sends s sdu w) a x x
  -- "A portion call stops where a frame fills, and reports that and the octets taken"
  portion : {h l p k : ℕ} {whole : Bool} {j j' : OpenJob} {octets : List ℕ} {w : Window} → is_open j ≡ true → Fills j k whole j'
      → Step t i (portions i octets w) (Portion l k whole) (is Connected h l p j) (is Connected h l p j')
  stay-portion : {s : ℕ} {octets : List ℕ} {w : Window} {a : Answer} {x : Seen} → (is_number 0 a && eqb i s) ≡ false → Step t i (portions s octets w) a x x

abbrev pub Steps : Table → Call → Outcome → Type 0
Steps t c o = (i : ℕ) → i < t.n → Step t i c o.answer (seen (slot_at t i)) (seen (slot_at o.table i))

-- ---- the law: every call, on every table that has its slots, with every size, makes only these steps
abbrev pub EveryStep : Type 0
EveryStep = (t : Table) → Fit t → (c : Call) (count room out job : ℕ) → Steps t c (decide t (bare t c) count room out job)
