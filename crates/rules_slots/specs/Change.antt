-- WHICH SLOTS A CALL CHANGES, the law. A call that names a slot changes that slot alone; one that names a link, slots of that link or the
-- lowest free one. No other slot's record changes, and no octet of another's part of the room. Of every call, with every size, on every
-- table that has its N slots; so of every call of every run. Proved in Changes.antt.
use Rattle.std.specs.Prelude.{◌≡◌, List, ℕ, ◌+◌, ◌*◌, ◌<◌, get_or, take, drop, Some}
use Rattle.signal_headers.specs.Headers.{body_in}
use Rattle.signal_bodies.specs.Bodies.{disconnection_req, disconnection_res}
use Rattle.signal_bodies.specs.LeCreditBodies.{le_credit_flow_ind}
use Rattle.signal_forms.specs.declared.DisconnectionReq.{DisconnectionReq}
use Rattle.signal_forms.specs.declared.DisconnectionRes.{DisconnectionRes}
use Rattle.signal_forms.specs.declared.LeCreditFlowInd.{LeCreditFlowInd}
use Rattle.channel.specs.Limits.{cid_base}
use Rattle.channel.specs.declared.Table.{Table}
use Rattle.definition.specs.Table.{slot_at, width}
use Rattle.definition.specs.Outcome.{Outcome}
use Rattle.definition.specs.Calls.{Window, Call, frame, sends, portions, down, plain, Request, register, signals, pends, rejects_all, accepts, rejects, drops, creates, opens, gives, holds, releases, leaves, leaves_cid, announces, takes, starts, cancels, attends, asks, sends_signal, writes, bare, decide}
use Rattle.definition.specs.Ending.{room_after}
use Rattle.definition.specs.Forms.{Fit}
use Rattle.rules_slots.specs.Words.{Free, Of, Pending, Unheld, Attempt, Open, OpenTo, Leaving, Due, Lowest}

-- The slots that a signal PDU on link l may change, by the code of its first signal. Every other code changes none.
pub data BySignal (t : Table) (l : ℕ) (pdu : List ℕ) (i : ℕ) : Type 0 where
  -- 0x06: "slot with that CID, this link, not Disconnected"
  disconnects : {req : DisconnectionReq} → get_or pdu 0 0 ≡ 0x06 → disconnection_req (body_in pdu) ≡ Some req → req.dcid ≡ cid_base + i → Of l (slot_at t i) → BySignal t l pdu i
  -- 0x07: "SCID names a Disconnecting slot of this link"
  frees : {res : DisconnectionRes} → get_or pdu 0 0 ≡ 0x07 → disconnection_res (body_in pdu) ≡ Some res → res.scid ≡ cid_base + i → Leaving l (slot_at t i) → BySignal t l pdu i
  -- 0x14: "the lowest free slot becomes PeerConnecting"
  connects : get_or pdu 0 0 ≡ 0x14 → Lowest Free t i → BySignal t l pdu i
  -- 0x15: "matched to the lowest Connecting slot with that identifier and link"; "unmatched .. frees all Connecting slots of that link"
  matches : get_or pdu 0 0 ≡ 0x15 → Lowest (Attempt l (get_or pdu 1 0)) t i → BySignal t l pdu i
  unmatched : {id : ℕ} → get_or pdu 0 0 ≡ 0x15 → ((j : ℕ) → j < t.n → ¬ Attempt l (get_or pdu 1 0) (slot_at t j)) → Attempt l id (slot_at t i) → BySignal t l pdu i
  -- 0x16: "first Connected slot of this link with that peer CID"
  credits : {ind : LeCreditFlowInd} → get_or pdu 0 0 ≡ 0x16 → le_credit_flow_ind (body_in pdu) ≡ Some ind → Lowest (OpenTo l ind.cid) t i → BySignal t l pdu i

abbrev pub Asking : Table → Request → ℕ → Type 0
Asking t (register spsm) i = ⊥
Asking t (signals l listening central pdu) i = BySignal t l pdu i
Asking t (pends l up) i = Lowest (Pending l) t i
Asking t (rejects_all l) i = Lowest (Unheld l) t i
Asking t (accepts s c) i = i ≡ s
Asking t (rejects s result) i = i ≡ s
Asking t (drops s) i = i ≡ s
Asking t (creates l spsm c) i = Lowest Free t i
Asking t (opens s l up) i = (i ≡ s) × Of l (slot_at t i)
Asking t (gives s) i = i ≡ s
Asking t (holds s) i = i ≡ s
Asking t (releases s) i = i ≡ s
Asking t (leaves s) i = i ≡ s
Asking t (leaves_cid cid) i = cid ≡ cid_base + i
Asking t announces i = Lowest Due t i
Asking t (takes s) i = i ≡ s
Asking t (starts s l) i = i ≡ s
Asking t (cancels s) i = i ≡ s
Asking t attends i = ⊥
Asking t (asks of s) i = ⊥
Asking t (sends_signal l s) i = ⊥
Asking t (writes octets) i = ⊥

-- The slots that a call may change.
abbrev pub MayChange : Table → Call → ℕ → Type 0
MayChange t (frame l cid payload) i = (cid ≡ cid_base + i) × Open l (slot_at t i)
MayChange t (sends s sdu out) i = i ≡ s
MayChange t (portions s octets out) i = i ≡ s
MayChange t (down l) i = Of l (slot_at t i)
MayChange t (plain r out tray) i = Asking t r i

-- Slot i's part of the room.
abbrev pub slot_room : Table → ℕ → List ℕ → List ℕ
slot_room t i room = take (width t) (drop (i * width t) room)

-- Slot i is left as it is, its record and its part of the room, whatever the job octets and the room.
pub record Left (t : Table) (i : ℕ) (o : Outcome) : Type 0 where
  pub slot : slot_at o.table i ≡ slot_at t i
  pub part : (jobs room : List ℕ) → slot_room t i (room_after t jobs room o) ≡ slot_room t i room

-- Registering is the one call that changes the registered SPSMs.
pub data Registers : Call → Type 0 where
  registers : {spsm : ℕ} {out tray : Window} → Registers (plain (register spsm) out tray)

-- The sizes never change.
pub record Steady (t : Table) (c : Call) (o : Outcome) : Type 0 where
  pub n : o.table.n ≡ t.n
  pub d : o.table.d ≡ t.d
  pub m : o.table.m ≡ t.m
  pub spsms : ¬ Registers c → o.table.spsms ≡ t.spsms

abbrev pub ChangeLaw : Type 0
ChangeLaw =
    (t : Table) → Fit t → (c : Call) (count room out job : ℕ)
    → ((i : ℕ) → ¬ ((i < t.n) × MayChange t c i) → Left t i (decide t (bare t c) count room out job)) × Steady t c (decide t (bare t c) count room out job)
