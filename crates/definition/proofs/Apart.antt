-- A call that names a link touches that link's slots and free ones alone: a CID, an identifier or a peer CID is always matched together
-- with its link. One lemma a call that names one, and `apart` for all of them.
use Rattle.std.specs.Prelude.{◌≡◌, Bool, false, true, ◌&&◌, List, eqb, leb, None, Option, Some, Result, Ok, Err}
use Rattle.std.proofs.Math.Path.{refl, ap}
use Rattle.std.proofs.Common.{◌∙◌, eqb-true}
use Rattle.std.proofs.Math.Bool.{not}
use Prim.Native.Nat.{ℕ}
use Rattle.std.proofs.lemmas.Bool.{not-false}
use Rattle.lists.specs.Both.{and_left, and_right}
use Rattle.sar_join.specs.declared.Joined.{Joined}
use Rattle.sar_join.specs.declared.Joined.TheVariants as Joined
use Rattle.signal_headers.specs.declared.BadHeader.{BadHeader}
use Rattle.signal_headers.specs.declared.BadHeader.TheVariants.{Cut, Past}
use Rattle.signal_forms.specs.declared.Signal.{Signal}
use Rattle.channel.specs.declared.ChannelState.{ChannelState}
use Rattle.channel.specs.declared.ChannelState.TheVariants.{Disconnected}
use Rattle.channel.specs.declared.L2capChannelConfig.{L2capChannelConfig}
use Rattle.channel.specs.declared.Slot.{Slot}
use Rattle.channel.specs.declared.Table.{Table}
use Rattle.definition.specs.States.{is_disconnected, is_connecting, is_peer_connecting, is_connected, is_disconnecting}
use Rattle.definition.specs.Table.{slot_at, found, of_link, pending_of, unheld_pending_of, attempt_of, attempt_by, connected_to, slot_of}
use Rattle.definition.specs.Pending.{next_pending, reject_all_pending}
use Rattle.definition.specs.Opening.{create, opened}
use Rattle.definition.specs.Closing.{disconnected}
use Rattle.definition.specs.Signals.{on_reject, on_disconnection_req, on_disconnection_res, on_parameters, on_parameter_response, on_conn_req, on_conn_res, on_credits, handled, checked, signalled}
use Rattle.definition.specs.Frames.{joined, dispatch}
use Rattle.definition.specs.Asking.{send_signal}
use Rattle.definition.specs.Calls.{Call, frame, sends, portions, down, plain, Request, register, signals, pends, rejects_all, accepts, rejects, drops, creates, opens, gives, holds, releases, leaves, leaves_cid, announces, takes, starts, cancels, attends, asks, sends_signal, writes, bare, by, holder, serve, decide}
use Rattle.definition.specs.Forms.{Fit, Basis, Does}
use Rattle.definition.proofs.Forms.{in_use, itself, with-id, still_does, change_does, sweep_does, if_does, else_does, gate_does, gate-at, found-passes, free-slot}
use Rattle.definition.proofs.Tells.{cid_slot}
use Rattle.definition.specs.Apart.{Apart, ApartSlot, asked_by, called_by, free, its, untouched}
use Rattle.signal_forms.specs.declared.CommandRejectRes.{CommandRejectRes}
use Rattle.signal_forms.specs.declared.ConnParamUpdateReq.{ConnParamUpdateReq}
use Rattle.signal_forms.specs.declared.ConnParamUpdateRes.{ConnParamUpdateRes}
use Rattle.signal_forms.specs.declared.DisconnectionReq.{DisconnectionReq}
use Rattle.signal_forms.specs.declared.DisconnectionRes.{DisconnectionRes}
use Rattle.signal_forms.specs.declared.LeCreditConnReq.{LeCreditConnReq}
use Rattle.signal_forms.specs.declared.LeCreditConnRes.{LeCreditConnRes}
use Rattle.signal_forms.specs.declared.LeCreditFlowInd.{LeCreditFlowInd}
use Rattle.codes.specs.declared.Refusal.{Refusal}

-- a slot found by the test q, in a state that is not Disconnected, with link k
of : (q : ChannelState → Bool) → q Disconnected ≡ false → (x : Slot) (k : ℕ) → (q x.state && eqb x.link k) ≡ true → holder x ≡ by k
of q z x k e = in_use q z x.state x.link (and_left (q x.state) _ e) ∙ ap by (eqb-true x.link k (and_right (q x.state) _ e))

module _ (t : Table) (fit : Fit t) (link : ℕ) where
  on : Basis (ApartSlot link) t
  on = record { keeps = λ x. untouched; fit = fit }

  -- ---- Frames.antt

  joined-apart : (s count : ℕ) (x : Slot) → leb t.n s ≡ false → holder (slot_at t s) ≡ by link → (j : Result Joined Refusal) → Does (ApartSlot link) t (joined t s x count j)
  unfolding joined
  joined-apart s count x a h (Err r) = change_does on s itself a (its h)
  joined-apart s count x a h (Ok (Joined.Assembling g)) = change_does on s itself a (its h)
  joined-apart s count x a h (Ok (Joined.Finished len)) = change_does on s itself a (its h)
  joined-apart s count x a h (Ok Joined.Dropped) = change_does on s itself a (its h)

  frame_apart : (room cid : ℕ) (head : List ℕ) (count : ℕ) → Does (ApartSlot link) t (dispatch t room link cid head count)
  unfolding dispatch
  frame_apart room cid head count =
      gate_does on (Some room) None (Some link) None λ _.
      else_does on _ _ _ itself λ a. else_does on _ _ _ itself λ b. else_does on _ _ _ itself λ d.
      let x : Slot = slot_at t (slot_of cid) in
      let mine = in_use is_connected refl x.state x.link (not-false _ b) ∙ ap by (eqb-true x.link link (not-false _ d)) in
      if_does on (λ _. change_does on _ itself (cid_slot t cid (not-false _ a)) (its mine)) λ _.
      joined-apart (slot_of cid) count _ (cid_slot t cid (not-false _ a)) mine _

  -- ---- Pending.antt, Opening.antt, Closing.antt

  pends_apart : (up : Bool) → Does (ApartSlot link) t (next_pending t link up)
  unfolding next_pending
  pends_apart up =
      gate_does on None None (Some link) None λ _.
      if_does on (λ _. else_does on _ _ _ itself λ _. still_does on itself) λ a.
      else_does on _ _ _ itself λ _. change_does on _ itself a (its (of is_peer_connecting refl (slot_at t (found (pending_of link) t)) link (found-passes t fit (pending_of link) a)))

  rejects_all_apart : (room signal : ℕ) → Does (ApartSlot link) t (reject_all_pending t room signal link)
  unfolding reject_all_pending
  rejects_all_apart room signal =
      gate_does on (Some room) (Some signal) (Some link) None λ _. else_does on _ _ _ itself λ a.
      let x : Slot = slot_at t (found (unheld_pending_of link) t) in
      change_does on _ itself a (its (of is_peer_connecting refl x link (and_left (pending_of link x) _ (found-passes t fit (unheld_pending_of link) a))))

  creates_apart : (signal spsm : ℕ) (c : L2capChannelConfig) → Does (ApartSlot link) t (create t signal link spsm c)
  unfolding create
  creates_apart signal spsm c =
      gate_does on None (Some signal) (Some link) None λ _.
      else_does on _ _ _ with-id λ _. else_does on _ _ _ with-id λ _. else_does on _ _ _ with-id λ a. change_does on _ with-id a (free (free-slot t fit a))

  opens_apart : (room s : ℕ) (up : Bool) → Does (ApartSlot link) t (opened t room s link up)
  unfolding opened
  opens_apart room s up =
      gate-at on (Some room) None (Some link) s λ a.
      else_does on _ _ _ itself λ b. else_does on _ _ _ itself λ d.
      let x : Slot = slot_at t s in
      let h : holder x ≡ by link = in_use (λ k. not (is_disconnected k)) refl x.state x.link (ap not b) ∙ ap by (eqb-true x.link link (not-false _ d)) in
      if_does on (λ _. change_does on s itself a (its h)) λ _. if_does on (λ _. change_does on s itself a (its h)) λ _.
      if_does on (λ _. change_does on s itself a (its h)) λ _.
      else_does on _ _ _ itself λ _. else_does on _ _ _ itself λ _. change_does on s itself a (its h)

  down_apart : (room : ℕ) → Does (ApartSlot link) t (disconnected t room link)
  unfolding disconnected
  down_apart room = gate_does on (Some room) None (Some link) None λ _. sweep_does on (of_link link) (λ x e. its (of (λ k. not (is_disconnected k)) refl x link e))

  -- ---- Signals.antt

  reject-apart : (id : ℕ) (b : Option CommandRejectRes) → Does (ApartSlot link) t (on_reject t id b)
  unfolding on_reject
  reject-apart id None = still_does on itself
  reject-apart id (Some res) = still_does on itself

  disconnection_req-apart : (id : ℕ) (b : Option DisconnectionReq) → Does (ApartSlot link) t (on_disconnection_req t link id b)
  unfolding on_disconnection_req
  disconnection_req-apart id None = still_does on itself
  disconnection_req-apart id (Some req) =
      else_does on _ _ _ itself λ a. else_does on _ _ _ itself λ b.
      change_does on (slot_of req.dcid) itself (cid_slot t req.dcid (not-false _ a)) (its (of (λ k. not (is_disconnected k)) refl (slot_at t (slot_of req.dcid)) link (not-false _ b)))

  disconnection_res-apart : (id : ℕ) (b : Option DisconnectionRes) → Does (ApartSlot link) t (on_disconnection_res t link id b)
  unfolding on_disconnection_res
  disconnection_res-apart id None = still_does on itself
  disconnection_res-apart id (Some res) =
      else_does on _ _ _ itself λ a. else_does on _ _ _ itself λ b.
      change_does on (slot_of res.scid) itself (cid_slot t res.scid (not-false _ a)) (its (of is_disconnecting refl (slot_at t (slot_of res.scid)) link (not-false _ b)))

  parameters-apart : (id : ℕ) (b : Option ConnParamUpdateReq) → Does (ApartSlot link) t (on_parameters t id b)
  unfolding on_parameters
  parameters-apart id None = still_does on itself
  parameters-apart id (Some req) = else_does on _ _ _ itself λ _. still_does on itself

  parameter_response_apart : (id : ℕ) (b : Option ConnParamUpdateRes) → Does (ApartSlot link) t (on_parameter_response t id b)
  unfolding on_parameter_response
  parameter_response_apart id None = still_does on itself
  parameter_response_apart id (Some res) = still_does on itself

  conn_req_apart : (listening : Bool) (id : ℕ) (b : Option LeCreditConnReq) → Does (ApartSlot link) t (on_conn_req t link listening id b)
  unfolding on_conn_req
  conn_req_apart listening id None = still_does on itself
  conn_req_apart listening id (Some req) =
      else_does on _ _ _ itself λ _. else_does on _ _ _ itself λ _. else_does on _ _ _ itself λ _. else_does on _ _ _ itself λ _. else_does on _ _ _ itself λ a.
      change_does on _ itself a (free (free-slot t fit a))

  conn_res_apart : (id : ℕ) (b : Option LeCreditConnRes) → Does (ApartSlot link) t (on_conn_res t link id b)
  unfolding on_conn_res
  conn_res_apart id None = still_does on itself
  conn_res_apart id (Some res) =
      if_does on (λ _. sweep_does on (attempt_of link) (λ x e. its (of is_connecting refl x link e))) λ a.
      let s : ℕ = found (attempt_by link id) t in
      let h = of is_connecting refl (slot_at t s) link (and_left (attempt_of link (slot_at t s)) _ (found-passes t fit (attempt_by link id) a)) in
      if_does on (λ _. change_does on s itself a (its h)) λ _. if_does on (λ _. change_does on s itself a (its h)) λ _. change_does on s itself a (its h)

  credits-apart : (id : ℕ) (b : Option LeCreditFlowInd) → Does (ApartSlot link) t (on_credits t link id b)
  unfolding on_credits
  credits-apart id None = still_does on itself
  credits-apart id (Some ind) =
      else_does on _ _ _ itself λ a.
      let s : ℕ = found (connected_to link ind.cid) t in
      let x : Slot = slot_at t s in
      let e = found-passes t fit (connected_to link ind.cid) a in
      let h : holder x ≡ by link = in_use is_connected refl x.state x.link (and_left (is_connected x.state) _ e) ∙ ap by (eqb-true x.link link (and_left (eqb x.link link) _ (and_right (is_connected x.state) _ e))) in
      if_does on (λ _. change_does on s itself a (its h)) λ _. change_does on s itself a (its h)

  handled-apart : (listening central : Bool) (code id : ℕ) (body : List ℕ) → Does (ApartSlot link) t (handled t link listening central code id body)
  unfolding handled
  handled-apart listening central code id body =
      if_does on (λ _. reject-apart id _) λ _. if_does on (λ _. disconnection_req-apart id _) λ _. if_does on (λ _. disconnection_res-apart id _) λ _.
      if_does on (λ _. if_does on (λ _. parameters-apart id _) λ _. still_does on itself) λ _. if_does on (λ _. parameter_response_apart id _) λ _.
      if_does on (λ _. conn_req_apart listening id _) λ _. if_does on (λ _. conn_res_apart id _) λ _. if_does on (λ _. credits-apart id _) λ _. still_does on itself

  checked-apart : (listening central : Bool) (pdu : List ℕ) (h : Result (Unit {0}) BadHeader) → Does (ApartSlot link) t (checked t link listening central pdu h)
  unfolding checked
  checked-apart listening central pdu (Err Cut) = still_does on itself
  checked-apart listening central pdu (Err (Past id)) = still_does on itself
  checked-apart listening central pdu (Ok tt) = else_does on _ _ _ itself λ _. handled-apart listening central _ _ _

  signals_apart : (room signal : ℕ) (listening central : Bool) (pdu : List ℕ) → Does (ApartSlot link) t (signalled t room signal link listening central pdu)
  unfolding signalled
  signals_apart room signal listening central pdu = gate_does on (Some room) (Some signal) (Some link) None λ _. checked-apart listening central pdu _

  -- ---- Asking.antt

  sends_signal_apart : (signal : ℕ) (s : Signal) → Does (ApartSlot link) t (send_signal t signal link s)
  unfolding send_signal
  sends_signal_apart signal s = gate_does on None (Some signal) (Some link) None λ _. still_does on with-id

-- ---- all calls

asked-apart : (t : Table) → Fit t → (r : Request) (room out job : ℕ) → Apart (asked_by r) t (serve t r room out job)
unfolding serve
asked-apart t fit (register spsm) room out job = tt
asked-apart t fit (signals link listening central pdu) room out job = signals_apart t fit link room out listening central pdu
asked-apart t fit (pends link up) room out job = pends_apart t fit link up
asked-apart t fit (rejects_all link) room out job = rejects_all_apart t fit link room out
asked-apart t fit (accepts s c) room out job = tt
asked-apart t fit (rejects s result) room out job = tt
asked-apart t fit (drops s) room out job = tt
asked-apart t fit (creates link spsm c) room out job = creates_apart t fit link out spsm c
asked-apart t fit (opens s link up) room out job = opens_apart t fit link room s up
asked-apart t fit (gives s) room out job = tt
asked-apart t fit (holds s) room out job = tt
asked-apart t fit (releases s) room out job = tt
asked-apart t fit (leaves s) room out job = tt
asked-apart t fit (leaves_cid cid) room out job = tt
asked-apart t fit announces room out job = tt
asked-apart t fit (takes s) room out job = tt
asked-apart t fit (starts s l) room out job = tt
asked-apart t fit (cancels s) room out job = tt
asked-apart t fit attends room out job = tt
asked-apart t fit (asks of s) room out job = tt
asked-apart t fit (sends_signal link s) room out job = sends_signal_apart t fit link out s
asked-apart t fit (writes octets) room out job = tt

pub apart : (t : Table) → Fit t → (c : Call) (count room out job : ℕ) → Apart (called_by c) t (decide t (bare t c) count room out job)
unfolding decide bare
apart t fit (frame link cid payload) count room out job = frame_apart t fit link room cid _ count
apart t fit (sends s sdu w) count room out job = tt
apart t fit (portions s octets w) count room out job = tt
apart t fit (down link) count room out job = down_apart t fit link room
apart t fit (plain r v w) count room out job = asked-apart t fit r room out job
