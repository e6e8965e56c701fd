-- The calls that add nothing: each leaves every slot's tallies as they were, or resets them where the law says so. One lemma a call, from the forms of an outcome (crate definition,
-- Forms.antt) and the changes of a state (Kept.antt).
use Rattle.std.specs.Prelude.{◌≡◌, Bool, true, false, ◌&&◌, ◌||◌, not, List, leb, None, Option, Some, Result, Ok, Err}
use Rattle.std.proofs.Math.Path.{refl}
use Prim.Native.Nat.{ℕ}
use Rattle.std.proofs.Math.Dec.{eqb}
use Rattle.std.proofs.lemmas.Bool.{not-false, not-true}
use Rattle.lists.specs.Both.{and_left}
use Rattle.credit.specs.Account.{granted}
use Rattle.signal_headers.specs.declared.BadHeader.{BadHeader}
use Rattle.signal_headers.specs.declared.BadHeader.TheVariants.{Cut, Past}
use Rattle.signal_forms.specs.declared.Signal.{Signal}
use Rattle.channel.specs.declared.Answer.TheVariants.{Done}
use Rattle.channel.specs.declared.L2capChannelConfig.{L2capChannelConfig}
use Rattle.channel.specs.declared.Slot.{Slot}
use Rattle.channel.specs.declared.Table.{Table}
use Rattle.definition.specs.Mem.{Fill}
use Rattle.definition.specs.Table.{slot_at, found, is_free, of_link, pending_of, unheld_pending_of, due_slot, attempt_of, attempt_by, connected_to, slot_of, with_hold, with_account, with_queue, is_disconnected, is_connecting, is_peer_connecting, is_connected, is_connect_failed, is_peer_disconnecting, is_disconnecting}
use Rattle.definition.specs.Outcome.{Outcome}
use Rattle.definition.specs.Pending.{next_pending, reject_all_pending, accept_pending, reject_pending, not_code, reject_read, drop_pending}
use Rattle.definition.specs.Opening.{create, opened, give_up}
use Rattle.definition.specs.Closing.{inc_ref, dec_ref, disconnecting, disconnect, disconnect_by_cid, disconnected, next_disconnect}
use Rattle.definition.specs.Signals.{on_reject, on_disconnection_req, on_disconnection_res, on_parameters, on_parameter_response, on_conn_req, on_conn_res, on_credits, handled, checked, signalled}
use Rattle.definition.specs.Frames.{shifted, moving_up, handing, taken, receive}
use Rattle.definition.specs.Portions.{give_portion, cancel_job}
use Rattle.definition.specs.Asking.{register_spsm, attention, query, send_signal}
use Rattle.definition.specs.Forms.{Fit, Basis, Does, Like}
use Rattle.definition.proofs.Forms.{itself, with-id, with-spsm, still_does, change_does, filling_does, sweep_does, if_does, else_does, gate_does, gate-at, found-passes}
use Rattle.definition.proofs.Tells.{cid_slot}
use Rattle.rules_tallies.specs.Kept.{Kept}
use Rattle.rules_tallies.proofs.Kept.{accepted-stays, announced_stays, in_use, stays, as_it_was, is-freed, is_given, is-answered, is-left, is_parted, basis}
use Rattle.codes.specs.declared.LeCreditConnResultCode.{LeCreditConnResultCode}
use Rattle.signal_forms.specs.declared.CommandRejectRes.{CommandRejectRes}
use Rattle.signal_forms.specs.declared.ConnParamUpdateReq.{ConnParamUpdateReq}
use Rattle.signal_forms.specs.declared.ConnParamUpdateRes.{ConnParamUpdateRes}
use Rattle.signal_forms.specs.declared.DisconnectionReq.{DisconnectionReq}
use Rattle.signal_forms.specs.declared.DisconnectionRes.{DisconnectionRes}
use Rattle.signal_forms.specs.declared.LeCreditConnReq.{LeCreditConnReq}
use Rattle.signal_forms.specs.declared.LeCreditConnRes.{LeCreditConnRes}
use Rattle.signal_forms.specs.declared.LeCreditFlowInd.{LeCreditFlowInd}

module _ (t : Table) (fit : Fit t) where
  abbrev pub Quiet : Outcome → Type 0
  Quiet o = Does Kept t o

  on : Basis Kept t
  on = basis fit

  -- ---- Pending.antt

  pub pends_quiet : (link : ℕ) (up : Bool) → Quiet (next_pending t link up)
  unfolding next_pending
  pends_quiet link up =
      gate_does on None None (Some link) None λ _.
      if_does on (λ _. else_does on _ _ _ itself λ _. still_does on itself) λ a.
      else_does on _ _ _ itself λ _. change_does on _ itself a (as_it_was refl refl)

  pub rejects_all_quiet : (room signal link : ℕ) → Quiet (reject_all_pending t room signal link)
  unfolding reject_all_pending
  rejects_all_quiet room signal link =
      gate_does on (Some room) (Some signal) (Some link) None λ _. else_does on _ _ _ itself λ a.
      let x : Slot = slot_at t (found (unheld_pending_of link) t) in
      let e = found-passes t fit (unheld_pending_of link) a in
      change_does on _ itself a (is-freed (in_use is_peer_connecting refl x.state (and_left (is_peer_connecting x.state) _ (and_left (pending_of link x) _ e))))

  pub accepts_quiet : (signal s : ℕ) (c : L2capChannelConfig) → Quiet (accept_pending t signal s c)
  unfolding accept_pending
  accepts_quiet signal s c =
      gate-at on None (Some signal) None s λ v.
      else_does on _ _ _ itself λ _. else_does on _ _ _ itself λ _. else_does on _ _ _ itself λ a. else_does on _ _ _ itself λ _.
      change_does on s itself v (stays (accepted-stays (slot_at t s).state (not-false _ a)) refl)

  pub rejects_quiet : (room signal s : ℕ) (result : Option LeCreditConnResultCode) → Quiet (reject_read t room signal s result)
  unfolding reject_pending not_code
  rejects_quiet room signal s None = gate-at on (Some room) (Some signal) None s λ _. still_does on itself
  rejects_quiet room signal s (Some result) =
      gate-at on (Some room) (Some signal) None s λ v.
      else_does on _ _ _ itself λ a. else_does on _ _ _ itself λ _. change_does on s itself v (is-freed (in_use is_peer_connecting refl (slot_at t s).state (not-false _ a)))

  pub drops_quiet : (room s : ℕ) → Quiet (drop_pending t room s)
  unfolding drop_pending
  drops_quiet room s =
      gate-at on (Some room) None None s λ a.
      else_does on _ _ _ itself λ _. else_does on _ _ _ itself λ _.
      if_does on (λ b. change_does on s itself a (is-freed (in_use is_peer_connecting refl (slot_at t s).state b))) λ _. change_does on s itself a (as_it_was refl refl)

  -- ---- Opening.antt

  -- a free slot that is given out
  free_one : leb t.n (found is_free t) ≡ false → is_disconnected (slot_at t (found is_free t)).state ≡ true
  free_one a = and_left (is_disconnected (slot_at t (found is_free t)).state) _ (found-passes t fit is_free a)

  pub creates_quiet : (signal link spsm : ℕ) (c : L2capChannelConfig) → Quiet (create t signal link spsm c)
  unfolding create
  creates_quiet signal link spsm c =
      gate_does on None (Some signal) (Some link) None λ _.
      else_does on _ _ _ with-id λ _. else_does on _ _ _ with-id λ _. else_does on _ _ _ with-id λ a.
      change_does on _ with-id a (is_given (free_one a) refl refl)

  pub opens_quiet : (room s link : ℕ) (up : Bool) → Quiet (opened t room s link up)
  unfolding opened
  opens_quiet room s link up =
      gate-at on (Some room) None (Some link) s λ a.
      else_does on _ _ _ itself λ b. else_does on _ _ _ itself λ _.
      if_does on (λ _. change_does on s itself a (is-freed b)) λ _. if_does on (λ _. change_does on s itself a (is-freed b)) λ _.
      if_does on (λ _. change_does on s itself a (is-freed b)) λ _.
      else_does on _ _ _ itself λ _. else_does on _ _ _ itself λ _. change_does on s itself a (as_it_was refl refl)

  pub gives-quiet : (room s : ℕ) → Quiet (give_up t room s)
  unfolding give_up
  gives-quiet room s =
      let x = slot_at t s in
      gate-at on (Some room) None None s λ v.
      if_does on (λ b. change_does on s itself v (is-freed (in_use (λ k. is_connecting k || (is_connect_failed k || (is_connected k && eqb x.hold 0))) refl x.state b))) λ _. still_does on itself

  -- ---- Closing.antt

  pub holds-quiet : (s : ℕ) → Quiet (inc_ref t s)
  unfolding inc_ref
  holds-quiet s = gate-at on None None None s λ v. else_does on _ _ _ itself λ _. change_does on s itself v (as_it_was refl refl)

  pub releases_quiet : (room s : ℕ) → Quiet (dec_ref t room s)
  unfolding dec_ref
  releases_quiet room s =
      gate-at on (Some room) None None s λ a.
      else_does on _ _ _ itself λ _.
      if_does on (λ b. change_does on s itself a (is-left (with_hold 0 (slot_at t s)) (and_left (is_connected (slot_at t s).state) _ b))) λ _.
      change_does on s itself a (as_it_was refl refl)

  disconnecting-quiet : (s : ℕ) → leb t.n s ≡ false → Quiet (disconnecting t s)
  unfolding disconnecting
  disconnecting-quiet s a = if_does on (λ b. change_does on s itself a (is-left (slot_at t s) b)) λ _. still_does on itself

  pub leaves_quiet : (room s : ℕ) → Quiet (disconnect t room s)
  unfolding disconnect
  leaves_quiet room s = gate-at on (Some room) None None s λ v. disconnecting-quiet s v

  pub leaves_cid_quiet : (room cid : ℕ) → Quiet (disconnect_by_cid t room cid)
  unfolding disconnect_by_cid
  leaves_cid_quiet room cid = gate_does on (Some room) None None None λ _. if_does on (λ b. disconnecting-quiet (slot_of cid) (cid_slot t cid b)) λ _. still_does on itself

  -- a slot of this link is in use
  its_own : (link : ℕ) (x : Slot) → of_link link x ≡ true → is_disconnected x.state ≡ false
  its_own link x e = not-true _ (and_left (not (is_disconnected x.state)) _ e)

  pub down_quiet : (room link : ℕ) → Quiet (disconnected t room link)
  unfolding disconnected
  down_quiet room link = gate_does on (Some room) None (Some link) None λ _. sweep_does on (of_link link) (λ x e. is-freed (its_own link x e))

  pub announces_quiet : (room signal : ℕ) → Quiet (next_disconnect t room signal)
  unfolding next_disconnect
  announces_quiet room signal =
      gate_does on (Some room) (Some signal) None None λ _.
      let x : Slot = slot_at t (found due_slot t) in
      else_does on _ _ _ itself λ a. if_does on (λ b. change_does on _ itself a (is-freed (in_use is_peer_disconnecting refl x.state b))) λ _.
      change_does on _ with-id a (stays (announced_stays x.state (found-passes t fit due_slot a)) refl)

  -- ---- Signals.antt

  reject-quiet : (id : ℕ) (b : Option CommandRejectRes) → Quiet (on_reject t id b)
  unfolding on_reject
  reject-quiet id None = still_does on itself
  reject-quiet id (Some res) = still_does on itself

  disconnection_req-quiet : (link id : ℕ) (b : Option DisconnectionReq) → Quiet (on_disconnection_req t link id b)
  unfolding on_disconnection_req
  disconnection_req-quiet link id None = still_does on itself
  disconnection_req-quiet link id (Some req) =
      else_does on _ _ _ itself λ a. else_does on _ _ _ itself λ b.
      let x : Slot = slot_at t (slot_of req.dcid) in
      change_does on (slot_of req.dcid) itself (cid_slot t req.dcid (not-false _ a)) (is_parted x id (its_own link x (not-false _ b)))

  disconnection_res-quiet : (link id : ℕ) (b : Option DisconnectionRes) → Quiet (on_disconnection_res t link id b)
  unfolding on_disconnection_res
  disconnection_res-quiet link id None = still_does on itself
  disconnection_res-quiet link id (Some res) =
      else_does on _ _ _ itself λ a. else_does on _ _ _ itself λ b.
      let x : Slot = slot_at t (slot_of res.scid) in
      change_does on (slot_of res.scid) itself (cid_slot t res.scid (not-false _ a)) (is-freed (in_use is_disconnecting refl x.state (and_left (is_disconnecting x.state) _ (not-false _ b))))

  parameters-quiet : (id : ℕ) (b : Option ConnParamUpdateReq) → Quiet (on_parameters t id b)
  unfolding on_parameters
  parameters-quiet id None = still_does on itself
  parameters-quiet id (Some req) = else_does on _ _ _ itself λ _. still_does on itself

  parameter_response_quiet : (id : ℕ) (b : Option ConnParamUpdateRes) → Quiet (on_parameter_response t id b)
  unfolding on_parameter_response
  parameter_response_quiet id None = still_does on itself
  parameter_response_quiet id (Some res) = still_does on itself

  conn_req_quiet : (link : ℕ) (listening : Bool) (id : ℕ) (b : Option LeCreditConnReq) → Quiet (on_conn_req t link listening id b)
  unfolding on_conn_req
  conn_req_quiet link listening id None = still_does on itself
  conn_req_quiet link listening id (Some req) =
      else_does on _ _ _ itself λ _. else_does on _ _ _ itself λ _. else_does on _ _ _ itself λ _. else_does on _ _ _ itself λ _. else_does on _ _ _ itself λ a.
      change_does on _ itself a (is_given (free_one a) refl refl)

  conn_res_quiet : (link id : ℕ) (b : Option LeCreditConnRes) → Quiet (on_conn_res t link id b)
  unfolding on_conn_res
  conn_res_quiet link id None = still_does on itself
  conn_res_quiet link id (Some res) =
      if_does on (λ _. sweep_does on (attempt_of link) (λ x e. is-freed (in_use is_connecting refl x.state (and_left (is_connecting x.state) _ e)))) λ a.
      let s : ℕ = found (attempt_by link id) t in
      let x : Slot = slot_at t s in
      let e = and_left (is_connecting x.state) _ (and_left (attempt_of link x) _ (found-passes t fit (attempt_by link id) a)) in
      if_does on (λ _. change_does on s itself a (is-answered e refl refl)) λ _.
      if_does on (λ _. change_does on s itself a (is-answered e refl refl)) λ _.
      change_does on s itself a (is-answered e refl refl)

  credits-quiet : (link id : ℕ) (b : Option LeCreditFlowInd) → Quiet (on_credits t link id b)
  unfolding on_credits
  credits-quiet link id None = still_does on itself
  credits-quiet link id (Some ind) =
      else_does on _ _ _ itself λ a.
      let s : ℕ = found (connected_to link ind.cid) t in
      let e = and_left (is_connected (slot_at t s).state) _ (found-passes t fit (connected_to link ind.cid) a) in
      if_does on (λ _. change_does on s itself a (is-left (slot_at t s) e)) λ _. change_does on s itself a (as_it_was refl refl)

  handled-quiet : (link : ℕ) (listening central : Bool) (code id : ℕ) (body : List ℕ) → Quiet (handled t link listening central code id body)
  unfolding handled
  handled-quiet link listening central code id body =
      if_does on (λ _. reject-quiet id _) λ _. if_does on (λ _. disconnection_req-quiet link id _) λ _.
      if_does on (λ _. disconnection_res-quiet link id _) λ _.
      if_does on (λ _. if_does on (λ _. parameters-quiet id _) λ _. still_does on itself) λ _.
      if_does on (λ _. parameter_response_quiet id _) λ _. if_does on (λ _. conn_req_quiet link listening id _) λ _.
      if_does on (λ _. conn_res_quiet link id _) λ _. if_does on (λ _. credits-quiet link id _) λ _. still_does on itself

  checked-quiet : (link : ℕ) (listening central : Bool) (pdu : List ℕ) (h : Result (Unit {0}) BadHeader) → Quiet (checked t link listening central pdu h)
  unfolding checked
  checked-quiet link listening central pdu (Err Cut) = still_does on itself
  checked-quiet link listening central pdu (Err (Past id)) = still_does on itself
  checked-quiet link listening central pdu (Ok tt) = else_does on _ _ _ itself λ _. handled-quiet link listening central _ _ _

  pub signals_quiet : (room signal link : ℕ) (listening central : Bool) (pdu : List ℕ) → Quiet (signalled t room signal link listening central pdu)
  unfolding signalled
  signals_quiet room signal link listening central pdu = gate_does on (Some room) (Some signal) (Some link) None λ _. checked-quiet link listening central pdu _

  -- ---- Frames.antt, Portions.antt: a take, a portion, a cancel

  handing-quiet : {t' : Table} (s : ℕ) (x : Slot) (signal : List Fill) → Like t t' → leb t.n s ≡ false → x.state ≡ (slot_at t s).state → x.tallies ≡ (slot_at t s).tallies → Quiet (handing t' s x signal)
  handing-quiet {t'} s x signal q a e f =
      let c = change_does on s {y = with_queue (shifted x.queue) x} {ms = moving_up t' x} {a = Done} {out = signal} q a (as_it_was e f) in
      record { parts = c.parts; slots = c.slots; width = c.width; fit = c.fit }

  taken-quiet : (s : ℕ) → leb t.n s ≡ false → (g : Option ℕ) → Quiet (taken t s (slot_at t s) g)
  unfolding taken
  taken-quiet s a None = handing-quiet s (slot_at t s) _ itself a refl refl
  taken-quiet s a (Some n) = handing-quiet s (with_account (granted (slot_at t s).account n) (slot_at t s)) _ with-id a refl refl

  pub takes_quiet : (room signal s size : ℕ) → Quiet (receive t room signal s size)
  unfolding receive
  takes_quiet room signal s size =
      gate-at on (Some room) (Some signal) None s λ v.
      else_does on _ _ _ itself λ _. else_does on _ _ _ itself λ _. else_does on _ _ _ itself λ _. taken-quiet s v _

  pub portions_quiet : (s count size : ℕ) → Quiet (give_portion t s count size)
  unfolding give_portion
  portions_quiet s count size =
      gate-at on None None None s λ v.
      else_does on _ _ _ itself λ _. else_does on _ _ _ itself λ _. else_does on _ _ _ itself λ _. else_does on _ _ _ itself λ _. filling_does on s v (as_it_was refl refl)

  pub cancels_quiet : (room s : ℕ) → Quiet (cancel_job t room s)
  unfolding cancel_job
  cancels_quiet room s =
      gate-at on (Some room) None None s λ v.
      else_does on _ _ _ itself λ c. else_does on _ _ _ itself λ _.
      if_does on (λ _. change_does on s itself v (as_it_was refl refl)) λ _. change_does on s itself v (is-left (slot_at t s) (not-false _ c))

  -- ---- Asking.antt

  pub register_quiet : (spsm : ℕ) → Quiet (register_spsm t spsm)
  unfolding register_spsm
  register_quiet spsm = gate_does on None None None None λ _. else_does on _ _ _ itself λ _. still_does on (with-spsm spsm)

  pub attends_quiet : Quiet (attention t)
  unfolding attention
  attends_quiet = gate_does on None None None None λ _. still_does on itself

  pub asks_quiet : (of : Slot → ℕ) (s : ℕ) → Quiet (query of t s)
  unfolding query
  asks_quiet of s = gate-at on None None None s λ _. still_does on itself

  pub sends_signal_quiet : (signal link : ℕ) (s : Signal) → Quiet (send_signal t signal link s)
  unfolding send_signal
  sends_signal_quiet signal link s = gate_does on None (Some signal) (Some link) None λ _. still_does on with-id
