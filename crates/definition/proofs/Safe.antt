-- What each call has to see to, so that no link's jobs reach another (demand 3): job octets go into slots of the link that carries them,
-- alone, and a slot that changes hands was free or is wiped. Said of tables and moves, without an octet: one lemma a call, and
-- `safe` for all of them. And a link-down that answers 0 leaves no slot of its link.
use Rattle.std.specs.Prelude.{◌≡◌, Bool, true, false, ◌&&◌, List, [], ◌∷◌, map, eqb, leb, Err, None, Ok, Option, Result, Some}
use Rattle.std.proofs.Math.Path.{refl, ap}
use Rattle.std.proofs.Common.{sym, ◌∙◌, eqb-true, ne_eqb}
use Rattle.std.proofs.Math.Bool.{not}
use Prim.Native.Nat.{ℕ}
use Rattle.std.proofs.lemmas.Bool.{eqb-false, not-false}
use Rattle.lists.specs.Choose.{choose}
use Rattle.lists.specs.Both.{and_left}
use Rattle.lists.specs.Each.{take-map_first}
use Rattle.codes.specs.declared.Refusal.{Refusal}
use Rattle.credit.specs.Account.{granted}
use Rattle.sar_join.specs.declared.Joined.{Joined}
use Rattle.sar_join.specs.declared.Joined.TheVariants as Joined
use Rattle.sar_cut.specs.declared.Framed.{Framed}
use Rattle.signal_headers.specs.declared.BadHeader.{BadHeader}
use Rattle.signal_headers.specs.declared.BadHeader.TheVariants.{Cut, Past}
use Rattle.signal_forms.specs.declared.Signal.{Signal}
use Rattle.channel.specs.declared.Answer.TheVariants.{Done}
use Rattle.channel.specs.declared.ChannelState.{ChannelState}
use Rattle.channel.specs.declared.ChannelState.TheVariants.{Disconnected, Connecting, PeerConnecting, Connected, ConnectFailed, PeerDisconnecting, Disconnecting}
use Rattle.channel.specs.declared.L2capChannelConfig.{L2capChannelConfig}
use Rattle.channel.specs.declared.Slot.{Slot}
use Rattle.channel.specs.declared.Table.{Table}
use Rattle.definition.specs.States.{is_disconnected, is_connecting, is_peer_connecting, is_connected, is_due}
use Rattle.definition.specs.Slots.{with_account, with_queue}
use Rattle.definition.specs.Table.{freed, slot_at, live, found, of_link, due_slot, attempt_of, attempt_by, connected_to, slot_of}
use Rattle.definition.specs.Outcome.{sweep, verdict, passed}
use Rattle.definition.specs.Pending.{next_pending, reject_all_pending, accept_pending, reject_pending, not_code, reject_read, drop_pending}
use Rattle.definition.specs.Opening.{create, opened, give_up}
use Rattle.definition.specs.Closing.{inc_ref, dec_ref, disconnecting, disconnect, disconnect_by_cid, disconnected, next_disconnect}
use Rattle.definition.specs.Signals.{on_reject, on_disconnection_req, on_disconnection_res, on_parameters, on_parameter_response, on_conn_req, on_conn_res, on_credits, handled, checked, signalled}
use Rattle.definition.specs.Frames.{joined, dispatch, unsent, planned, send, shifted, moving_up, handing, taken, receive}
use Rattle.definition.specs.Portions.{start_planned, start_job, give_portion, cancel_job}
use Rattle.definition.specs.Asking.{register_spsm, attention, query, send_signal}
use Rattle.definition.specs.Calls.{Call, frame, sends, portions, down, plain, Request, register, signals, pends, rejects_all, accepts, rejects, drops, creates, opens, gives, holds, releases, leaves, leaves_cid, announces, takes, starts, cancels, attends, asks, sends_signal, writes, bare, Holder, by, holder_in, holder, is_by, carrier, serve, decide}
use Rattle.definition.specs.Numbers.{answer_number}
use Rattle.definition.proofs.Numbers.{refused_not_0}
use Rattle.definition.specs.Mem.{Fill}
use Rattle.definition.specs.Forms.{Fit, Basis, Like}
use Rattle.definition.proofs.Forms.{in_use, itself, with-id, with-spsm, still_does, change_does, filling_does, sweep_does, if_does, else_does, gate_does, gate-at, found-passes, free-slot}
use Rattle.definition.proofs.Tells.{cid_slot}
use Rattle.definition.specs.Safe.{Safe, SafeSlot, Without, allotted, kept, mine, wiped}
use Rattle.codes.specs.declared.LeCreditConnResultCode.{LeCreditConnResultCode}
use Rattle.signal_forms.specs.declared.CommandRejectRes.{CommandRejectRes}
use Rattle.signal_forms.specs.declared.ConnParamUpdateReq.{ConnParamUpdateReq}
use Rattle.signal_forms.specs.declared.ConnParamUpdateRes.{ConnParamUpdateRes}
use Rattle.signal_forms.specs.declared.DisconnectionReq.{DisconnectionReq}
use Rattle.signal_forms.specs.declared.DisconnectionRes.{DisconnectionRes}
use Rattle.signal_forms.specs.declared.LeCreditConnReq.{LeCreditConnReq}
use Rattle.signal_forms.specs.declared.LeCreditConnRes.{LeCreditConnRes}
use Rattle.signal_forms.specs.declared.LeCreditFlowInd.{LeCreditFlowInd}

module _ (t : Table) (fit : Fit t) where
  on : {l : Holder} → Basis (SafeSlot l) t
  on = record { keeps = λ x. kept refl refl; fit = fit }

  -- slot s, found by the test q in a state that is not Disconnected, is its link's
  own : (q : ChannelState → Bool) → q Disconnected ≡ false → (s : ℕ) → q (slot_at t s).state ≡ true → by (slot_at t s).link ≡ holder (slot_at t s)
  own q z s e = sym (in_use q z (slot_at t s).state (slot_at t s).link e)

  -- ---- Pending.antt

  pends_safe : {l : Holder} (link : ℕ) (up : Bool) → Safe t l (next_pending t link up)
  unfolding next_pending
  pends_safe link up =
      gate_does on None None (Some link) None λ _.
      if_does on (λ _. else_does on _ _ _ itself λ _. still_does on itself) λ a.
      else_does on _ _ _ itself λ _. change_does on _ itself a (kept refl refl)

  rejects_all_safe : {l : Holder} (room signal link : ℕ) → Safe t l (reject_all_pending t room signal link)
  unfolding reject_all_pending
  rejects_all_safe room signal link = gate_does on (Some room) (Some signal) (Some link) None λ _. else_does on _ _ _ itself λ a. change_does on _ itself a wiped

  accepts_safe : {l : Holder} (signal s : ℕ) (c : L2capChannelConfig) → Safe t l (accept_pending t signal s c)
  unfolding accept_pending
  accepts_safe signal s c =
      gate-at on None (Some signal) None s λ v.
      else_does on _ _ _ itself λ _. else_does on _ _ _ itself λ _. else_does on _ _ _ itself λ a. else_does on _ _ _ itself λ _.
      change_does on s itself v (kept (own is_peer_connecting refl s (not-false _ a)) refl)

  rejects_safe : {l : Holder} (room signal s : ℕ) (result : Option LeCreditConnResultCode) → Safe t l (reject_read t room signal s result)
  unfolding reject_pending not_code
  rejects_safe room signal s None = gate-at on (Some room) (Some signal) None s λ _. still_does on itself
  rejects_safe room signal s (Some result) =
      gate-at on (Some room) (Some signal) None s λ v.
      else_does on _ _ _ itself λ _. else_does on _ _ _ itself λ _. change_does on s itself v wiped

  drops_safe : {l : Holder} (room s : ℕ) → Safe t l (drop_pending t room s)
  unfolding drop_pending
  drops_safe room s =
      gate-at on (Some room) None None s λ a.
      else_does on _ _ _ itself λ _. else_does on _ _ _ itself λ _.
      if_does on (λ _. change_does on s itself a wiped) λ _. change_does on s itself a (kept refl refl)

  -- ---- Opening.antt

  creates_safe : {l : Holder} (signal link spsm : ℕ) (c : L2capChannelConfig) → Safe t l (create t signal link spsm c)
  unfolding create
  creates_safe signal link spsm c =
      gate_does on None (Some signal) (Some link) None λ _.
      else_does on _ _ _ with-id λ _. else_does on _ _ _ with-id λ _. else_does on _ _ _ with-id λ a.
      change_does on _ with-id a (allotted (free-slot t fit a) refl)

  opens_safe : {l : Holder} (room s link : ℕ) (up : Bool) → Safe t l (opened t room s link up)
  unfolding opened
  opens_safe room s link up =
      gate-at on (Some room) None (Some link) s λ a.
      else_does on _ _ _ itself λ _. else_does on _ _ _ itself λ _.
      if_does on (λ _. change_does on s itself a wiped) λ _. if_does on (λ _. change_does on s itself a wiped) λ _.
      if_does on (λ _. change_does on s itself a wiped) λ _.
      else_does on _ _ _ itself λ _. else_does on _ _ _ itself λ _. change_does on s itself a (kept refl refl)

  gives_safe : {l : Holder} (room s : ℕ) → Safe t l (give_up t room s)
  unfolding give_up
  gives_safe room s =
      gate-at on (Some room) None None s λ v.
      if_does on (λ _. change_does on s itself v wiped) λ _. still_does on itself

  -- ---- Closing.antt

  holds_safe : {l : Holder} (s : ℕ) → Safe t l (inc_ref t s)
  unfolding inc_ref
  holds_safe s = gate-at on None None None s λ v. else_does on _ _ _ itself λ _. change_does on s itself v (kept refl refl)

  releases_safe : {l : Holder} (room s : ℕ) → Safe t l (dec_ref t room s)
  unfolding dec_ref
  releases_safe room s =
      gate-at on (Some room) None None s λ a.
      else_does on _ _ _ itself λ _.
      if_does on (λ b. change_does on s itself a (kept (own is_connected refl s (and_left (is_connected (slot_at t s).state) _ b)) refl)) λ _.
      change_does on s itself a (kept refl refl)

  disconnecting_safe : {l : Holder} (s : ℕ) → leb t.n s ≡ false → Safe t l (disconnecting t s)
  unfolding disconnecting
  disconnecting_safe s a = if_does on (λ b. change_does on s itself a (kept (own is_connected refl s b) refl)) λ _. still_does on itself

  leaves_safe : {l : Holder} (room s : ℕ) → Safe t l (disconnect t room s)
  unfolding disconnect
  leaves_safe room s = gate-at on (Some room) None None s λ v. disconnecting_safe s v

  leaves_cid_safe : {l : Holder} (room cid : ℕ) → Safe t l (disconnect_by_cid t room cid)
  unfolding disconnect_by_cid
  leaves_cid_safe room cid = gate_does on (Some room) None None None λ _. if_does on (λ b. disconnecting_safe (slot_of cid) (cid_slot t cid b)) λ _. still_does on itself

  down_safe : {l : Holder} (room link : ℕ) → Safe t l (disconnected t room link)
  unfolding disconnected
  down_safe room link = gate_does on (Some room) None (Some link) None λ _. sweep_does on (of_link link) (λ x _. wiped)

  announces_safe : {l : Holder} (room signal : ℕ) → Safe t l (next_disconnect t room signal)
  unfolding next_disconnect
  announces_safe room signal =
      gate_does on (Some room) (Some signal) None None λ _.
      else_does on _ _ _ itself λ a. if_does on (λ _. change_does on _ itself a wiped) λ _.
      change_does on _ with-id a (kept (own is_due refl _ (found-passes t fit due_slot a)) refl)

  -- ---- Signals.antt

  reject_safe : {l : Holder} (id : ℕ) (b : Option CommandRejectRes) → Safe t l (on_reject t id b)
  unfolding on_reject
  reject_safe id None = still_does on itself
  reject_safe id (Some res) = still_does on itself

  disconnection_req_safe : {l : Holder} (link id : ℕ) (b : Option DisconnectionReq) → Safe t l (on_disconnection_req t link id b)
  unfolding on_disconnection_req
  disconnection_req_safe link id None = still_does on itself
  disconnection_req_safe link id (Some req) =
      else_does on _ _ _ itself λ a. else_does on _ _ _ itself λ b.
      change_does on (slot_of req.dcid) itself (cid_slot t req.dcid (not-false _ a))
      (kept (own (λ k. not (is_disconnected k)) refl (slot_of req.dcid) (and_left (not (is_disconnected (slot_at t (slot_of req.dcid)).state)) _ (not-false _ b))) refl)

  disconnection_res_safe : {l : Holder} (link id : ℕ) (b : Option DisconnectionRes) → Safe t l (on_disconnection_res t link id b)
  unfolding on_disconnection_res
  disconnection_res_safe link id None = still_does on itself
  disconnection_res_safe link id (Some res) =
      else_does on _ _ _ itself λ a. else_does on _ _ _ itself λ _. change_does on (slot_of res.scid) itself (cid_slot t res.scid (not-false _ a)) wiped

  parameters_safe : {l : Holder} (id : ℕ) (b : Option ConnParamUpdateReq) → Safe t l (on_parameters t id b)
  unfolding on_parameters
  parameters_safe id None = still_does on itself
  parameters_safe id (Some req) = else_does on _ _ _ itself λ _. still_does on itself

  parameter_response_safe : {l : Holder} (id : ℕ) (b : Option ConnParamUpdateRes) → Safe t l (on_parameter_response t id b)
  unfolding on_parameter_response
  parameter_response_safe id None = still_does on itself
  parameter_response_safe id (Some res) = still_does on itself

  conn_req_safe : {l : Holder} (link : ℕ) (listening : Bool) (id : ℕ) (b : Option LeCreditConnReq) → Safe t l (on_conn_req t link listening id b)
  unfolding on_conn_req
  conn_req_safe link listening id None = still_does on itself
  conn_req_safe link listening id (Some req) =
      else_does on _ _ _ itself λ _. else_does on _ _ _ itself λ _. else_does on _ _ _ itself λ _. else_does on _ _ _ itself λ _. else_does on _ _ _ itself λ a.
      change_does on _ itself a (allotted (free-slot t fit a) refl)

  conn_res_safe : {l : Holder} (link id : ℕ) (b : Option LeCreditConnRes) → Safe t l (on_conn_res t link id b)
  unfolding on_conn_res
  conn_res_safe link id None = still_does on itself
  conn_res_safe link id (Some res) =
      if_does on (λ _. sweep_does on (attempt_of link) (λ x _. wiped)) λ a.
      let s : ℕ = found (attempt_by link id) t in
      let x : Slot = slot_at t s in
      let e = own is_connecting refl s (and_left (is_connecting x.state) _ (and_left (attempt_of link x) _ (found-passes t fit (attempt_by link id) a))) in
      if_does on (λ _. change_does on s itself a (kept e refl)) λ _. if_does on (λ _. change_does on s itself a (kept e refl)) λ _. change_does on s itself a (kept e refl)

  credits_safe : {l : Holder} (link id : ℕ) (b : Option LeCreditFlowInd) → Safe t l (on_credits t link id b)
  unfolding on_credits
  credits_safe link id None = still_does on itself
  credits_safe link id (Some ind) =
      else_does on _ _ _ itself λ a.
      let s : ℕ = found (connected_to link ind.cid) t in
      let e = own is_connected refl s (and_left (is_connected (slot_at t s).state) _ (found-passes t fit (connected_to link ind.cid) a)) in
      if_does on (λ _. change_does on s itself a (kept e refl)) λ _. change_does on s itself a (kept refl refl)

  handled_safe : {l : Holder} (link : ℕ) (listening central : Bool) (code id : ℕ) (body : List ℕ) → Safe t l (handled t link listening central code id body)
  unfolding handled
  handled_safe link listening central code id body =
      if_does on (λ _. reject_safe id _) λ _. if_does on (λ _. disconnection_req_safe link id _) λ _.
      if_does on (λ _. disconnection_res_safe link id _) λ _.
      if_does on (λ _. if_does on (λ _. parameters_safe id _) λ _. still_does on itself) λ _.
      if_does on (λ _. parameter_response_safe id _) λ _. if_does on (λ _. conn_req_safe link listening id _) λ _.
      if_does on (λ _. conn_res_safe link id _) λ _. if_does on (λ _. credits_safe link id _) λ _. still_does on itself

  checked_safe : {l : Holder} (link : ℕ) (listening central : Bool) (pdu : List ℕ) (h : Result (Unit {0}) BadHeader) → Safe t l (checked t link listening central pdu h)
  unfolding checked
  checked_safe link listening central pdu (Err Cut) = still_does on itself
  checked_safe link listening central pdu (Err (Past id)) = still_does on itself
  checked_safe link listening central pdu (Ok tt) = else_does on _ _ _ itself λ _. handled_safe link listening central _ _ _

  signals_safe : {l : Holder} (room signal link : ℕ) (listening central : Bool) (pdu : List ℕ) → Safe t l (signalled t room signal link listening central pdu)
  unfolding signalled
  signals_safe room signal link listening central pdu = gate_does on (Some room) (Some signal) (Some link) None λ _. checked_safe link listening central pdu _

  -- ---- Frames.antt

  -- x is slot s with its credit used, connected, of link k
  joined_safe : (k s count : ℕ) (x : Slot) → leb t.n s ≡ false → by x.link ≡ holder (slot_at t s) → holder x ≡ holder (slot_at t s) → holder (slot_at t s) ≡ by k
      → (j : Result Joined Refusal) → Safe t (by k) (joined t s x count j)
  unfolding joined
  joined_safe k s count x a b c d (Err r) = change_does on s itself a (kept b refl)
  joined_safe k s count x a b c d (Ok (Joined.Assembling g)) = change_does on s itself a (mine c d)
  joined_safe k s count x a b c d (Ok (Joined.Finished len)) = change_does on s itself a (mine c d)
  joined_safe k s count x a b c d (Ok Joined.Dropped) = change_does on s itself a (kept c refl)

  frame_safe : (room link cid : ℕ) (head : List ℕ) (count : ℕ) → Safe t (by link) (dispatch t room link cid head count)
  unfolding dispatch
  frame_safe room link cid head count =
      gate_does on (Some room) None (Some link) None λ _.
      else_does on _ _ _ itself λ a. else_does on _ _ _ itself λ b. else_does on _ _ _ itself λ d. if_does on (λ _. change_does on _ itself (cid_slot t cid (not-false _ a)) (kept refl refl)) λ _.
      let s : ℕ = slot_of cid in
      let e = own is_connected refl s (not-false _ b) in
      joined_safe link s count _ (cid_slot t cid (not-false _ a)) e refl (sym e ∙ ap by (eqb-true (slot_at t s).link link (not-false _ d))) _

  unsent_safe : {l : Holder} (s : ℕ) (r : Refusal) → leb t.n s ≡ false → Safe t l (unsent t s (slot_at t s) r)
  unsent_safe s r a = if_does on (λ _. change_does on s itself a (kept refl refl)) (λ _. still_does on itself)

  planned_safe : {l : Holder} (s count : ℕ) → leb t.n s ≡ false → (p : Result Framed Refusal) → Safe t l (planned t s (slot_at t s) count p)
  unfolding planned
  planned_safe s count a (Err r) = unsent_safe s r a
  planned_safe s count a (Ok framed) = change_does on s itself a (kept refl refl)

  sends_safe : {l : Holder} (s count out : ℕ) → Safe t l (send t s count out)
  unfolding send
  sends_safe s count out = gate-at on None None None s λ v. else_does on _ _ _ itself λ _. else_does on _ _ _ itself λ _. planned_safe s count v _

  handing_safe : {l : Holder} {t' : Table} (s : ℕ) (x : Slot) (signal : List Fill) → Like t t' → leb t.n s ≡ false → holder x ≡ holder (slot_at t s) → Safe t l (handing t' s x signal)
  handing_safe {t' = t'} s x signal q a e =
      let c = change_does on s {y = with_queue (shifted x.queue) x} {ms = moving_up t' x} {a = Done} {out = signal} q a (kept e refl) in
      record { parts = c.parts; slots = c.slots; width = c.width; fit = c.fit }

  taken_safe : {l : Holder} (s : ℕ) → leb t.n s ≡ false → (g : Option ℕ) → Safe t l (taken t s (slot_at t s) g)
  unfolding taken
  taken_safe s a None = handing_safe s (slot_at t s) _ itself a refl
  taken_safe s a (Some n) = handing_safe s (with_account (granted (slot_at t s).account n) (slot_at t s)) _ with-id a refl

  takes_safe : {l : Holder} (room signal s size : ℕ) → Safe t l (receive t room signal s size)
  unfolding receive
  takes_safe room signal s size =
      gate-at on (Some room) (Some signal) None s λ v.
      else_does on _ _ _ itself λ _. else_does on _ _ _ itself λ _. else_does on _ _ _ itself λ _. taken_safe s v _

  -- ---- Portions.antt

  started_safe : {l : Holder} (s count size : ℕ) → leb t.n s ≡ false → (p : Result Framed Refusal) → Safe t l (start_planned t s (slot_at t s) count size p)
  unfolding start_planned
  started_safe s count size a (Err r) = unsent_safe s r a
  started_safe s count size a (Ok framed) = else_does on _ _ _ itself λ _. filling_does on s a (kept refl refl)

  starts_safe : {l : Holder} (s count size : ℕ) → Safe t l (start_job t s count size)
  unfolding start_job
  starts_safe s count size = gate-at on None None None s λ v. else_does on _ _ _ itself λ _. else_does on _ _ _ itself λ _. started_safe s count size v _

  portions_safe : {l : Holder} (s count size : ℕ) → Safe t l (give_portion t s count size)
  unfolding give_portion
  portions_safe s count size =
      gate-at on None None None s λ v.
      else_does on _ _ _ itself λ _. else_does on _ _ _ itself λ _. else_does on _ _ _ itself λ _. else_does on _ _ _ itself λ _. filling_does on s v (kept refl refl)

  cancels_safe : {l : Holder} (room s : ℕ) → Safe t l (cancel_job t room s)
  unfolding cancel_job
  cancels_safe room s =
      gate-at on (Some room) None None s λ v.
      else_does on _ _ _ itself λ c. else_does on _ _ _ itself λ _.
      if_does on (λ _. change_does on s itself v (kept refl refl)) λ _. change_does on s itself v (kept (own is_connected refl s (not-false _ c)) refl)

  -- ---- Asking.antt

  register_safe : {l : Holder} (spsm : ℕ) → Safe t l (register_spsm t spsm)
  unfolding register_spsm
  register_safe spsm = gate_does on None None None None λ _. else_does on _ _ _ itself λ _. still_does on (with-spsm spsm)

  attends_safe : {l : Holder} → Safe t l (attention t)
  unfolding attention
  attends_safe = gate_does on None None None None λ _. still_does on itself

  asks_safe : {l : Holder} (of : Slot → ℕ) (s : ℕ) → Safe t l (query of t s)
  unfolding query
  asks_safe of s = gate-at on None None None s λ _. still_does on itself

  sends_signal_safe : {l : Holder} (signal link : ℕ) (s : Signal) → Safe t l (send_signal t signal link s)
  unfolding send_signal
  sends_signal_safe signal link s = gate_does on None (Some signal) (Some link) None λ _. still_does on with-id

  -- ---- all calls

  serve_safe : {l : Holder} (r : Request) (room out tray : ℕ) → Safe t l (serve t r room out tray)
  unfolding serve
  serve_safe (register spsm) room out tray = register_safe spsm
  serve_safe (signals link listening central pdu) room out tray = signals_safe room out link listening central pdu
  serve_safe (pends link up) room out tray = pends_safe link up
  serve_safe (rejects_all link) room out tray = rejects_all_safe room out link
  serve_safe (accepts s c) room out tray = accepts_safe out s c
  serve_safe (rejects s result) room out tray = rejects_safe room out s result
  serve_safe (drops s) room out tray = drops_safe room s
  serve_safe (creates link spsm c) room out tray = creates_safe out link spsm c
  serve_safe (opens s link up) room out tray = opens_safe room s link up
  serve_safe (gives s) room out tray = gives_safe room s
  serve_safe (holds s) room out tray = holds_safe s
  serve_safe (releases s) room out tray = releases_safe room s
  serve_safe (leaves s) room out tray = leaves_safe room s
  serve_safe (leaves_cid cid) room out tray = leaves_cid_safe room cid
  serve_safe announces room out tray = announces_safe room out
  serve_safe (takes s) room out tray = takes_safe room out s tray
  serve_safe (starts s l) room out tray = starts_safe s l out
  serve_safe (cancels s) room out tray = cancels_safe room s
  serve_safe attends room out tray = attends_safe
  serve_safe (asks of s) room out tray = asks_safe of s
  serve_safe (sends_signal link s) room out tray = sends_signal_safe out link s
  serve_safe (writes octets) room out tray = still_does on itself

  pub safe : (c : Call) (count room out tray : ℕ) → Safe t (carrier t c) (decide t (bare t c) count room out tray)
  unfolding decide carrier bare
  safe (frame link cid payload) count room out tray = frame_safe room link cid _ count
  safe (sends s sdu w) count room out tray = sends_safe s count out
  safe (portions s octets w) count room out tray = portions_safe s count out
  safe (down link) count room out tray = down_safe room link
  safe (plain r w v) count room out tray = serve_safe r room out tray

not-of : (k : ℕ) (q : ChannelState) (l : ℕ) → (not (is_disconnected q) && eqb l k) ≡ false → is_by k (holder_in q l) ≡ false
not-of k Disconnected l e = refl
not-of k (Connecting i) l e = ne_eqb k l (λ g. eqb-false l k e (sym g))
not-of k (PeerConnecting i) l e = ne_eqb k l (λ g. eqb-false l k e (sym g))
not-of k Connected l e = ne_eqb k l (λ g. eqb-false l k e (sym g))
not-of k (ConnectFailed c) l e = ne_eqb k l (λ g. eqb-false l k e (sym g))
not-of k (PeerDisconnecting i) l e = ne_eqb k l (λ g. eqb-false l k e (sym g))
not-of k (Disconnecting a) l e = ne_eqb k l (λ g. eqb-false l k e (sym g))

swept_not : (k : ℕ) (x : Slot) (b : Bool) → of_link k x ≡ b → is_by k (holder (choose b (freed x) x)) ≡ false
unfolding choose
swept_not k x true e = refl
swept_not k x false e = not-of k x.state x.link e

without_swept : (k : ℕ) (xs : List Slot) → Without k (map (λ x. choose (of_link k x) (freed x) x) xs)
without_swept k [] = tt
without_swept k (x ∷ xs) = (swept_not k x (of_link k x) refl, without_swept k xs)

-- "Link down frees all its slots"
pub down_clears : (t : Table) (k room : ℕ) → answer_number (disconnected t room k).answer ≡ 0 → Without k (live (disconnected t room k).table)
unfolding disconnected
down_clears t k room = go (verdict t (Some room) None (Some k) None)
  where
    go : (v : Result (Unit {0}) Refusal) → answer_number (passed t v (sweep t (of_link k) Done)).answer ≡ 0 → Without k (live (passed t v (sweep t (of_link k) Done)).table)
    go (Ok tt) e = rw (take-map_first t.n (λ x. choose (of_link k x) (freed x) x) t.slots) (without_swept k (live t))
    go (Err r) e = absurd (eqb-false _ 0 (refused_not_0 r) e)
