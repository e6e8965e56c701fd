-- Every call keeps a table one that its octets give back, and leaves the slots past N alone: one lemma a call, `keeps` for all of them. A made table
-- is such a table, so every table of a run is (`made-sized`, `run-sized`).
use Rattle.std.specs.Prelude.{◌≡◌, Bool, true, false, not, List, [], ◌∷◌, eqb, leb, length, get_or, drop, replicate, None, Option, Some, Result, Ok, Err}
use Rattle.std.proofs.Math.Path.{refl}
use Rattle.std.proofs.Common.{◌∙◌, subst, arith, leb-true}
use Prim.Native.Nat.{ℕ, zero, suc}
use Rattle.std.proofs.lemmas.Bool.{eqb-false, not-false}
use Rattle.lists.specs.Choose.{if_cases}
use Rattle.lists.specs.Both.{and_left, and_right}
use Rattle.channel.specs.Limits.{slots_most, depth_most, packet_least, packet_most}
use Rattle.credit.specs.Account.{granted}
use Rattle.sar_join.specs.declared.Joined.{Joined}
use Rattle.sar_cut.specs.declared.Framed.{Framed}
use Rattle.signal_headers.specs.declared.BadHeader.{BadHeader}
use Rattle.signal_headers.specs.declared.BadHeader.TheVariants.{Cut, Past}
use Rattle.signal_forms.specs.declared.Signal.{Signal}
use Rattle.channel.specs.declared.Answer.TheVariants.{Done}
use Rattle.channel.specs.declared.L2capChannelConfig.{L2capChannelConfig}
use Rattle.channel.specs.declared.Slot.{Slot}
use Rattle.channel.specs.declared.Table.{Table}
use Rattle.definition.specs.Table.{fresh, gap, pending_of, sizes_fit, room_size, slot_at, found, of_link, due_slot, attempt_of, attempt_by, connected_to, with_account, with_queue, slot_of}
use Rattle.definition.specs.Pending.{next_pending, reject_all_pending, accept_pending, reject_pending, not_code, reject_read, drop_pending}
use Rattle.definition.specs.Opening.{create, opened, give_up}
use Rattle.definition.specs.Closing.{inc_ref, dec_ref, disconnecting, disconnect, disconnect_by_cid, disconnected, next_disconnect}
use Rattle.definition.specs.Signals.{on_reject, on_disconnection_req, on_disconnection_res, on_parameters, on_parameter_response, on_conn_req, on_conn_res, on_credits, handled, checked, signalled}
use Rattle.definition.specs.Portions.{start_planned, start_job, give_portion, cancel_job}
use Rattle.definition.specs.Frames.{joined, dispatch, planned, send, shifted, moving_up, handing, taken, receive}
use Rattle.definition.specs.Asking.{Made, blank, make, register_spsm, attention, query, send_signal}
use Rattle.definition.specs.Calls.{Call, frame, sends, portions, down, plain, Request, register, signals, pends, rejects_all, accepts, rejects, drops, creates, opens, gives, holds, releases, leaves, leaves_cid, announces, takes, starts, cancels, attends, asks, sends_signal, writes, jobs, bare, serve, decide}
use Rattle.definition.specs.Numbers.{answer_number}
use Rattle.definition.specs.Mem.{Fill}
use Rattle.definition.proofs.Tells.{cid_slot}
use Rattle.definition.specs.Run.{State, lent, out_window, job_window, after, run}
use Rattle.edge_layout.specs.Back.{Sized}
use Rattle.edge_sized.specs.Kept.{Long, Kept, Like}
use Rattle.edge_sized.proofs.Kept.{queued_long, shifted-long, long-at, itself, with-id, with-spsm, still-keeps, change-keeps, filling-keeps, sweep-keeps, if_keeps, else_keeps, gate-keeps, gate-at}
use Rattle.codes.specs.declared.LeCreditConnResultCode.{LeCreditConnResultCode}
use Rattle.signal_forms.specs.declared.CommandRejectRes.{CommandRejectRes}
use Rattle.signal_forms.specs.declared.ConnParamUpdateReq.{ConnParamUpdateReq}
use Rattle.signal_forms.specs.declared.ConnParamUpdateRes.{ConnParamUpdateRes}
use Rattle.signal_forms.specs.declared.DisconnectionReq.{DisconnectionReq}
use Rattle.signal_forms.specs.declared.DisconnectionRes.{DisconnectionRes}
use Rattle.signal_forms.specs.declared.LeCreditConnReq.{LeCreditConnReq}
use Rattle.signal_forms.specs.declared.LeCreditConnRes.{LeCreditConnRes}
use Rattle.signal_forms.specs.declared.LeCreditFlowInd.{LeCreditFlowInd}
use Rattle.codes.specs.declared.Refusal.{Refusal}

module _ (t : Table) (w : Sized t) where
  old : (s : ℕ) → Long (slot_at t s)
  old = long-at w

  -- ---- Pending.antt

  pends_keeps : (link : ℕ) (up : Bool) → Kept t (next_pending t link up)
  unfolding next_pending
  pends_keeps link up =
      gate-keeps w None None (Some link) None
      (if_keeps w (λ _. else_keeps w _ _ _ itself λ _. still-keeps w itself) λ a.
      else_keeps w _ _ _ itself λ _. change-keeps w _ _ _ itself a (old (found (pending_of link) t)))

  rejects_all_keeps : (room signal link : ℕ) → Kept t (reject_all_pending t room signal link)
  unfolding reject_all_pending
  rejects_all_keeps room signal link = gate-keeps w (Some room) (Some signal) (Some link) None (else_keeps w _ _ _ itself λ a. change-keeps w _ _ _ itself a refl)

  accepts_keeps : (signal s : ℕ) (c : L2capChannelConfig) → Kept t (accept_pending t signal s c)
  unfolding accept_pending
  accepts_keeps signal s c =
      gate-at w None (Some signal) None s λ v.
      else_keeps w _ _ _ itself λ _. else_keeps w _ _ _ itself λ _. else_keeps w _ _ _ itself λ a. else_keeps w _ _ _ itself λ _.
      change-keeps w _ _ s itself v (old s)

  rejects_keeps : (room signal s : ℕ) (result : Option LeCreditConnResultCode) → Kept t (reject_read t room signal s result)
  unfolding reject_pending not_code
  rejects_keeps room signal s None = gate-at w (Some room) (Some signal) None s λ _. still-keeps w itself
  rejects_keeps room signal s (Some result) =
      gate-at w (Some room) (Some signal) None s λ v.
      else_keeps w _ _ _ itself λ _. else_keeps w _ _ _ itself λ _. change-keeps w _ _ s itself v refl

  drops_keeps : (room s : ℕ) → Kept t (drop_pending t room s)
  unfolding drop_pending
  drops_keeps room s =
      gate-at w (Some room) None None s λ a.
      else_keeps w _ _ _ itself λ _. else_keeps w _ _ _ itself λ _.
      if_keeps w (λ _. change-keeps w _ _ s itself a refl) λ _. change-keeps w _ _ s itself a (old s)

  -- ---- Opening.antt

  creates_keeps : (signal link spsm : ℕ) (c : L2capChannelConfig) → Kept t (create t signal link spsm c)
  unfolding create
  creates_keeps signal link spsm c =
      gate-keeps w None (Some signal) (Some link) None
      (else_keeps w _ _ _ with-id λ _. else_keeps w _ _ _ with-id λ _. else_keeps w _ _ _ with-id λ a.
      change-keeps w _ _ _ with-id a refl)

  opens_keeps : (room s link : ℕ) (up : Bool) → Kept t (opened t room s link up)
  unfolding opened
  opens_keeps room s link up =
      gate-at w (Some room) None (Some link) s λ a.
      else_keeps w _ _ _ itself λ _. else_keeps w _ _ _ itself λ _.
      if_keeps w (λ _. change-keeps w _ _ s itself a refl) λ _. if_keeps w (λ _. change-keeps w _ _ s itself a refl) λ _.
      if_keeps w (λ _. change-keeps w _ _ s itself a refl) λ _.
      else_keeps w _ _ _ itself λ _. else_keeps w _ _ _ itself λ _. change-keeps w _ _ s itself a (old s)

  gives-keeps : (room s : ℕ) → Kept t (give_up t room s)
  unfolding give_up
  gives-keeps room s =
      gate-at w (Some room) None None s λ v.
      if_keeps w (λ _. change-keeps w _ _ s itself v refl) λ _. still-keeps w itself

  -- ---- Closing.antt

  holds-keeps : (s : ℕ) → Kept t (inc_ref t s)
  unfolding inc_ref
  holds-keeps s = gate-at w None None None s λ v. else_keeps w _ _ _ itself λ _. change-keeps w _ _ s itself v (old s)

  releases_keeps : (room s : ℕ) → Kept t (dec_ref t room s)
  unfolding dec_ref
  releases_keeps room s =
      gate-at w (Some room) None None s λ a.
      else_keeps w _ _ _ itself λ _.
      if_keeps w (λ b. change-keeps w _ _ s itself a (old s)) λ _.
      change-keeps w _ _ s itself a (old s)

  disconnecting-keeps : (s : ℕ) → leb t.n s ≡ false → Kept t (disconnecting t s)
  unfolding disconnecting
  disconnecting-keeps s a = if_keeps w (λ b. change-keeps w _ _ s itself a (old s)) λ _. still-keeps w itself

  leaves-keeps : (room s : ℕ) → Kept t (disconnect t room s)
  unfolding disconnect
  leaves-keeps room s = gate-at w (Some room) None None s λ v. disconnecting-keeps s v

  leaves_cid_keeps : (room cid : ℕ) → Kept t (disconnect_by_cid t room cid)
  unfolding disconnect_by_cid
  leaves_cid_keeps room cid = gate-keeps w (Some room) None None None (if_keeps w (λ b. disconnecting-keeps (slot_of cid) (cid_slot t cid b)) λ _. still-keeps w itself)

  down_keeps : (room link : ℕ) → Kept t (disconnected t room link)
  unfolding disconnected
  down_keeps room link = gate-keeps w (Some room) None (Some link) None (sweep-keeps w (of_link link))

  announces_keeps : (room signal : ℕ) → Kept t (next_disconnect t room signal)
  unfolding next_disconnect
  announces_keeps room signal =
      gate-keeps w (Some room) (Some signal) None None
      (else_keeps w _ _ _ itself λ a. if_keeps w (λ _. change-keeps w _ _ _ itself a refl) λ _.
      change-keeps w _ _ _ with-id a (old (found due_slot t)))

  -- ---- Signals.antt

  reject-keeps : (id : ℕ) (b : Option CommandRejectRes) → Kept t (on_reject t id b)
  unfolding on_reject
  reject-keeps id None = still-keeps w itself
  reject-keeps id (Some res) = still-keeps w itself

  disconnection_req-keeps : (link id : ℕ) (b : Option DisconnectionReq) → Kept t (on_disconnection_req t link id b)
  unfolding on_disconnection_req
  disconnection_req-keeps link id None = still-keeps w itself
  disconnection_req-keeps link id (Some req) =
      else_keeps w _ _ _ itself λ a. else_keeps w _ _ _ itself λ b.
      change-keeps w _ _ (slot_of req.dcid) itself (cid_slot t req.dcid (not-false _ a)) (old (slot_of req.dcid))

  disconnection_res-keeps : (link id : ℕ) (b : Option DisconnectionRes) → Kept t (on_disconnection_res t link id b)
  unfolding on_disconnection_res
  disconnection_res-keeps link id None = still-keeps w itself
  disconnection_res-keeps link id (Some res) =
      else_keeps w _ _ _ itself λ a. else_keeps w _ _ _ itself λ _. change-keeps w _ _ (slot_of res.scid) itself (cid_slot t res.scid (not-false _ a)) refl

  parameters-keeps : (id : ℕ) (b : Option ConnParamUpdateReq) → Kept t (on_parameters t id b)
  unfolding on_parameters
  parameters-keeps id None = still-keeps w itself
  parameters-keeps id (Some req) = else_keeps w _ _ _ itself λ _. still-keeps w itself

  parameter_response_keeps : (id : ℕ) (b : Option ConnParamUpdateRes) → Kept t (on_parameter_response t id b)
  unfolding on_parameter_response
  parameter_response_keeps id None = still-keeps w itself
  parameter_response_keeps id (Some res) = still-keeps w itself

  conn_req_keeps : (link : ℕ) (listening : Bool) (id : ℕ) (b : Option LeCreditConnReq) → Kept t (on_conn_req t link listening id b)
  unfolding on_conn_req
  conn_req_keeps link listening id None = still-keeps w itself
  conn_req_keeps link listening id (Some req) =
      else_keeps w _ _ _ itself λ _. else_keeps w _ _ _ itself λ _. else_keeps w _ _ _ itself λ _. else_keeps w _ _ _ itself λ _. else_keeps w _ _ _ itself λ a.
      change-keeps w _ _ _ itself a refl

  conn_res_keeps : (link id : ℕ) (b : Option LeCreditConnRes) → Kept t (on_conn_res t link id b)
  unfolding on_conn_res
  conn_res_keeps link id None = still-keeps w itself
  conn_res_keeps link id (Some res) =
      if_keeps w (λ _. sweep-keeps w (attempt_of link)) λ a.
      let s : ℕ = found (attempt_by link id) t in
      if_keeps w (λ _. change-keeps w _ _ s itself a (old s)) λ _. if_keeps w (λ _. change-keeps w _ _ s itself a (old s)) λ _. change-keeps w _ _ s itself a (old s)

  credits-keeps : (link id : ℕ) (b : Option LeCreditFlowInd) → Kept t (on_credits t link id b)
  unfolding on_credits
  credits-keeps link id None = still-keeps w itself
  credits-keeps link id (Some ind) =
      else_keeps w _ _ _ itself λ a.
      let s : ℕ = found (connected_to link ind.cid) t in
      if_keeps w (λ _. change-keeps w _ _ s itself a (old s)) λ _. change-keeps w _ _ s itself a (old s)

  handled-keeps : (link : ℕ) (listening central : Bool) (code id : ℕ) (body : List ℕ) → Kept t (handled t link listening central code id body)
  unfolding handled
  handled-keeps link listening central code id body =
      if_keeps w (λ _. reject-keeps id _) λ _. if_keeps w (λ _. disconnection_req-keeps link id _) λ _.
      if_keeps w (λ _. disconnection_res-keeps link id _) λ _.
      if_keeps w (λ _. if_keeps w (λ _. parameters-keeps id _) λ _. still-keeps w itself) λ _.
      if_keeps w (λ _. parameter_response_keeps id _) λ _. if_keeps w (λ _. conn_req_keeps link listening id _) λ _.
      if_keeps w (λ _. conn_res_keeps link id _) λ _. if_keeps w (λ _. credits-keeps link id _) λ _. still-keeps w itself

  checked-keeps : (link : ℕ) (listening central : Bool) (pdu : List ℕ) (h : Result (Unit {0}) BadHeader) → Kept t (checked t link listening central pdu h)
  unfolding checked
  checked-keeps link listening central pdu (Err Cut) = still-keeps w itself
  checked-keeps link listening central pdu (Err (Past id)) = still-keeps w itself
  checked-keeps link listening central pdu (Ok tt) = else_keeps w _ _ _ itself λ _. handled-keeps link listening central _ _ _

  signals_keeps : (room signal link : ℕ) (listening central : Bool) (pdu : List ℕ) → Kept t (signalled t room signal link listening central pdu)
  unfolding signalled
  signals_keeps room signal link listening central pdu = gate-keeps w (Some room) (Some signal) (Some link) None (checked-keeps link listening central pdu _)

  -- ---- Frames.antt

  -- x is slot s with its credit used
  joined_keeps : (s count : ℕ) (x : Slot) → leb t.n s ≡ false → Long x → (j : Result Joined Refusal) → Kept t (joined t s x count j)
  unfolding joined
  joined_keeps s count x a h (Err r) = change-keeps w _ _ s itself a h
  joined_keeps s count x a h (Ok (Joined.Assembling g)) = change-keeps w _ _ s itself a h
  joined_keeps s count x a h (Ok (Joined.Finished len)) = change-keeps w _ _ s itself a (queued_long len x.queue h)
  joined_keeps s count x a h (Ok Joined.Dropped) = change-keeps w _ _ s itself a h

  frame-keeps : (room link cid : ℕ) (head : List ℕ) (count : ℕ) → Kept t (dispatch t room link cid head count)
  unfolding dispatch
  frame-keeps room link cid head count =
      gate-keeps w (Some room) None (Some link) None
      (else_keeps w _ _ _ itself λ a. else_keeps w _ _ _ itself λ _. else_keeps w _ _ _ itself λ _. if_keeps w (λ _. change-keeps w _ _ _ itself (cid_slot t cid (not-false _ a)) (old (slot_of cid))) λ _.
      joined_keeps (slot_of cid) count _ (cid_slot t cid (not-false _ a)) (old (slot_of cid)) _)

  planned-keeps : (s count : ℕ) → leb t.n s ≡ false → (p : Result Framed Refusal) → Kept t (planned t s (slot_at t s) count p)
  unfolding planned
  planned-keeps s count a (Err r) = if_keeps w (λ _. change-keeps w _ _ s itself a (old s)) (λ _. still-keeps w itself)
  planned-keeps s count a (Ok framed) = change-keeps w _ _ s itself a (old s)

  sends_keeps : (s count out : ℕ) → Kept t (send t s count out)
  unfolding send
  sends_keeps s count out = gate-at w None None None s λ v. else_keeps w _ _ _ itself λ _. else_keeps w _ _ _ itself λ _. planned-keeps s count v _

  handing-keeps : {t' : Table} (s : ℕ) (x : Slot) (signal : List Fill) → Like t t' → leb t.n s ≡ false → Long x → Kept t (handing t' s x signal)
  handing-keeps {t' = t'} s x signal q a h =
      let c = change-keeps w (with_queue (shifted x.queue) x) (moving_up t' x) s {a = Done} {out = signal} q a (shifted-long x.queue h) in
      record { sized = c.sized; n = c.n; past = c.past }

  taken-keeps : (s : ℕ) → leb t.n s ≡ false → (g : Option ℕ) → Kept t (taken t s (slot_at t s) g)
  unfolding taken
  taken-keeps s a None = handing-keeps s (slot_at t s) _ itself a (old s)
  taken-keeps s a (Some n) = handing-keeps s (with_account (granted (slot_at t s).account n) (slot_at t s)) _ with-id a (old s)

  takes_keeps : (room signal s size : ℕ) → Kept t (receive t room signal s size)
  unfolding receive
  takes_keeps room signal s size =
      gate-at w (Some room) (Some signal) None s λ v.
      else_keeps w _ _ _ itself λ _. else_keeps w _ _ _ itself λ _. else_keeps w _ _ _ itself λ _. taken-keeps s v _

  -- ---- Portions.antt

  start_planned-keeps : (s l size : ℕ) → leb t.n s ≡ false → (p : Result Framed Refusal) → Kept t (start_planned t s (slot_at t s) l size p)
  unfolding start_planned
  start_planned-keeps s l size a (Err r) = if_keeps w (λ _. change-keeps w _ _ s itself a (old s)) (λ _. still-keeps w itself)
  start_planned-keeps s l size a (Ok framed) = else_keeps w _ _ _ itself λ _. filling-keeps w _ s a (old s)

  starts_keeps : (s l out : ℕ) → Kept t (start_job t s l out)
  unfolding start_job
  starts_keeps s l out = gate-at w None None None s λ v. else_keeps w _ _ _ itself λ _. else_keeps w _ _ _ itself λ _. start_planned-keeps s l out v _

  portions_keeps : (s count out : ℕ) → Kept t (give_portion t s count out)
  unfolding give_portion
  portions_keeps s count out =
      gate-at w None None None s λ v.
      else_keeps w _ _ _ itself λ _. else_keeps w _ _ _ itself λ _. else_keeps w _ _ _ itself λ _. else_keeps w _ _ _ itself λ _. filling-keeps w _ s v (old s)

  cancels_keeps : (room s : ℕ) → Kept t (cancel_job t room s)
  unfolding cancel_job
  cancels_keeps room s =
      gate-at w (Some room) None None s λ v.
      else_keeps w _ _ _ itself λ _. else_keeps w _ _ _ itself λ _.
      if_keeps w (λ _. change-keeps w _ _ s itself v (old s)) λ _. change-keeps w _ _ s itself v (old s)

  -- ---- Asking.antt

  register_keeps : (spsm : ℕ) → Kept t (register_spsm t spsm)
  unfolding register_spsm
  register_keeps spsm = gate-keeps w None None None None (else_keeps w _ _ _ itself λ _. still-keeps w (with-spsm spsm))

  attends_keeps : Kept t (attention t)
  unfolding attention
  attends_keeps = gate-keeps w None None None None (still-keeps w itself)

  asks_keeps : (of : Slot → ℕ) (s : ℕ) → Kept t (query of t s)
  unfolding query
  asks_keeps of s = gate-at w None None None s λ _. still-keeps w itself

  sends_signal_keeps : (signal link : ℕ) (s : Signal) → Kept t (send_signal t signal link s)
  unfolding send_signal
  sends_signal_keeps signal link s = gate-keeps w None (Some signal) (Some link) None (still-keeps w with-id)

  -- ---- all calls

  serve-keeps : (r : Request) (room out tray : ℕ) → Kept t (serve t r room out tray)
  unfolding serve
  serve-keeps (register spsm) room out tray = register_keeps spsm
  serve-keeps (signals link listening central pdu) room out tray = signals_keeps room out link listening central pdu
  serve-keeps (pends link up) room out tray = pends_keeps link up
  serve-keeps (rejects_all link) room out tray = rejects_all_keeps room out link
  serve-keeps (accepts s c) room out tray = accepts_keeps out s c
  serve-keeps (rejects s result) room out tray = rejects_keeps room out s result
  serve-keeps (drops s) room out tray = drops_keeps room s
  serve-keeps (creates link spsm c) room out tray = creates_keeps out link spsm c
  serve-keeps (opens s link up) room out tray = opens_keeps room s link up
  serve-keeps (gives s) room out tray = gives-keeps room s
  serve-keeps (holds s) room out tray = holds-keeps s
  serve-keeps (releases s) room out tray = releases_keeps room s
  serve-keeps (leaves s) room out tray = leaves-keeps room s
  serve-keeps (leaves_cid cid) room out tray = leaves_cid_keeps room cid
  serve-keeps announces room out tray = announces_keeps room out
  serve-keeps (takes s) room out tray = takes_keeps room out s tray
  serve-keeps (starts s l) room out tray = starts_keeps s l out
  serve-keeps (cancels s) room out tray = cancels_keeps room s
  serve-keeps attends room out tray = attends_keeps
  serve-keeps (asks of s) room out tray = asks_keeps of s
  serve-keeps (sends_signal link s) room out tray = sends_signal_keeps out link s
  serve-keeps (writes octets) room out tray = still-keeps w itself

  pub keeps : (c : Call) (count room out tray : ℕ) → Kept t (decide t (bare t c) count room out tray)
  unfolding decide bare
  keeps (frame link cid payload) count room out tray = frame-keeps room link cid _ count
  keeps (sends s sdu w) count room out tray = sends_keeps s count out
  keeps (portions s octets w) count room out tray = portions_keeps s count out
  keeps (down link) count room out tray = down_keeps room link
  keeps (plain r w v) count room out tray = serve-keeps r room out tray

-- ---- runs

pub after-sized : (s : State) (c : Call) → Sized s.table → Sized (after s c).table
unfolding after
after-sized s c w = (keeps s.table w c _ _ _ _).sized

pub run-sized : (s : State) (cs : List Call) → Sized s.table → Sized (run s cs).table
unfolding run
run-sized s [] w = w
run-sized s (c ∷ cs) w = run-sized (after s c) cs (after-sized s c w)

-- slots past N stay as they were: in a run from a making, never used
pub run_past : (s : State) (cs : List Call) → Sized s.table → ((run s cs).table.n ≡ s.table.n) × (drop s.table.n (run s cs).table.slots ≡ drop s.table.n s.table.slots)
unfolding run after
run_past s [] w = (refl, refl)
run_past s (c ∷ cs) w =
    let k = keeps s.table w c (length (jobs s.table c)) (length s.room) (length (lent (out_window c) s.memory)) (length (lent (job_window c) s.memory)) in
    let r = run_past (after s c) cs (after-sized s c w) in
    (r.0 ∙ k.n, subst (λ (n : ℕ). drop n (run (after s c) cs).table.slots ≡ drop n (after s c).table.slots) k.n r.1 ∙ k.past)

-- ---- a making that is not refused

blank-long : (k i : ℕ) → Long (get_or (replicate k (fresh 0)) i gap)
blank-long zero i = refl
blank-long (suc k) zero = refl
blank-long (suc k) (suc i) = blank-long k i

blank-sized : (n d m : ℕ) → sizes_fit n d m ≡ true → Sized (blank n d m)
blank-sized n d m e =
    let a = and_right (leb 1 n) _ e in
    let b = and_right (leb n slots_most) _ a in
    let c = and_right (leb 1 d) _ b in
    let f = and_right (leb d depth_most) _ c in
    let l = leb-true n slots_most (and_left (leb n slots_most) _ a) in
    let g = leb-true d depth_most (and_left (leb d depth_most) _ c) in
    let h = leb-true m packet_most (and_right (leb packet_least m) _ f) in
    record { slots = refl; lens = λ i _. blank-long slots_most i; spsms = refl; n = omega arith; d = omega arith; m = omega arith }

pub made-sized : (n d m : ℕ) (room : List ℕ) → answer_number (make n d m room).answer ≡ 0 → Sized (make n d m room).table
unfolding make
made-sized n d m room =
    if_cases P (not (sizes_fit n d m)) (λ _ e. absurd (eqb-false 1 0 refl e))
    (λ a. if_cases P (not (eqb (length room) (room_size (blank n d m)))) (λ _ e. absurd (eqb-false 2 0 refl e)) (λ _ _. blank-sized n d m (not-false _ a)))
  where
    P : Made → Type 0
    P x = answer_number x.answer ≡ 0 → Sized x.table
