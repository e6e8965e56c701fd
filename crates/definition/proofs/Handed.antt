-- What each call hands out to the caller's memory: a take, to its job buffer alone, octets of the slot's own part of the room; a send, its
-- SDU; a portion, its octets; all else are octets that the call worked out itself. One lemma a call, and `hands` for all of them.
use Rattle.std.specs.Prelude.{◌≡◌, Bool, false, eqb, take, get_or, Err, None, Ok, Option, Result, Some}
use Rattle.std.proofs.Math.Path.{refl, ap}
use Rattle.std.proofs.Common.{sym, ◌∙◌, suc-mul, one-mul, mul-le-mul_right, get_or-take}
use Rattle.std.proofs.Math.Bool.{true}
use Rattle.std.proofs.lemmas.Bool.{false≢true}
use mathlib.Core.List.{List, [], ◌∷◌}
use Prim.Native.Nat.{ℕ, zero, suc, ◌+◌, ◌≤◌, ◌<◌}
use Rattle.std.proofs.Math.Dec.{leb}
use borrow.Author.Tests.{leb-true, leb-false}
use Rattle.lists.specs.Choose.{choose, if_cases}
use Rattle.lists.specs.Both.{and_left, and_right}
use Rattle.credit.specs.Account.{granted}
use Rattle.sar_join.specs.declared.Joined.{Joined}
use Rattle.sar_join.specs.declared.Joined.TheVariants as Joined
use Rattle.sar_cut.specs.declared.Framed.{Framed}
use Rattle.signal_headers.specs.declared.BadHeader.{BadHeader}
use Rattle.signal_headers.specs.declared.BadHeader.TheVariants.{Cut, Past}
use Rattle.signal_forms.specs.declared.Signal.{Signal}
use Rattle.channel.specs.declared.Answer.{Answer}
use Rattle.channel.specs.declared.L2capChannelConfig.{L2capChannelConfig}
use Rattle.channel.specs.declared.OpenJob.{OpenJob}
use Rattle.channel.specs.declared.Slot.{Slot}
use Rattle.channel.specs.declared.Table.{Table}
use Rattle.definition.specs.Slots.{with_account, blocks}
use Rattle.definition.specs.Table.{slot_at, live, slot_of, gap, place_of, width, slot_fits, sizes_fit, well_formed, spent}
use Rattle.definition.specs.Outcome.{Outcome, verdict, passed, gate, still}
use Rattle.definition.specs.Pending.{next_pending, reject_all_pending, accept_pending, reject_pending, not_code, reject_read, drop_pending}
use Rattle.definition.specs.Opening.{create, opened, give_up}
use Rattle.definition.specs.Closing.{inc_ref, dec_ref, disconnecting, disconnect, disconnect_by_cid, disconnected, next_disconnect}
use Rattle.definition.specs.Signals.{on_reject, on_disconnection_req, on_disconnection_res, on_parameters, on_parameter_response, on_conn_req, on_conn_res, on_credits, handled, checked, signalled}
use Rattle.definition.specs.Frames.{joined, dispatch, planned, send, handing, taken, receive, later_frames, frames, grant_in, oldest_at}
use Rattle.definition.specs.Portions.{start_planned, start_job, begins, filled_with, give_portion, cancel_job}
use Rattle.definition.specs.Asking.{register_spsm, attention, query, send_signal}
use Rattle.definition.specs.Calls.{Call, frame, sends, portions, down, plain, Request, register, signals, pends, rejects_all, accepts, rejects, drops, creates, opens, gives, holds, releases, leaves, leaves_cid, announces, takes, starts, cancels, attends, asks, sends_signal, writes, bare, Holder, nobody, holder, carrier, serve, decide, taken_from, frames_out, job_out}
use Rattle.definition.specs.Mem.{Fill, zeros, given, job, held}
use Rattle.definition.specs.Forms.{Fit}
use Rattle.definition.proofs.Forms.{pass_slot, pass_well}
use native.Mathlib.Omega.{arith}
use Rattle.std.proofs.Math.ListN.{length-take}
use Rattle.lists.specs.Every.{every, every-passes}
use Rattle.channel.specs.Limits.{slots_most}
use Rattle.definition.specs.Handed.{Hands, OwnFills, OwnPart, Quiet, carried, more, none, plain_fills, stored, worked, zeroed}
use Rattle.codes.specs.declared.LeCreditConnResultCode.{LeCreditConnResultCode}
use Rattle.codes.specs.declared.Refusal.{Refusal}
use Rattle.signal_forms.specs.declared.CommandRejectRes.{CommandRejectRes}
use Rattle.signal_forms.specs.declared.ConnParamUpdateReq.{ConnParamUpdateReq}
use Rattle.signal_forms.specs.declared.ConnParamUpdateRes.{ConnParamUpdateRes}
use Rattle.signal_forms.specs.declared.DisconnectionReq.{DisconnectionReq}
use Rattle.signal_forms.specs.declared.DisconnectionRes.{DisconnectionRes}
use Rattle.signal_forms.specs.declared.LeCreditConnReq.{LeCreditConnReq}
use Rattle.signal_forms.specs.declared.LeCreditConnRes.{LeCreditConnRes}
use Rattle.signal_forms.specs.declared.LeCreditFlowInd.{LeCreditFlowInd}

leaf : {o : Outcome} → plain_fills o.out ≡ true → plain_fills o.job ≡ true → Quiet o
leaf e f = record { out = e; tray = f }

either : (b : Bool) {x y : Outcome} → Quiet x → Quiet y → Quiet (choose b x y)
either b p q = if_cases Quiet b (λ _. p) (λ _. q)

let_pass : (t : Table) (v : Result (Unit {0}) Refusal) {o : Outcome} → Quiet o → Quiet (passed t v o)
let_pass t (Ok tt) p = p
let_pass t (Err r) p = leaf refl refl

gated : (t : Table) (room signal link slot : Option ℕ) {o : Outcome} → Quiet o → Quiet (gate t room signal link slot o)
gated t room signal link slot p = let_pass t (verdict t room signal link slot) p

module _ (t : Table) where
  -- ---- Pending.antt, Opening.antt, Closing.antt

  pends_quiet : (link : ℕ) (up : Bool) → Quiet (next_pending t link up)
  unfolding next_pending
  pends_quiet link up = gated t None None (Some link) None (either _ (either _ (leaf refl refl) (leaf refl refl)) (either _ (leaf refl refl) (leaf refl refl)))

  rejects_all_quiet : (room signal link : ℕ) → Quiet (reject_all_pending t room signal link)
  unfolding reject_all_pending
  rejects_all_quiet room signal link = gated t (Some room) (Some signal) (Some link) None (either _ (leaf refl refl) (leaf refl refl))

  accepts_quiet : (signal s : ℕ) (c : L2capChannelConfig) → Quiet (accept_pending t signal s c)
  unfolding accept_pending
  accepts_quiet signal s c = gated t None (Some signal) None (Some s) (either _ (leaf refl refl) (either _ (leaf refl refl) (either _ (leaf refl refl) (either _ (leaf refl refl) (leaf refl refl)))))

  rejects_quiet : (room signal s : ℕ) (result : Option LeCreditConnResultCode) → Quiet (reject_read t room signal s result)
  unfolding reject_pending not_code
  rejects_quiet room signal s None = gated t (Some room) (Some signal) None (Some s) (leaf refl refl)
  rejects_quiet room signal s (Some result) = gated t (Some room) (Some signal) None (Some s) (either _ (leaf refl refl) (either _ (leaf refl refl) (leaf refl refl)))

  drops_quiet : (room s : ℕ) → Quiet (drop_pending t room s)
  unfolding drop_pending
  drops_quiet room s = gated t (Some room) None None (Some s) (either _ (leaf refl refl) (either _ (leaf refl refl) (either _ (leaf refl refl) (leaf refl refl))))

  creates_quiet : (signal link spsm : ℕ) (c : L2capChannelConfig) → Quiet (create t signal link spsm c)
  unfolding create
  creates_quiet signal link spsm c = gated t None (Some signal) (Some link) None (either _ (leaf refl refl) (either _ (leaf refl refl) (either _ (leaf refl refl) (leaf refl refl))))

  opens_quiet : (room s link : ℕ) (up : Bool) → Quiet (opened t room s link up)
  unfolding opened
  opens_quiet room s link up = gated t (Some room) None (Some link) (Some s) (either _ (leaf refl refl) (either _ (leaf refl refl) (either _ (leaf refl refl) (either _ (leaf refl refl) (either _ (leaf refl refl) (either _ (leaf refl refl) (either _ (leaf refl refl) (leaf refl refl))))))))

  gives-quiet : (room s : ℕ) → Quiet (give_up t room s)
  unfolding give_up
  gives-quiet room s = gated t (Some room) None None (Some s) (either _ (leaf refl refl) (leaf refl refl))

  holds-quiet : (s : ℕ) → Quiet (inc_ref t s)
  unfolding inc_ref
  holds-quiet s = gated t None None None (Some s) (either _ (leaf refl refl) (leaf refl refl))

  releases_quiet : (room s : ℕ) → Quiet (dec_ref t room s)
  unfolding dec_ref
  releases_quiet room s = gated t (Some room) None None (Some s) (either _ (leaf refl refl) (either _ (leaf refl refl) (leaf refl refl)))

  disconnecting-quiet : (s : ℕ) → Quiet (disconnecting t s)
  unfolding disconnecting
  disconnecting-quiet s = either _ (leaf refl refl) (leaf refl refl)

  leaves_quiet : (room s : ℕ) → Quiet (disconnect t room s)
  unfolding disconnect
  leaves_quiet room s = gated t (Some room) None None (Some s) (disconnecting-quiet s)

  leaves_cid_quiet : (room cid : ℕ) → Quiet (disconnect_by_cid t room cid)
  unfolding disconnect_by_cid
  leaves_cid_quiet room cid = gated t (Some room) None None None (either _ (disconnecting-quiet (slot_of cid)) (leaf refl refl))

  down_quiet : (room link : ℕ) → Quiet (disconnected t room link)
  unfolding disconnected
  down_quiet room link = gated t (Some room) None (Some link) None (leaf refl refl)

  announces_quiet : (room signal : ℕ) → Quiet (next_disconnect t room signal)
  unfolding next_disconnect
  announces_quiet room signal = gated t (Some room) (Some signal) None None (either _ (leaf refl refl) (either _ (leaf refl refl) (leaf refl refl)))

  -- ---- Signals.antt

  reject-quiet : (id : ℕ) (b : Option CommandRejectRes) → Quiet (on_reject t id b)
  unfolding on_reject
  reject-quiet id None = leaf refl refl
  reject-quiet id (Some f) = leaf refl refl

  disconnection_req-quiet : (link id : ℕ) (b : Option DisconnectionReq) → Quiet (on_disconnection_req t link id b)
  unfolding on_disconnection_req
  disconnection_req-quiet link id None = leaf refl refl
  disconnection_req-quiet link id (Some f) = either _ (leaf refl refl) (either _ (leaf refl refl) (leaf refl refl))

  disconnection_res-quiet : (link id : ℕ) (b : Option DisconnectionRes) → Quiet (on_disconnection_res t link id b)
  unfolding on_disconnection_res
  disconnection_res-quiet link id None = leaf refl refl
  disconnection_res-quiet link id (Some f) = either _ (leaf refl refl) (either _ (leaf refl refl) (leaf refl refl))

  parameters-quiet : (id : ℕ) (b : Option ConnParamUpdateReq) → Quiet (on_parameters t id b)
  unfolding on_parameters
  parameters-quiet id None = leaf refl refl
  parameters-quiet id (Some f) = either _ (leaf refl refl) (leaf refl refl)

  parameter_response_quiet : (id : ℕ) (b : Option ConnParamUpdateRes) → Quiet (on_parameter_response t id b)
  unfolding on_parameter_response
  parameter_response_quiet id None = leaf refl refl
  parameter_response_quiet id (Some f) = leaf refl refl

  conn_req_quiet : (link : ℕ) (listening : Bool) (id : ℕ) (b : Option LeCreditConnReq) → Quiet (on_conn_req t link listening id b)
  unfolding on_conn_req
  conn_req_quiet link listening id None = leaf refl refl
  conn_req_quiet link listening id (Some f) = either _ (leaf refl refl) (either _ (leaf refl refl) (either _ (leaf refl refl) (either _ (leaf refl refl) (either _ (leaf refl refl) (leaf refl refl)))))

  conn_res_quiet : (link id : ℕ) (b : Option LeCreditConnRes) → Quiet (on_conn_res t link id b)
  unfolding on_conn_res
  conn_res_quiet link id None = leaf refl refl
  conn_res_quiet link id (Some f) = either _ (leaf refl refl) (either _ (leaf refl refl) (either _ (leaf refl refl) (leaf refl refl)))

  credits-quiet : (link id : ℕ) (b : Option LeCreditFlowInd) → Quiet (on_credits t link id b)
  unfolding on_credits
  credits-quiet link id None = leaf refl refl
  credits-quiet link id (Some f) = either _ (leaf refl refl) (either _ (leaf refl refl) (leaf refl refl))

  handled-quiet : (link : ℕ) (listening central : Bool) (code id : ℕ) (body : List ℕ) → Quiet (handled t link listening central code id body)
  unfolding handled
  handled-quiet link listening central code id body = either _ (reject-quiet id _) (either _ (disconnection_req-quiet link id _) (either _ (disconnection_res-quiet link id _) (either _ (either _ (parameters-quiet id _) (leaf refl refl)) (either _ (parameter_response_quiet id _) (either _ (conn_req_quiet link listening id _) (either _ (conn_res_quiet link id _) (either _ (credits-quiet link id _) (leaf refl refl))))))))

  checked-quiet : (link : ℕ) (listening central : Bool) (pdu : List ℕ) (h : Result (Unit {0}) BadHeader) → Quiet (checked t link listening central pdu h)
  unfolding checked
  checked-quiet link listening central pdu (Err Cut) = leaf refl refl
  checked-quiet link listening central pdu (Err (Past id)) = leaf refl refl
  checked-quiet link listening central pdu (Ok tt) = either _ (leaf refl refl) (handled-quiet link listening central _ _ _)

  signals_quiet : (room signal link : ℕ) (listening central : Bool) (pdu : List ℕ) → Quiet (signalled t room signal link listening central pdu)
  unfolding signalled
  signals_quiet room signal link listening central pdu = gated t (Some room) (Some signal) (Some link) None (checked-quiet link listening central pdu _)

  -- ---- Frames.antt: a frame

  joined-quiet : (s count : ℕ) (x : Slot) (j : Result Joined Refusal) → Quiet (joined t s x count j)
  unfolding joined
  joined-quiet s count x (Err r) = leaf refl refl
  joined-quiet s count x (Ok (Joined.Assembling g)) = leaf refl refl
  joined-quiet s count x (Ok (Joined.Finished len)) = leaf refl refl
  joined-quiet s count x (Ok Joined.Dropped) = leaf refl refl

  frame-quiet : (room link cid : ℕ) (head : List ℕ) (count : ℕ) → Quiet (dispatch t room link cid head count)
  unfolding dispatch
  frame-quiet room link cid head count =
      gated t (Some room) None (Some link) None (either _ (leaf refl refl) (either _ (leaf refl refl) (either _ (leaf refl refl) (either _ (leaf refl refl) (joined-quiet (slot_of cid) count _ _)))))

  -- ---- Asking.antt

  register_quiet : (spsm : ℕ) → Quiet (register_spsm t spsm)
  unfolding register_spsm
  register_quiet spsm = gated t None None None None (either _ (leaf refl refl) (leaf refl refl))

  attends_quiet : Quiet (attention t)
  unfolding attention
  attends_quiet = gated t None None None None (leaf refl refl)

  asks_quiet : (of : Slot → ℕ) (s : ℕ) → Quiet (query of t s)
  unfolding query
  asks_quiet of s = gated t None None None (Some s) (leaf refl refl)

  sends_signal_quiet : (signal link : ℕ) (x : Signal) → Quiet (send_signal t signal link x)
  unfolding send_signal
  sends_signal_quiet signal link x = gated t None (Some signal) (Some link) None (leaf refl refl)

  -- ---- a chain of tests, for the two calls that hand something out

  quiet-fills : {c h : Holder} (fs : List Fill) → plain_fills fs ≡ true → OwnFills t c h fs
  quiet-fills [] e = none
  quiet-fills (zeros n ∷ fs) e = more zeroed (quiet-fills fs e)
  quiet-fills (given xs ∷ fs) e = more worked (quiet-fills fs e)
  quiet-fills (job from n ∷ fs) e = absurd (false≢true e)
  quiet-fills (held from n ∷ fs) e = absurd (false≢true e)

  quiet-hands : {c f h : Holder} {o : Outcome} → Quiet o → Hands t c f h o
  quiet-hands {o = o} q = record { out = quiet-fills o.out q.out; tray = quiet-fills o.job q.tray }

  else_hands : {c g h : Holder} (b : Bool) (t' : Table) (a : Answer) {y : Outcome} → (b ≡ false → Hands t c g h y) → Hands t c g h (choose b (still t' a []) y)
  else_hands {c} {g} {h} b t' a f = if_cases (Hands t c g h) b (λ _. record { out = none; tray = none }) f

  pass_hands : {c g h : Holder} (v : Result (Unit {0}) Refusal) {o : Outcome} → (v ≡ Ok tt → Hands t c g h o) → Hands t c g h (passed t v o)
  pass_hands (Ok tt) f = f refl
  pass_hands (Err r) f = record { out = none; tray = none }

  started-quiet : (s l size : ℕ) (x : Slot) (p : Result Framed Refusal) → Quiet (start_planned t s x l size p)
  unfolding start_planned
  started-quiet s l size x (Err r) = either _ (leaf refl refl) (leaf refl refl)
  started-quiet s l size x (Ok framed) = either _ (leaf refl refl) (leaf refl refl)

  starts_quiet : (s l size : ℕ) → Quiet (start_job t s l size)
  unfolding start_job
  starts_quiet s l size = gated t None None None (Some s) (either _ (leaf refl refl) (either _ (leaf refl refl) (started-quiet s l size _ _)))

  cancels_quiet : (room s : ℕ) → Quiet (cancel_job t room s)
  unfolding cancel_job
  cancels_quiet room s = gated t (Some room) None None (Some s) (either _ (leaf refl refl) (either _ (leaf refl refl) (either _ (leaf refl refl) (leaf refl refl))))

  -- ---- a send: headers, and its SDU

  later_own : {h : Holder} (cid mps l n from : ℕ) → OwnFills t h h (later_frames cid mps l n from)
  unfolding later_frames
  later_own cid mps l zero from = none
  later_own cid mps l (suc n) from = more worked (more (carried refl) (later_own cid mps l n _))

  frames_own : {h : Holder} (cid mps l n : ℕ) → OwnFills t h h (frames cid mps l n)
  unfolding frames
  frames_own cid mps l n = more worked (more (carried refl) (later_own cid mps l _ _))

  planned-hands : {h : Holder} (s l : ℕ) (x : Slot) (p : Result Framed Refusal) → Hands t h h nobody (planned t s x l p)
  unfolding planned
  planned-hands {h} s l x (Err r) = if_cases (Hands t h h nobody) (blocks r) (λ _. record { out = none; tray = none }) (λ _. record { out = none; tray = none })
  planned-hands s l x (Ok framed) = record { out = frames_own _ _ l framed.n; tray = none }

  sends_hands : {h : Holder} (s l out : ℕ) → Hands t h h nobody (send t s l out)
  unfolding send
  sends_hands s l out = pass_hands (verdict t None None None (Some s)) λ _. else_hands _ _ _ λ _. else_hands _ _ _ λ _. planned-hands s l _ _

  -- ---- a portion: a header, and its octets

  filled_own : {h : Holder} (cid mps count : ℕ) (j : OpenJob) → OwnFills t h h (filled_with cid mps j count)
  filled_own cid mps count j = if_cases (OwnFills t _ _) (begins mps j count) (λ _. more worked (more (carried refl) none)) (λ _. more (carried refl) none)

  portions_hands : {h : Holder} (s count size : ℕ) → Hands t h h nobody (give_portion t s count size)
  unfolding give_portion
  portions_hands s count size =
      pass_hands (verdict t None None None (Some s)) λ _. else_hands _ _ _ λ _. else_hands _ _ _ λ _. else_hands _ _ _ λ _. else_hands _ _ _ λ _.
      record { out = filled_own (slot_at t s).peer.cid (slot_at t s).peer.mps count (slot_at t s).job; tray = none }

  -- ---- a take: the oldest job of its slot, which lies in its place

  -- the oldest job is no longer than its place
  oldest : (place count : ℕ) (lens : List ℕ) → eqb count 0 ≡ false → every (λ n. leb n place) (take count lens) ≡ true → get_or lens 0 0 ≤ place
  unfolding every
  oldest place zero lens z e = absurd (false≢true (sym z))
  oldest place (suc count) [] z e = omega arith
  oldest place (suc count) (n ∷ lens) z e = leb-true n place (and_left (leb n place) _ e)

  handing-hands : {c : Holder} (t' : Table) (s : ℕ) (x : Slot) (signal : List Fill) → t'.d ≡ t.d → t'.m ≡ t.m → plain_fills signal ≡ true
      → s < t.n → 1 ≤ t.d → get_or x.queue.lens 0 0 ≤ place_of t → Hands t c nobody (holder (slot_at t s)) (handing t' s x signal)
  handing-hands t' s x signal ed em q lt one fits =
      let p : ℕ = place_of t in
      let len : ℕ = get_or x.queue.lens 0 0 in
      let room : p + len ≤ width t = omega (arith, fits, suc-mul t.d p, mul-le-mul_right p one, one-mul p) in
      let part : OwnPart t (holder (slot_at t s)) (oldest_at t s) len =
      record { slot = s; within = lt; whose = refl; low = omega arith; high = omega (arith, room) } in
      record { out = quiet-fills signal q; tray = rw (ed, em) (more (stored part) none) }

  taken-hands : {c : Holder} (s : ℕ) (g : Option ℕ) → s < t.n → 1 ≤ t.d → get_or (slot_at t s).queue.lens 0 0 ≤ place_of t → Hands t c nobody (holder (slot_at t s)) (taken t s (slot_at t s) g)
  unfolding taken
  taken-hands s None lt one fits = handing-hands t s (slot_at t s) [] refl refl refl lt one fits
  taken-hands s (Some n) lt one fits =
      handing-hands (spent t) s (with_account (granted (slot_at t s).account n) (slot_at t s)) _ refl refl refl lt one fits

  takes_hands : Fit t → {c : Holder} (room signal s size : ℕ) → Hands t c nobody (holder (slot_at t s)) (receive t room signal s size)
  unfolding receive well_formed slot_fits
  takes_hands fit room signal s size =
      pass_hands (verdict t (Some room) (Some signal) None (Some s)) λ v. else_hands _ _ _ λ _. else_hands _ _ _ λ z. else_hands _ _ _ λ _.
      let x : Slot = slot_at t s in
      let lt : s < t.n = leb-false t.n s (pass_slot t (Some room) (Some signal) None s v) in
      let well : well_formed t ≡ true = pass_well t (Some room) (Some signal) None (Some s) v in
      let all : every (slot_fits t.d (place_of t)) (live t) ≡ true = and_right (sizes_fit t.n t.d t.m) _ well in
      let mine : slot_fits t.d (place_of t) x ≡ true =
      ap (slot_fits t.d (place_of t)) (sym (get_or-take t.n t.slots s gap lt))
      ∙ every-passes (slot_fits t.d (place_of t)) gap (live t) all s (omega (arith, fit.fits, length-take t.n t.slots)) in
      let jobs-fit : every (λ n. leb n (place_of t)) (take x.queue.count x.queue.lens) ≡ true =
      and_left _ _ (and_right (leb x.queue.count t.d) _ mine) in
      let sizes : sizes_fit t.n t.d t.m ≡ true = and_left (sizes_fit t.n t.d t.m) _ well in
      let one : 1 ≤ t.d = leb-true 1 t.d (and_left (leb 1 t.d) _ (and_right (leb t.n slots_most) _ (and_right (leb 1 t.n) _ sizes))) in
      taken-hands s (grant_in x) lt one (oldest (place_of t) x.queue.count x.queue.lens z jobs-fit)

-- ---- all calls

asked-hands : (t : Table) → Fit t → (r : Request) (room out tray : ℕ) → Hands t nobody nobody (taken_from t r) (serve t r room out tray)
unfolding serve
asked-hands t fit (register spsm) room out tray = quiet-hands t (register_quiet t spsm)
asked-hands t fit (signals link listening central pdu) room out tray = quiet-hands t (signals_quiet t room out link listening central pdu)
asked-hands t fit (pends link up) room out tray = quiet-hands t (pends_quiet t link up)
asked-hands t fit (rejects_all link) room out tray = quiet-hands t (rejects_all_quiet t room out link)
asked-hands t fit (accepts s c) room out tray = quiet-hands t (accepts_quiet t out s c)
asked-hands t fit (rejects s result) room out tray = quiet-hands t (rejects_quiet t room out s result)
asked-hands t fit (drops s) room out tray = quiet-hands t (drops_quiet t room s)
asked-hands t fit (creates link spsm c) room out tray = quiet-hands t (creates_quiet t out link spsm c)
asked-hands t fit (opens s link up) room out tray = quiet-hands t (opens_quiet t room s link up)
asked-hands t fit (gives s) room out tray = quiet-hands t (gives-quiet t room s)
asked-hands t fit (holds s) room out tray = quiet-hands t (holds-quiet t s)
asked-hands t fit (releases s) room out tray = quiet-hands t (releases_quiet t room s)
asked-hands t fit (leaves s) room out tray = quiet-hands t (leaves_quiet t room s)
asked-hands t fit (leaves_cid cid) room out tray = quiet-hands t (leaves_cid_quiet t room cid)
asked-hands t fit announces room out tray = quiet-hands t (announces_quiet t room out)
asked-hands t fit (takes s) room out tray = takes_hands t fit room out s tray
asked-hands t fit (starts s l) room out tray = quiet-hands t (starts_quiet t s l out)
asked-hands t fit (cancels s) room out tray = quiet-hands t (cancels_quiet t room s)
asked-hands t fit attends room out tray = quiet-hands t (attends_quiet t)
asked-hands t fit (asks of s) room out tray = quiet-hands t (asks_quiet t of s)
asked-hands t fit (sends_signal link s) room out tray = quiet-hands t (sends_signal_quiet t out link s)
asked-hands t fit (writes octets) room out tray = quiet-hands t (leaf refl refl)

pub hands : (t : Table) → Fit t → (c : Call) (count room out tray : ℕ) → Hands t (carrier t c) (frames_out t c) (job_out t c) (decide t (bare t c) count room out tray)
unfolding decide carrier bare
hands t fit (frame link cid payload) count room out tray = quiet-hands t (frame-quiet t room link cid _ count)
hands t fit (sends s sdu w) count room out tray = sends_hands t s count out
hands t fit (portions s octets w) count room out tray = portions_hands t s count out
hands t fit (down link) count room out tray = quiet-hands t (down_quiet t room link)
hands t fit (plain r v w) count room out tray = asked-hands t fit r room out tray
