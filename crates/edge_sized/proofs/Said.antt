-- What a call other than a send and a portion writes to the lent buffer was worked out from table and public input, and stands at its start: no octet of it is
-- copied. So it is as long as the sizes say, and no less than the answer tells. One lemma a call, `works` for all of them.
use Rattle.std.specs.Prelude.{◌≡◌, Bool, true, false, List, [], ◌∷◌, ℕ, ◌+◌, ◌≤◌, length, Err, None, Ok, Option, Result, Some}
use Rattle.std.proofs.Math.Path.{refl}
use Rattle.std.proofs.Common.{sym, ◌∙◌, ap₂, length-append}
use Rattle.std.proofs.lemmas.Bool.{false≢true}
use native.Mathlib.Omega.{arith}
use Rattle.lists.specs.Choose.{choose, if_cases}
use Rattle.lists.specs.Both.{and_left, and_right}
use Rattle.sar_cut.specs.declared.Framed.{Framed}
use Rattle.sar_join.specs.declared.Joined.{Joined}
use Rattle.signal_headers.specs.declared.BadHeader.{BadHeader}
use Rattle.signal_headers.specs.declared.BadHeader.TheVariants.{Cut, Past}
use Rattle.signal_forms.specs.declared.Signal.{Signal}
use Rattle.channel.specs.declared.L2capChannelConfig.{L2capChannelConfig}
use Rattle.channel.specs.declared.Slot.{Slot}
use Rattle.channel.specs.declared.Table.{Table}
use Rattle.definition.specs.Table.{slot_at, slot_of}
use Rattle.definition.specs.Outcome.{Outcome, verdict, passed, gate}
use Rattle.definition.specs.Pending.{next_pending, reject_all_pending, accept_pending, reject_pending, not_code, reject_read, drop_pending}
use Rattle.definition.specs.Opening.{create, opened, give_up}
use Rattle.definition.specs.Closing.{inc_ref, dec_ref, disconnecting, disconnect, disconnect_by_cid, disconnected, next_disconnect}
use Rattle.definition.specs.Signals.{on_reject, on_disconnection_req, on_disconnection_res, on_parameters, on_parameter_response, on_conn_req, on_conn_res, on_credits, handled, checked, signalled}
use Rattle.definition.specs.Frames.{joined, dispatch, taken, receive}
use Rattle.definition.specs.Portions.{start_planned, start_job, cancel_job}
use Rattle.definition.specs.Asking.{register_spsm, attention, query, send_signal}
use Rattle.definition.specs.Calls.{Call, frame, sends, portions, down, plain, Request, register, signals, pends, rejects_all, accepts, rejects, drops, creates, opens, gives, holds, releases, leaves, leaves_cid, announces, takes, starts, cancels, attends, asks, sends_signal, writes, bare, serve, decide}
use Rattle.definition.specs.Mem.{Fill, zeros, given, job, held, size, sizes, fill, fills}
use Rattle.definition.specs.Ending.{itself}
use Rattle.std.proofs.lemmas.List.{length-map, length-replicate}
use Rattle.edge_sized.specs.Said.{Worked, is_send, plain_fill, plain_fills}
use Rattle.codes.specs.declared.LeCreditConnResultCode.{LeCreditConnResultCode}
use Rattle.codes.specs.declared.Refusal.{Refusal}
use Rattle.signal_forms.specs.declared.CommandRejectRes.{CommandRejectRes}
use Rattle.signal_forms.specs.declared.ConnParamUpdateReq.{ConnParamUpdateReq}
use Rattle.signal_forms.specs.declared.ConnParamUpdateRes.{ConnParamUpdateRes}
use Rattle.signal_forms.specs.declared.DisconnectionReq.{DisconnectionReq}
use Rattle.signal_forms.specs.declared.DisconnectionRes.{DisconnectionRes}
use Rattle.signal_forms.specs.declared.LeCreditConnReq.{LeCreditConnReq}
use Rattle.signal_forms.specs.declared.LeCreditConnRes.{LeCreditConnRes}
use Rattle.signal_forms.specs.declared.LeCreditFlowInd.{LeCreditFlowInd}

leaf : {o : Outcome} → plain_fills o.out ≡ true → o.at ≡ 0 → o.octets ≡ sizes o.out → Worked o
leaf e f g = record { out = e; at = f; tells = omega (arith, g) }

either : (b : Bool) {x y : Outcome} → Worked x → Worked y → Worked (choose b x y)
either b p q = if_cases Worked b (λ _. p) (λ _. q)

let_pass : (t : Table) (v : Result (Unit {0}) Refusal) {o : Outcome} → Worked o → Worked (passed t v o)
let_pass t (Ok tt) p = p
let_pass t (Err r) p = leaf refl refl refl

gated : (t : Table) (room signal link slot : Option ℕ) {o : Outcome} → Worked o → Worked (gate t room signal link slot o)
gated t room signal link slot p = let_pass t (verdict t room signal link slot) p

module _ (t : Table) where
  -- ---- Pending.antt, Opening.antt, Closing.antt

  pends_worked : (link : ℕ) (up : Bool) → Worked (next_pending t link up)
  unfolding next_pending
  pends_worked link up = gated t None None (Some link) None (either _ (either _ (leaf refl refl refl) (leaf refl refl refl)) (either _ (leaf refl refl refl) (leaf refl refl refl)))

  rejects_all_worked : (room signal link : ℕ) → Worked (reject_all_pending t room signal link)
  unfolding reject_all_pending
  rejects_all_worked room signal link = gated t (Some room) (Some signal) (Some link) None (either _ (leaf refl refl refl) (leaf refl refl refl))

  accepts_worked : (signal s : ℕ) (c : L2capChannelConfig) → Worked (accept_pending t signal s c)
  unfolding accept_pending
  accepts_worked signal s c = gated t None (Some signal) None (Some s) (either _ (leaf refl refl refl) (either _ (leaf refl refl refl) (either _ (leaf refl refl refl) (either _ (leaf refl refl refl) (leaf refl refl refl)))))

  rejects_worked : (room signal s : ℕ) (result : Option LeCreditConnResultCode) → Worked (reject_read t room signal s result)
  unfolding reject_pending not_code
  rejects_worked room signal s None = gated t (Some room) (Some signal) None (Some s) (leaf refl refl refl)
  rejects_worked room signal s (Some result) = gated t (Some room) (Some signal) None (Some s) (either _ (leaf refl refl refl) (either _ (leaf refl refl refl) (leaf refl refl refl)))

  drops_worked : (room s : ℕ) → Worked (drop_pending t room s)
  unfolding drop_pending
  drops_worked room s = gated t (Some room) None None (Some s) (either _ (leaf refl refl refl) (either _ (leaf refl refl refl) (either _ (leaf refl refl refl) (leaf refl refl refl))))

  creates_worked : (signal link spsm : ℕ) (c : L2capChannelConfig) → Worked (create t signal link spsm c)
  unfolding create
  creates_worked signal link spsm c = gated t None (Some signal) (Some link) None (either _ (leaf refl refl refl) (either _ (leaf refl refl refl) (either _ (leaf refl refl refl) (leaf refl refl refl))))

  opens_worked : (room s link : ℕ) (up : Bool) → Worked (opened t room s link up)
  unfolding opened
  opens_worked room s link up = gated t (Some room) None (Some link) (Some s) (either _ (leaf refl refl refl) (either _ (leaf refl refl refl) (either _ (leaf refl refl refl) (either _ (leaf refl refl refl) (either _ (leaf refl refl refl) (either _ (leaf refl refl refl) (either _ (leaf refl refl refl) (leaf refl refl refl))))))))

  gives-worked : (room s : ℕ) → Worked (give_up t room s)
  unfolding give_up
  gives-worked room s = gated t (Some room) None None (Some s) (either _ (leaf refl refl refl) (leaf refl refl refl))

  holds-worked : (s : ℕ) → Worked (inc_ref t s)
  unfolding inc_ref
  holds-worked s = gated t None None None (Some s) (either _ (leaf refl refl refl) (leaf refl refl refl))

  releases_worked : (room s : ℕ) → Worked (dec_ref t room s)
  unfolding dec_ref
  releases_worked room s = gated t (Some room) None None (Some s) (either _ (leaf refl refl refl) (either _ (leaf refl refl refl) (leaf refl refl refl)))

  disconnecting-worked : (s : ℕ) → Worked (disconnecting t s)
  unfolding disconnecting
  disconnecting-worked s = either _ (leaf refl refl refl) (leaf refl refl refl)

  leaves-worked : (room s : ℕ) → Worked (disconnect t room s)
  unfolding disconnect
  leaves-worked room s = gated t (Some room) None None (Some s) (disconnecting-worked s)

  leaves_cid_worked : (room cid : ℕ) → Worked (disconnect_by_cid t room cid)
  unfolding disconnect_by_cid
  leaves_cid_worked room cid = gated t (Some room) None None None (either _ (disconnecting-worked (slot_of cid)) (leaf refl refl refl))

  down_worked : (room link : ℕ) → Worked (disconnected t room link)
  unfolding disconnected sizes
  down_worked room link = gated t (Some room) None (Some link) None (leaf refl refl refl)

  announces_worked : (room signal : ℕ) → Worked (next_disconnect t room signal)
  unfolding next_disconnect
  announces_worked room signal = gated t (Some room) (Some signal) None None (either _ (leaf refl refl refl) (either _ (leaf refl refl refl) (leaf refl refl refl)))

  -- ---- Signals.antt

  reject-worked : (id : ℕ) (b : Option CommandRejectRes) → Worked (on_reject t id b)
  unfolding on_reject
  reject-worked id None = leaf refl refl refl
  reject-worked id (Some f) = leaf refl refl refl

  disconnection_req-worked : (link id : ℕ) (b : Option DisconnectionReq) → Worked (on_disconnection_req t link id b)
  unfolding on_disconnection_req
  disconnection_req-worked link id None = leaf refl refl refl
  disconnection_req-worked link id (Some f) = either _ (leaf refl refl refl) (either _ (leaf refl refl refl) (leaf refl refl refl))

  disconnection_res-worked : (link id : ℕ) (b : Option DisconnectionRes) → Worked (on_disconnection_res t link id b)
  unfolding on_disconnection_res
  disconnection_res-worked link id None = leaf refl refl refl
  disconnection_res-worked link id (Some f) = either _ (leaf refl refl refl) (either _ (leaf refl refl refl) (leaf refl refl refl))

  parameters-worked : (id : ℕ) (b : Option ConnParamUpdateReq) → Worked (on_parameters t id b)
  unfolding on_parameters
  parameters-worked id None = leaf refl refl refl
  parameters-worked id (Some f) = either _ (leaf refl refl refl) (leaf refl refl refl)

  parameter_response_worked : (id : ℕ) (b : Option ConnParamUpdateRes) → Worked (on_parameter_response t id b)
  unfolding on_parameter_response
  parameter_response_worked id None = leaf refl refl refl
  parameter_response_worked id (Some f) = leaf refl refl refl

  conn_req_worked : (link : ℕ) (listening : Bool) (id : ℕ) (b : Option LeCreditConnReq) → Worked (on_conn_req t link listening id b)
  unfolding on_conn_req
  conn_req_worked link listening id None = leaf refl refl refl
  conn_req_worked link listening id (Some f) = either _ (leaf refl refl refl) (either _ (leaf refl refl refl) (either _ (leaf refl refl refl) (either _ (leaf refl refl refl) (either _ (leaf refl refl refl) (leaf refl refl refl)))))

  conn_res_worked : (link id : ℕ) (b : Option LeCreditConnRes) → Worked (on_conn_res t link id b)
  unfolding on_conn_res sizes
  conn_res_worked link id None = leaf refl refl refl
  conn_res_worked link id (Some f) = either _ (leaf refl refl refl) (either _ (leaf refl refl refl) (either _ (leaf refl refl refl) (leaf refl refl refl)))

  credits-worked : (link id : ℕ) (b : Option LeCreditFlowInd) → Worked (on_credits t link id b)
  unfolding on_credits
  credits-worked link id None = leaf refl refl refl
  credits-worked link id (Some f) = either _ (leaf refl refl refl) (either _ (leaf refl refl refl) (leaf refl refl refl))

  handled-worked : (link : ℕ) (listening central : Bool) (code id : ℕ) (body : List ℕ) → Worked (handled t link listening central code id body)
  unfolding handled
  handled-worked link listening central code id body = either _ (reject-worked id _) (either _ (disconnection_req-worked link id _) (either _ (disconnection_res-worked link id _) (either _ (either _ (parameters-worked id _) (leaf refl refl refl)) (either _ (parameter_response_worked id _) (either _ (conn_req_worked link listening id _) (either _ (conn_res_worked link id _) (either _ (credits-worked link id _) (leaf refl refl refl))))))))

  checked-worked : (link : ℕ) (listening central : Bool) (pdu : List ℕ) (h : Result (Unit {0}) BadHeader) → Worked (checked t link listening central pdu h)
  unfolding checked
  checked-worked link listening central pdu (Err Cut) = leaf refl refl refl
  checked-worked link listening central pdu (Err (Past id)) = leaf refl refl refl
  checked-worked link listening central pdu (Ok tt) = either _ (leaf refl refl refl) (handled-worked link listening central _ _ _)

  signals_worked : (room signal link : ℕ) (listening central : Bool) (pdu : List ℕ) → Worked (signalled t room signal link listening central pdu)
  unfolding signalled
  signals_worked room signal link listening central pdu = gated t (Some room) (Some signal) (Some link) None (checked-worked link listening central pdu _)

  -- ---- Frames.antt: a frame

  joined-worked : (s count : ℕ) (x : Slot) (j : Result Joined Refusal) → Worked (joined t s x count j)
  unfolding joined
  joined-worked s count x (Err r) = leaf refl refl refl
  joined-worked s count x (Ok (Joined.Assembling g)) = leaf refl refl refl
  joined-worked s count x (Ok (Joined.Finished len)) = leaf refl refl refl
  joined-worked s count x (Ok Joined.Dropped) = leaf refl refl refl

  frame-worked : (room link cid : ℕ) (head : List ℕ) (count : ℕ) → Worked (dispatch t room link cid head count)
  unfolding dispatch
  frame-worked room link cid head count =
      gated t (Some room) None (Some link) None (either _ (leaf refl refl refl) (either _ (leaf refl refl refl) (either _ (leaf refl refl refl) (either _ (leaf refl refl refl) (joined-worked (slot_of cid) count _ _)))))

  -- ---- Asking.antt

  register_worked : (spsm : ℕ) → Worked (register_spsm t spsm)
  unfolding register_spsm
  register_worked spsm = gated t None None None None (either _ (leaf refl refl refl) (leaf refl refl refl))

  attends_worked : Worked (attention t)
  unfolding attention
  attends_worked = gated t None None None None (leaf refl refl refl)

  asks_worked : (of : Slot → ℕ) (s : ℕ) → Worked (query of t s)
  unfolding query
  asks_worked of s = gated t None None None (Some s) (leaf refl refl refl)

  sends_signal_worked : (signal link : ℕ) (x : Signal) → Worked (send_signal t signal link x)
  unfolding send_signal
  sends_signal_worked signal link x = gated t None (Some signal) (Some link) None (leaf refl refl refl)

  -- ---- Frames.antt: a take

  taken-worked : (s : ℕ) (x : Slot) (g : Option ℕ) → Worked (taken t s x g)
  unfolding taken
  taken-worked s x None = leaf refl refl refl
  taken-worked s x (Some n) = leaf refl refl refl

  takes_worked : (room signal s size : ℕ) → Worked (receive t room signal s size)
  unfolding receive
  takes_worked room signal s size = gated t (Some room) (Some signal) None (Some s) (either _ (leaf refl refl refl) (either _ (leaf refl refl refl) (either _ (leaf refl refl refl) (taken-worked s _ _))))

  -- ---- Portions.antt: a start, a cancel

  start_planned-worked : (s l size : ℕ) (x : Slot) (p : Result Framed Refusal) → Worked (start_planned t s x l size p)
  unfolding start_planned
  start_planned-worked s l size x (Err r) = either _ (leaf refl refl refl) (leaf refl refl refl)
  start_planned-worked s l size x (Ok framed) = either _ (leaf refl refl refl) (record { out = refl; at = refl; tells = omega arith })

  starts_worked : (s l out : ℕ) → Worked (start_job t s l out)
  unfolding start_job
  starts_worked s l out = gated t None None None (Some s) (either _ (leaf refl refl refl) (either _ (leaf refl refl refl) (start_planned-worked s l out (slot_at t s) _)))

  cancels_worked : (room s : ℕ) → Worked (cancel_job t room s)
  unfolding cancel_job
  cancels_worked room s = gated t (Some room) None None (Some s) (either _ (leaf refl refl refl) (either _ (leaf refl refl refl) (either _ (leaf refl refl refl) (leaf refl refl refl))))

  -- ---- all calls but the send and the portion

  serve-worked : (r : Request) (room out tray : ℕ) → Worked (serve t r room out tray)
  unfolding serve
  serve-worked (register spsm) room out tray = register_worked spsm
  serve-worked (signals link listening central pdu) room out tray = signals_worked room out link listening central pdu
  serve-worked (pends link up) room out tray = pends_worked link up
  serve-worked (rejects_all link) room out tray = rejects_all_worked room out link
  serve-worked (accepts s c) room out tray = accepts_worked out s c
  serve-worked (rejects s result) room out tray = rejects_worked room out s result
  serve-worked (drops s) room out tray = drops_worked room s
  serve-worked (creates link spsm c) room out tray = creates_worked out link spsm c
  serve-worked (opens s link up) room out tray = opens_worked room s link up
  serve-worked (gives s) room out tray = gives-worked room s
  serve-worked (holds s) room out tray = holds-worked s
  serve-worked (releases s) room out tray = releases_worked room s
  serve-worked (leaves s) room out tray = leaves-worked room s
  serve-worked (leaves_cid cid) room out tray = leaves_cid_worked room cid
  serve-worked announces room out tray = announces_worked room out
  serve-worked (takes s) room out tray = takes_worked room out s tray
  serve-worked (starts s l) room out tray = starts_worked s l out
  serve-worked (cancels s) room out tray = cancels_worked room s
  serve-worked attends room out tray = attends_worked
  serve-worked (asks of s) room out tray = asks_worked of s
  serve-worked (sends_signal link s) room out tray = sends_signal_worked out link s
  serve-worked (writes octets) room out tray = leaf refl refl refl

-- how many octets are written
fill-length : (js room : List ℕ) (f : Fill) → plain_fill f ≡ true → length (fill itself js room f) ≡ size f
unfolding fill size
fill-length js room (zeros n) e = length-replicate n 0
fill-length js room (given xs) e = length-map xs itself
fill-length js room (job from n) e = absurd (false≢true e)
fill-length js room (held from n) e = absurd (false≢true e)

fills-length : (js room : List ℕ) (fs : List Fill) → plain_fills fs ≡ true → length (fills itself js room fs) ≡ sizes fs
unfolding fills sizes
fills-length js room [] e = refl
fills-length js room (f ∷ fs) e =
    length-append (fill itself js room f) (fills itself js room fs)
    ∙ ap₂ (λ (a b : ℕ). a + b) (fill-length js room f (and_left (plain_fill f) _ e)) (fills-length js room fs (and_right (plain_fill f) _ e))

works : (t : Table) (c : Call) → is_send c ≡ false → (count room out tray : ℕ) → Worked (decide t (bare t c) count room out tray)
unfolding decide bare
works t (frame link cid payload) e count room out tray = frame-worked t room link cid _ count
works t (sends s sdu w) e count room out tray = absurd (false≢true (sym e))
works t (portions s octets w) e count room out tray = absurd (false≢true (sym e))
works t (down link) e count room out tray = down_worked t room link
works t (plain r v w) e count room out tray = serve-worked t r room out tray

pub said_length : (t : Table) (c : Call) → is_send c ≡ false → (count room out tray : ℕ) (js lent : List ℕ)
    → length (fills itself js lent (decide t (bare t c) count room out tray).out) ≡ sizes (decide t (bare t c) count room out tray).out
said_length t c e count room out tray js lent = fills-length js lent (decide t (bare t c) count room out tray).out (works t c e count room out tray).out

-- where they begin, and that the answer tells no more of them
pub said_first : (t : Table) (c : Call) → is_send c ≡ false → (count room out tray : ℕ) → (decide t (bare t c) count room out tray).at ≡ 0
said_first t c e count room out tray = (works t c e count room out tray).at

pub said_told : (t : Table) (c : Call) → is_send c ≡ false → (count room out tray : ℕ) → (decide t (bare t c) count room out tray).octets ≤ sizes (decide t (bare t c) count room out tray).out
said_told t c e count room out tray = (works t c e count room out tray).tells
