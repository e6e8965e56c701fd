-- Every call tells what the table says (Told.antt): one lemma a call, its tests in the definition's order.
use Rattle.std.specs.Prelude.{◌≡◌, refl, Bool, false, ◌||◌, List, [], ◌∷◌, ℕ, ◌≤◌, eqb, get_or, None, Option, Some, Result, Ok, Err}
use Rattle.std.proofs.Common.{sym, ap, ◌∙◌, subst, arith, eqb-true, ne_eqb}
use Rattle.std.proofs.Math.Bool.{true}
use Rattle.std.proofs.lemmas.Bool.{not-false}
use Rattle.lists.specs.Choose.{choose, choose_true, choose_false, if_cases}
use Rattle.lists.specs.Both.{and_left, and_right}
use Rattle.codes.specs.Codes.{refusal_number}
use Rattle.codes.specs.declared.Refusal.{Refusal}
use Rattle.credit.specs.Account.{grant_of}
use Rattle.signal_headers.specs.Headers.{headers_of}
use Rattle.signal_headers.specs.declared.BadHeader.{BadHeader}
use Rattle.signal_headers.specs.declared.BadHeader.TheVariants.{Cut, Past}
use Rattle.signal_forms.specs.declared.Signal.{Signal}
use Rattle.signal_write.specs.Writer.{encode_of}
use Rattle.sar_join.specs.declared.Joined.{Joined}
use Rattle.sar_join.specs.declared.Joined.TheVariants as Joined
use Rattle.sar_cut.specs.declared.Framed.{Framed}
use Rattle.channel.specs.declared.Answer.{Answer}
use Rattle.channel.specs.declared.ChannelState.{ChannelState}
use Rattle.channel.specs.declared.L2capChannelConfig.{L2capChannelConfig}
use Rattle.channel.specs.declared.Slot.{Slot}
use Rattle.channel.specs.declared.Table.{Table}
use Rattle.definition.specs.Mem.{given}
use Rattle.definition.specs.Table.{slot_at, found, blocks, is_peer_connecting, is_connected, pending_of, unheld_pending_of, due_slot}
use Rattle.definition.specs.Outcome.{Outcome}
use Rattle.definition.specs.Pending.{next_pending, reject_all_pending, accept_pending, reject_pending, not_code, reject_read, drop_pending}
use Rattle.definition.specs.Opening.{create, opened, give_up}
use Rattle.definition.specs.Closing.{inc_ref, dec_ref, disconnecting, disconnect, disconnect_by_cid, disconnected, next_disconnect}
use Rattle.definition.specs.Signals.{signalled, checked, handled, on_reject, on_disconnection_req, on_disconnection_res, on_parameters, on_parameter_response, on_conn_req, on_conn_res, on_credits}
use Rattle.definition.specs.Frames.{dispatch, joined, send, planned, receive, taken, grant_in}
use Rattle.definition.specs.Portions.{start_planned, start_job, give_portion, cancel_job}
use Rattle.definition.specs.Asking.{register_spsm, attention, query, send_signal}
use Rattle.definition.specs.Calls.{Window, frame, sends, portions, down, plain, Request, register, signals, pends, rejects_all, accepts, rejects, drops, creates, opens, gives, holds, releases, leaves, leaves_cid, announces, takes, starts, cancels, attends, asks, sends_signal, writes, bare, decide, serve}
use Rattle.definition.proofs.Numbers.{refused_not_0}
use Rattle.definition.specs.Forms.{Fit}
use Rattle.definition.proofs.Forms.{found-passes}
use Rattle.definition.proofs.Tells.{pending-is, connected-is}
use Rattle.rules.proofs.Forms.{gate_refusals}
use Rattle.rules_steps.proofs.Tools.{is_peer_leaving, is_unannounced}
use Rattle.rules_steps.specs.Told.{connect, credits, parameters, Replies, accepted, rejected, cleared, replied_to, not_understood, not-connected, not_valid, request, refused_12, refused_13, reply, silent, frame_in_lem, frames-out, portion-out, begin-out, link_down, own, Told, uses, keeps, Tells, EveryCallTells}
use Rattle.rules_steps.specs.Told as Told
use Rattle.codes.specs.declared.LeCreditConnResultCode.{LeCreditConnResultCode}
use Rattle.signal_forms.specs.declared.CommandRejectRes.{CommandRejectRes}
use Rattle.signal_forms.specs.declared.ConnParamUpdateReq.{ConnParamUpdateReq}
use Rattle.signal_forms.specs.declared.ConnParamUpdateRes.{ConnParamUpdateRes}
use Rattle.signal_forms.specs.declared.DisconnectionReq.{DisconnectionReq}
use Rattle.signal_forms.specs.declared.DisconnectionRes.{DisconnectionRes}
use Rattle.signal_forms.specs.declared.LeCreditConnReq.{LeCreditConnReq}
use Rattle.signal_forms.specs.declared.LeCreditConnRes.{LeCreditConnRes}
use Rattle.signal_forms.specs.declared.LeCreditFlowInd.{LeCreditFlowInd}

-- the gate's refusals are neither 12 nor 13
not_full : (r : Refusal) → refusal_number r ≤ 6 → (eqb (refusal_number r) 12 || eqb (refusal_number r) 13) ≡ false
not_full r h = rw (ne_eqb (refusal_number r) 12 (λ e. omega arith), ne_eqb (refusal_number r) 13 (λ e. omega arith))

-- a grant is told in Connected only, and is what the policy says
granted_in : (x : Slot) (n : ℕ) → grant_in x ≡ Some n → (is_connected x.state ≡ true) × (grant_of x.account ≡ Some n)
unfolding grant_in
granted_in x n = by_state (is_connected x.state)
  where
    by_state : (b : Bool) → choose b (grant_of x.account) None ≡ Some n → (b ≡ true) × (grant_of x.account ≡ Some n)
    by_state true e = (refl, sym (choose_true true _ _ refl) ∙ e)
    by_state false e = let z : None ≡ Some n = sym (choose_false false _ _ refl) ∙ e in
        let no : ◌≡◌ {A = ℕ} 0 1 = cc in
        absurd (omega arith)

module _ (t : Table) (fit : Fit t) (v w : Window) where
  module _ (r : Request) where
    abbrev P : Outcome → Type 0
    P o = Tells t (plain r v w) o

  -- ---- the peer asks

  next-pending : (link : ℕ) (up : Bool) → P (pends link up) (next_pending t link up)
  unfolding next_pending
  next-pending link up =
      let Q = P (pends link up) in
      gate_refusals Q t _ _ _ _ (λ r h. keeps (silent refl))
      (λ _. if_cases Q _ (λ _. if_cases Q up (λ _. keeps (silent refl)) (λ _. keeps (silent refl)))
      (λ _. if_cases Q _ (λ _. keeps (silent refl)) (λ _. keeps (silent refl))))

  reject_all : (room signal link : ℕ) → P (rejects_all link) (reject_all_pending t room signal link)
  unfolding reject_all_pending
  reject_all room signal link =
      let Q = P (rejects_all link) in
      gate_refusals Q t _ _ _ _ (λ r h. keeps (silent refl))
      (λ _. if_cases Q _ (λ _. keeps (silent refl))
      (λ e.
      let x = slot_at t (found (unheld_pending_of link) t) in
      let p : pending_of link x ≡ true = and_left (pending_of link x) _ (found-passes t fit (unheld_pending_of link) e) in
      keeps (reply (cleared (pending-is x.state (and_left (is_peer_connecting x.state) _ p)) (eqb-true x.link link (and_right (is_peer_connecting x.state) _ p))))))

  accept_pending_lem : (signal s : ℕ) (c : L2capChannelConfig) → P (accepts s c) (accept_pending t signal s c)
  unfolding accept_pending
  accept_pending_lem signal s c =
      let Q = P (accepts s c) in
      gate_refusals Q t _ _ _ _ (λ r h. keeps (silent refl))
      (λ _. if_cases Q _ (λ _. keeps (silent refl))
      (λ _. if_cases Q _ (λ _. keeps (silent refl))
      (λ _. if_cases Q _ (λ _. keeps (silent refl))
      (λ e. if_cases Q _ (λ _. keeps (silent refl)) (λ _. keeps (reply (accepted (pending-is (slot_at t s).state (not-false _ e)))))))))

  reject-pending : (room signal s : ℕ) (result : Option LeCreditConnResultCode) → P (rejects s result) (reject_read t room signal s result)
  unfolding reject_pending not_code
  reject-pending room signal s (Some result) =
      let Q = P (rejects s (Some result)) in
      gate_refusals Q t _ _ _ _ (λ r h. keeps (silent refl))
      (λ _. if_cases Q _ (λ _. keeps (silent refl))
      (λ e. if_cases Q _ (λ _. keeps (silent refl)) (λ _. keeps (reply (rejected (pending-is (slot_at t s).state (not-false _ e)))))))
  reject-pending room signal s None = gate_refusals (P (rejects s None)) t _ _ _ _ (λ r h. keeps (silent refl)) (λ _. keeps (silent refl))

  drop-pending : (room s : ℕ) → P (drops s) (drop_pending t room s)
  unfolding drop_pending
  drop-pending room s =
      let Q = P (drops s) in
      gate_refusals Q t _ _ _ _ (λ r h. keeps (silent refl))
      (λ _. if_cases Q _ (λ _. keeps (silent refl)) (λ _. if_cases Q _ (λ _. keeps (silent refl)) (λ _. if_cases Q _ (λ _. keeps (silent refl)) (λ _. keeps (silent refl)))))

  -- ---- we ask

  create-tells : (signal link spsm : ℕ) (c : L2capChannelConfig) → P (creates link spsm c) (create t signal link spsm c)
  unfolding create
  create-tells signal link spsm c =
      let Q = P (creates link spsm c) in
      gate_refusals Q t _ _ _ _ (λ r h. keeps (silent (not_full r h)))
      (λ _. if_cases Q _ (λ _. uses refused_12) (λ _. if_cases Q _ (λ _. uses refused_12) (λ _. if_cases Q _ (λ _. uses refused_13) (λ _. uses (request connect)))))

  opened-tells : (room s link : ℕ) (up : Bool) → P (opens s link up) (opened t room s link up)
  unfolding opened
  opened-tells room s link up =
      let Q = P (opens s link up) in
      gate_refusals Q t _ _ _ _ (λ r h. keeps (silent refl))
      (λ _. if_cases Q _ (λ _. keeps (silent refl))
      (λ _. if_cases Q _ (λ _. keeps (silent refl))
      (λ _. if_cases Q _ (λ _. keeps (silent refl))
      (λ _. if_cases Q _ (λ _. keeps (silent refl))
      (λ _. if_cases Q _ (λ _. keeps (silent refl)) (λ _. if_cases Q _ (λ _. keeps (silent refl)) (λ _. if_cases Q _ (λ _. keeps (silent refl)) (λ _. keeps (silent refl)))))))))

  give_up_lem : (room s : ℕ) → P (gives s) (give_up t room s)
  unfolding give_up
  give_up_lem room s = let Q = P (gives s) in gate_refusals Q t _ _ _ _ (λ r h. keeps (silent refl)) (λ _. if_cases Q _ (λ _. keeps (silent refl)) (λ _. keeps (silent refl)))

  -- ---- holds and disconnects

  inc_ref_lem : (s : ℕ) → P (holds s) (inc_ref t s)
  unfolding inc_ref
  inc_ref_lem s = let Q = P (holds s) in gate_refusals Q t _ _ _ _ (λ r h. keeps (silent refl)) (λ _. if_cases Q _ (λ _. keeps (silent refl)) (λ _. keeps (silent refl)))

  dec_ref_lem : (room s : ℕ) → P (releases s) (dec_ref t room s)
  unfolding dec_ref
  dec_ref_lem room s =
      let Q = P (releases s) in
      gate_refusals Q t _ _ _ _ (λ r h. keeps (silent refl)) (λ _. if_cases Q _ (λ _. keeps (silent refl)) (λ _. if_cases Q _ (λ _. keeps (silent refl)) (λ _. keeps (silent refl))))

  leaves-tells : (r : Request) → ((a : Answer) → Told.speaks r a ≡ false) → (s : ℕ) → P r (disconnecting t s)
  unfolding disconnecting
  leaves-tells r q s = if_cases (P r) _ (λ _. keeps (silent (q _))) (λ _. keeps (silent (q _)))

  disconnect-tells : (room s : ℕ) → P (leaves s) (disconnect t room s)
  unfolding disconnect
  disconnect-tells room s = gate_refusals (P (leaves s)) t _ _ _ _ (λ r h. keeps (silent refl)) (λ _. leaves-tells (leaves s) (λ _. refl) s)

  disconnect_by_cid_lem : (room cid : ℕ) → P (leaves_cid cid) (disconnect_by_cid t room cid)
  unfolding disconnect_by_cid
  disconnect_by_cid_lem room cid =
      let Q = P (leaves_cid cid) in
      gate_refusals Q t _ _ _ _ (λ r h. keeps (silent refl)) (λ _. if_cases Q _ (λ _. leaves-tells (leaves_cid cid) (λ _. refl) _) (λ _. keeps (silent refl)))

  next-disconnect : (room signal : ℕ) → P announces (next_disconnect t room signal)
  unfolding next_disconnect
  next-disconnect room signal =
      let Q = P announces in
      gate_refusals Q t _ _ _ _ (λ r h. keeps (silent refl))
      (λ _. if_cases Q _ (λ _. keeps (silent refl))
      (λ e.
      let k : ChannelState = (slot_at t (found due_slot t)).state in
      if_cases Q _ (λ f. keeps (reply (Told.disconnected (is_peer_leaving k f)))) (λ f. uses (request (Told.disconnect (is_unannounced k (found-passes t fit due_slot e) f))))))

  -- ---- signals: a reply carries the identifier of what it answers

  module _ (link : ℕ) (listening central : Bool) (pdu : List ℕ) (id : ℕ) (on : replied_to pdu (headers_of pdu) ≡ id) where
    abbrev S : Outcome → Type 0
    S o = P (signals link listening central pdu) o

    none : {a : Answer} → Told t (plain (signals link listening central pdu) v w) a t.identifier []
    none = keeps (silent refl)

    replies : {a : Answer} {s : Signal} → Replies t (signals link listening central pdu) a (replied_to pdu (headers_of pdu)) s
        → Told t (plain (signals link listening central pdu) v w) a t.identifier (given (encode_of id s) ∷ [])
    replies {a} {s} p = keeps (reply (subst (λ (i : ℕ). Replies t (signals link listening central pdu) a i s) on p))

    on_conn_req_lem : get_or pdu 0 0 ≡ 0x14 → (b : Option LeCreditConnReq) → S (on_conn_req t link listening id b)
    unfolding on_conn_req
    on_conn_req_lem code None = replies not_understood
    on_conn_req_lem code (Some req) =
        if_cases S _ (λ _. replies (not-connected code))
        (λ _. if_cases S _ (λ _. replies (not-connected code))
        (λ _. if_cases S _ (λ _. replies (not-connected code))
        (λ _. if_cases S _ (λ _. replies (not-connected code)) (λ _. if_cases S _ (λ _. replies (not-connected code)) (λ _. none)))))

    on_conn_res_lem : (b : Option LeCreditConnRes) → S (on_conn_res t link id b)
    unfolding on_conn_res
    on_conn_res_lem None = replies not_understood
    on_conn_res_lem (Some res) = if_cases S _ (λ _. none) (λ _. if_cases S _ (λ _. none) (λ _. if_cases S _ (λ _. none) (λ _. none)))

    on_credits_lem : (b : Option LeCreditFlowInd) → S (on_credits t link id b)
    unfolding on_credits
    on_credits_lem None = replies not_understood
    on_credits_lem (Some ind) = if_cases S _ (λ _. none) (λ _. if_cases S _ (λ _. none) (λ _. none))

    on_disconnection_req_lem : (b : Option DisconnectionReq) → S (on_disconnection_req t link id b)
    unfolding on_disconnection_req
    on_disconnection_req_lem None = replies not_understood
    on_disconnection_req_lem (Some req) = if_cases S _ (λ _. replies not_understood) (λ _. if_cases S _ (λ _. replies not_understood) (λ _. none))

    on_disconnection_res_lem : (b : Option DisconnectionRes) → S (on_disconnection_res t link id b)
    unfolding on_disconnection_res
    on_disconnection_res_lem None = replies not_understood
    on_disconnection_res_lem (Some res) = if_cases S _ (λ _. none) (λ _. if_cases S _ (λ _. none) (λ _. none))

    on_parameters_lem : get_or pdu 0 0 ≡ 0x12 → (b : Option ConnParamUpdateReq) → S (on_parameters t id b)
    unfolding on_parameters
    on_parameters_lem code None = replies not_understood
    on_parameters_lem code (Some req) = if_cases S _ (λ _. none) (λ _. replies (not_valid code))

    on_reject_lem : (b : Option CommandRejectRes) → S (on_reject t id b)
    unfolding on_reject
    on_reject_lem None = replies not_understood
    on_reject_lem (Some res) = none

    on_parameter_response_lem : (b : Option ConnParamUpdateRes) → S (on_parameter_response t id b)
    unfolding on_parameter_response
    on_parameter_response_lem None = replies not_understood
    on_parameter_response_lem (Some res) = none

    handled-tells : (body : List ℕ) → S (handled t link listening central (get_or pdu 0 0) id body)
    unfolding handled
    handled-tells body =
        if_cases S _ (λ _. on_reject_lem _)
        (λ _. if_cases S _ (λ _. on_disconnection_req_lem _)
        (λ _. if_cases S _ (λ _. on_disconnection_res_lem _)
        (λ _. if_cases S _ (λ e. if_cases S _ (λ _. on_parameters_lem (eqb-true _ _ e) _) (λ _. replies not_understood))
        (λ _. if_cases S _ (λ _. on_parameter_response_lem _)
        (λ _. if_cases S _ (λ e. on_conn_req_lem (eqb-true _ _ e) _)
        (λ _. if_cases S _ (λ _. on_conn_res_lem _) (λ _. if_cases S _ (λ _. on_credits_lem _) (λ _. replies not_understood))))))))

  checked-tells : (link : ℕ) (listening central : Bool) (pdu : List ℕ) (h : Result (Unit {0}) BadHeader) → headers_of pdu ≡ h → P (signals link listening central pdu) (checked t link listening central pdu h)
  unfolding checked
  checked-tells link listening central pdu (Err Cut) e = keeps (silent refl)
  checked-tells link listening central pdu (Err (Past id)) e = replies link listening central pdu id (ap (replied_to pdu) e) not_understood
  checked-tells link listening central pdu (Ok tt) e =
      if_cases (P (signals link listening central pdu)) _ (λ _. keeps (silent refl)) (λ _. handled-tells link listening central pdu (get_or pdu 1 0) (ap (replied_to pdu) e) _)

  signalled-tells : (room signal link : ℕ) (listening central : Bool) (pdu : List ℕ) → P (signals link listening central pdu) (signalled t room signal link listening central pdu)
  unfolding signalled
  signalled-tells room signal link listening central pdu =
      gate_refusals (P (signals link listening central pdu)) t _ _ _ _ (λ r h. keeps (silent refl)) (λ _. checked-tells link listening central pdu _ refl)

  -- ---- jobs

  taken-tells : (s : ℕ) (g : Option ℕ) → grant_in (slot_at t s) ≡ g → P (takes s) (taken t s (slot_at t s) g)
  unfolding taken
  taken-tells s None e = keeps (silent refl)
  taken-tells s (Some n) e = let g = granted_in (slot_at t s) n e in uses (request (credits (connected-is (slot_at t s).state g.0) g.1))

  receive-tells : (room signal s size : ℕ) → P (takes s) (receive t room signal s size)
  unfolding receive
  receive-tells room signal s size =
      let Q = P (takes s) in
      gate_refusals Q t _ _ _ _ (λ r h. keeps (silent refl)) (λ _. if_cases Q _ (λ _. keeps (silent refl)) (λ _. if_cases Q _ (λ _. keeps (silent refl)) (λ _. if_cases Q _ (λ _. keeps (silent refl)) (λ _. taken-tells s _ refl))))

  -- ---- jobs handed over in portions: of the first frame its header is written

  started-tells : (s l size : ℕ) (p : Result Framed Refusal) → P (starts s l) (start_planned t s (slot_at t s) l size p)
  unfolding start_planned
  started-tells s l size (Err r) = if_cases (P (starts s l)) (blocks r) (λ _. keeps (silent refl)) (λ _. keeps (silent refl))
  started-tells s l size (Ok framed) = if_cases (P (starts s l)) _ (λ _. keeps (silent refl)) (λ _. keeps begin-out)

  start-tells : (s l size : ℕ) → P (starts s l) (start_job t s l size)
  unfolding start_job
  start-tells s l size =
      let Q = P (starts s l) in
      gate_refusals Q t _ _ _ _ (λ r h. keeps (silent refl)) (λ _. if_cases Q _ (λ _. keeps (silent refl)) (λ _. if_cases Q _ (λ _. keeps (silent refl)) (λ _. started-tells s l size _)))

  cancel_tells : (room s : ℕ) → P (cancels s) (cancel_job t room s)
  unfolding cancel_job
  cancel_tells room s =
      let Q = P (cancels s) in
      gate_refusals Q t _ _ _ _ (λ r h. keeps (silent refl))
      (λ _. if_cases Q _ (λ _. keeps (silent refl)) (λ _. if_cases Q _ (λ _. keeps (silent refl)) (λ _. if_cases Q _ (λ _. keeps (silent refl)) (λ _. keeps (silent refl)))))

  -- ---- calls that change no slot

  register_tells : (spsm : ℕ) → P (register spsm) (register_spsm t spsm)
  unfolding register_spsm
  register_tells spsm = let Q = P (register spsm) in gate_refusals Q t _ _ _ _ (λ r h. keeps (silent refl)) (λ _. if_cases Q _ (λ _. keeps (silent refl)) (λ _. keeps (silent refl)))

  attention-tells : P attends (attention t)
  unfolding attention
  attention-tells = gate_refusals (P attends) t _ _ _ _ (λ r h. keeps (silent refl)) (λ _. keeps (silent refl))

  query-tells : (of : Slot → ℕ) (s : ℕ) → P (asks of s) (query of t s)
  unfolding query
  query-tells of s = gate_refusals (P (asks of s)) t _ _ _ _ (λ r h. keeps (silent refl)) (λ _. keeps (silent refl))

  send-signal : (signal link : ℕ) (s : Signal) → P (sends_signal link s) (send_signal t signal link s)
  unfolding send_signal
  send-signal signal link s = gate_refusals (P (sends_signal link s)) t _ _ _ _ (λ r h. keeps (silent (refused_not_0 r))) (λ _. uses (request parameters))

  -- ---- all of them

  serve-tells : (r : Request) (room out job : ℕ) → P r (serve t r room out job)
  unfolding serve
  serve-tells (register spsm) room out job = register_tells spsm
  serve-tells (signals link listening central pdu) room out job = signalled-tells room out link listening central pdu
  serve-tells (pends link up) room out job = next-pending link up
  serve-tells (rejects_all link) room out job = reject_all room out link
  serve-tells (accepts s c) room out job = accept_pending_lem out s c
  serve-tells (rejects s result) room out job = reject-pending room out s result
  serve-tells (drops s) room out job = drop-pending room s
  serve-tells (creates link spsm c) room out job = create-tells out link spsm c
  serve-tells (opens s link up) room out job = opened-tells room s link up
  serve-tells (gives s) room out job = give_up_lem room s
  serve-tells (holds s) room out job = inc_ref_lem s
  serve-tells (releases s) room out job = dec_ref_lem room s
  serve-tells (leaves s) room out job = disconnect-tells room s
  serve-tells (leaves_cid cid) room out job = disconnect_by_cid_lem room cid
  serve-tells announces room out job = next-disconnect room out
  serve-tells (takes s) room out job = receive-tells room out s job
  serve-tells (starts s l) room out job = start-tells s l out
  serve-tells (cancels s) room out job = cancel_tells room s
  serve-tells attends room out job = attention-tells
  serve-tells (asks of s) room out job = query-tells of s
  serve-tells (sends_signal link s) room out job = send-signal out link s
  serve-tells (writes octets) room out job = keeps own

-- ---- frames: no signal is written

module _ (t : Table) (link cid : ℕ) (payload : List ℕ) where
  abbrev F : Outcome → Type 0
  F o = Tells t (frame link cid payload) o

  joined-tells : (s : ℕ) (x : Slot) (count : ℕ) (j : Result Joined Refusal) → F (joined t s x count j)
  unfolding joined
  joined-tells s x count (Err r) = keeps frame_in_lem
  joined-tells s x count (Ok (Joined.Assembling a)) = keeps frame_in_lem
  joined-tells s x count (Ok (Joined.Finished len)) = keeps frame_in_lem
  joined-tells s x count (Ok Joined.Dropped) = keeps frame_in_lem

  dispatch-tells : (room : ℕ) (head : List ℕ) (count : ℕ) → F (dispatch t room link cid head count)
  unfolding dispatch
  dispatch-tells room head count =
      gate_refusals F t _ _ _ _ (λ r h. keeps frame_in_lem)
      (λ _. if_cases F _ (λ _. keeps frame_in_lem)
      (λ _. if_cases F _ (λ _. keeps frame_in_lem) (λ _. if_cases F _ (λ _. keeps frame_in_lem) (λ _. if_cases F _ (λ _. keeps frame_in_lem) (λ _. joined-tells _ _ count _)))))

module _ (t : Table) (s : ℕ) (sdu : List ℕ) (w : Window) where
  abbrev N : Outcome → Type 0
  N o = Tells t (sends s sdu w) o

  planned-tells : (x : Slot) (l : ℕ) (p : Result Framed Refusal) → N (planned t s x l p)
  unfolding planned
  planned-tells x l (Err r) = if_cases N (blocks r) (λ _. keeps frames-out) (λ _. keeps frames-out)
  planned-tells x l (Ok framed) = keeps frames-out

  send-tells : (l out : ℕ) → N (send t s l out)
  unfolding send
  send-tells l out = gate_refusals N t _ _ _ _ (λ r h. keeps frames-out) (λ _. if_cases N _ (λ _. keeps frames-out) (λ _. if_cases N _ (λ _. keeps frames-out) (λ _. planned-tells _ l _)))

portion-tells : (t : Table) (s : ℕ) (octets : List ℕ) (w : Window) (count size : ℕ) → Tells t (portions s octets w) (give_portion t s count size)
unfolding give_portion
portion-tells t s octets w count size =
    let Q = Tells t (portions s octets w) in
    gate_refusals Q t _ _ _ _ (λ r h. keeps portion-out)
    (λ _. if_cases Q _ (λ _. keeps portion-out)
    (λ _. if_cases Q _ (λ _. keeps portion-out) (λ _. if_cases Q _ (λ _. keeps portion-out) (λ _. if_cases Q _ (λ _. keeps portion-out) (λ _. keeps portion-out)))))

down_tells : (t : Table) (room link : ℕ) → Tells t (down link) (disconnected t room link)
unfolding disconnected
down_tells t room link = gate_refusals (Tells t (down link)) t _ _ _ _ (λ r h. keeps link_down) (λ _. keeps link_down)

pub every_call_tells : EveryCallTells
unfolding decide bare
every_call_tells t fit (frame link cid payload) count room out job = dispatch-tells t link cid payload room _ count
every_call_tells t fit (sends s sdu w) count room out job = send-tells t s sdu w count out
every_call_tells t fit (portions s octets w) count room out job = portion-tells t s octets w count out
every_call_tells t fit (down link) count room out job = down_tells t room link
every_call_tells t fit (plain r v w) count room out job = serve-tells t fit v w r room out job
