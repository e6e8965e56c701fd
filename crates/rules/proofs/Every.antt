-- Every call makes only steps of the few kinds (Step.antt): one lemma a call, its tests in the definition's order.
use Rattle.std.specs.Prelude.{◌≡◌, Bool, true, false, ◌&&◌, not, ℕ, ◌+◌, ◌-◌, ◌≤◌, ◌<◌, min, eqb, ltb, length, get_or, take, drop, None, Option, Some, Result, Ok, Err}
use Rattle.std.proofs.Math.Path.{refl}
use Rattle.std.proofs.Common.{sym, ap, ◌∙◌, arith, length-take, length-drop, get_or-take, get_or-drop}
use Rattle.std.proofs.lemmas.Bool.{false≢true}
use Rattle.std.proofs.Math.Bool.{and-false}
use mathlib.Core.List.{List, []}
use Rattle.std.proofs.Math.ListN.{get_or-eq_default}
use borrow.Author.Tests.{ltb-true, ltb-false, leb-false, eqb-true, eqb-false, not-true, not-false, eq-eqb, ne_eqb}
use Rattle.lists.specs.Choose.{choose, choose_true, choose_false, if_cases}
use Rattle.octets.specs.Octets.{u16_at}
use Rattle.codes.specs.Codes.{result_of}
use Rattle.credit.specs.Account.{grant_of}
use Rattle.signal_headers.specs.Headers.{body_in}
use Rattle.signal_headers.specs.declared.BadHeader.{BadHeader}
use Rattle.signal_headers.specs.declared.BadHeader.TheVariants.{Cut, Past}
use Rattle.signal_bodies.specs.LeCreditBodies.{le_credit_conn_req, res_if, le_credit_conn_res}
use Rattle.signal_forms.specs.declared.Signal.{Signal}
use Rattle.signal_forms.specs.declared.Signal.TheVariants as Signal
use Rattle.channel.specs.Limits.{credits_most, size_least}
use Rattle.channel.specs.declared.Answer.{Answer}
use Rattle.channel.specs.declared.L2capChannelConfig.{L2capChannelConfig}
use Rattle.channel.specs.declared.Slot.{Slot}
use Rattle.channel.specs.declared.Table.{Table}
use Rattle.definition.specs.Mem.{Fill}
use Rattle.definition.specs.Table.{place_of, slot_at, found, is_free, is_disconnected, is_connecting, is_connected, identifier_of, due_slot, of_link, attempt_of, attempt_by, connected_to, cid_of, is_cid, slot_of, room_size, well_formed}
use Rattle.definition.specs.Outcome.{Outcome, still}
use Rattle.definition.specs.Pending.{next_pending, reject_all_pending, accept_pending, reject_pending, not_code, reject_read, drop_pending, mtu_of, mps_of, credits_of, settled}
use Rattle.definition.specs.Opening.{create, opened, give_up}
use Rattle.definition.specs.Closing.{inc_ref, dec_ref, disconnecting, disconnect, disconnect_by_cid, disconnected, next_disconnect}
use Rattle.definition.specs.Signals.{signalled, checked, handled, on_reject, on_disconnection_req, on_disconnection_res, on_parameters, on_parameter_response, on_conn_req, on_conn_res, on_credits}
use Rattle.definition.specs.Frames.{dispatch, send, receive, taken, grant_in}
use Rattle.definition.specs.Portions.{start_job, give_portion, cancel_job}
use Rattle.definition.specs.Asking.{register_spsm, attention, query, send_signal}
use Rattle.definition.specs.Calls.{Call, frame, sends, portions, down, plain, Request, register, signals, pends, rejects_all, accepts, rejects, drops, creates, opens, gives, holds, releases, leaves, leaves_cid, announces, takes, starts, cancels, attends, asks, sends_signal, writes, jobs, bare, joining, decide, serve}
use Rattle.definition.proofs.Tells.{cid_within}
use Rattle.rules.specs.Run.{SettingFits, Octets, RequestFits, Fits}
use Rattle.lists.specs.Both.{and_left, and_right, and_both}
use Rattle.rules.specs.Tests.{begun}
use Rattle.rules.proofs.Tests.{begun-live, connected-begun, due-begun, attempt-live, attempt_unbegun, takes_begun, unbegun_off, due_off, connected-offered, least_sizes, unbegun_uncounted, due-uncounted}
use Rattle.rules.specs.Step.{same, grant, keep, leave, hand, stay, off, meet, shut, gain, portion, cancel, uncounted, reset, parted, blocked_receive, hold, go, accept, free, allocate, kept, refused, told, rest, passes, Stepped}
use Rattle.rules.proofs.Forms.{goes_on, ended, found-passes, stepped_still, stepped_spent, stepped_change, stepped_change_spent, stepped_filling, stepped_sweep, stepped_gate}
use Rattle.rules.specs.Sound.{Sound}
use Rattle.rules.specs.Join.{Headed}
use Rattle.rules.proofs.Join.{step_joins, plan_passes, stepped_joined, stepped_planned, stepped_started}
use Rattle.rules.specs.Every.{RequestGives, ResponseGives}
use Rattle.codes.specs.declared.LeCreditConnResultCode.{LeCreditConnResultCode}
use Rattle.signal_forms.specs.declared.CommandRejectRes.{CommandRejectRes}
use Rattle.signal_forms.specs.declared.ConnParamUpdateReq.{ConnParamUpdateReq}
use Rattle.signal_forms.specs.declared.ConnParamUpdateRes.{ConnParamUpdateRes}
use Rattle.signal_forms.specs.declared.DisconnectionReq.{DisconnectionReq}
use Rattle.signal_forms.specs.declared.DisconnectionRes.{DisconnectionRes}
use Rattle.signal_forms.specs.declared.LeCreditConnReq.{LeCreditConnReq}
use Rattle.signal_forms.specs.declared.LeCreditConnRes.{LeCreditConnRes}
use Rattle.signal_forms.specs.declared.LeCreditFlowInd.{LeCreditFlowInd}

-- the credits that a call offers, or D of them
credits_fit : (usual : ℕ) (c : Option ℕ) → usual ≤ credits_most → SettingFits c → settled usual c + 0 ≤ credits_most
credits_fit usual None h f = omega arith
credits_fit usual (Some n) h f = omega arith

-- a grant is what the policy says
granted_in : (x : Slot) (n : ℕ) → grant_in x ≡ Some n → grant_of x.account ≡ Some n
unfolding grant_in
granted_in x n = by_state (is_connected x.state)
  where
    by_state : (b : Bool) → choose b (grant_of x.account) None ≡ Some n → grant_of x.account ≡ Some n
    by_state true e = sym (choose_true true _ _ refl) ∙ e
    by_state false e = let z : None ≡ Some n = sym (choose_false false _ _ refl) ∙ e in cc

-- ---- what a PDU gives: numbers of two octets

two_octets : (xs : List ℕ) → Octets xs → (k : ℕ) → u16_at xs k ≤ credits_most
two_octets xs o k = omega (arith, o k, o (k + 1))

body_octets : (pdu : List ℕ) → Octets pdu → Octets (body_in pdu)
body_octets pdu o k = by (ltb k (u16_at pdu 2)) refl
  where
    by : (b : Bool) → ltb k (u16_at pdu 2) ≡ b → get_or (body_in pdu) k 0 < 256
    by true e = rw (get_or-take (u16_at pdu 2) (drop 4 pdu) k 0 (ltb-true _ _ e), get_or-drop 4 pdu k 0) (o (4 + k))
    by false e =
        let past : length (body_in pdu) ≤ k = omega (arith, length-take (u16_at pdu 2) (drop 4 pdu), ltb-false k (u16_at pdu 2) e) in
        rw (get_or-eq_default (body_in pdu) 0 past) (omega arith)

request-gives : (body : List ℕ) → Octets body → RequestGives (le_credit_conn_req body)
unfolding le_credit_conn_req
request-gives body o = if_cases RequestGives _ (λ _. two_octets body o 8) (λ _. tt)

response-gives : (body : List ℕ) → Octets body → ResponseGives (le_credit_conn_res body)
unfolding le_credit_conn_res
response-gives body o = if_cases ResponseGives _ (λ _. by (result_of (u16_at body 8))) (λ _. tt)
  where
    by : (r : Option LeCreditConnResultCode) → ResponseGives (res_if r body)
    by (Some c) = two_octets body o 6
    by None = tt

-- ---- what a slot's tests tell

free-slot : (x : Slot) → is_free x ≡ true → (is_disconnected x.state ≡ true) × (x.hold ≡ 0)
free-slot x e =
    (and_left (is_disconnected x.state) (eqb x.hold 0) e, eqb-true x.hold 0 (and_right (is_disconnected x.state) (eqb x.hold 0) e))

attempt-slot : (link id : ℕ) (x : Slot) → attempt_by link id x ≡ true → is_connecting x.state ≡ true
attempt-slot link id x e = and_left (is_connecting x.state) (eqb x.link link) (and_left (attempt_of link x) (eqb (identifier_of x.state) id) e)

connected-slot : (link cid : ℕ) (x : Slot) → connected_to link cid x ≡ true → is_connected x.state ≡ true
connected-slot link cid x e = and_left (is_connected x.state) (eqb x.link link && eqb x.peer.cid cid) e

link-slot : (link : ℕ) (x : Slot) → of_link link x ≡ true → is_disconnected x.state ≡ false
link-slot link x e = not-true (is_disconnected x.state) (and_left (not (is_disconnected x.state)) (eqb x.link link) e)

connected-live : (x : Slot) → is_connected x.state ≡ true → is_disconnected x.state ≡ false
connected-live x e = begun-live x.state (connected-begun x.state e)

module _ (t : Table) (k room : ℕ) (l : t.n ≤ length t.slots) (well : well_formed t ≡ true) (size : room ≡ room_size t) where
  stays : {a : Answer} {out : List Fill} → passes a ≡ true → Stepped t k (still t a out)
  stays {a} {out} ok = stepped_still t k a out ok

  -- the room that is lent is the run's
  sized : not (eqb room (room_size t)) ≡ false
  sized = ap not (eq-eqb room (room_size t) size)

  abbrev P : Outcome → Type 0
  P o = Stepped t k o

  -- ---- the peer asks

  next-pending : (link : ℕ) (up : Bool) → Stepped t k (next_pending t link up)
  unfolding next_pending
  next-pending link up =
      stepped_gate t k _ _ _ _ well refl
      (λ _. if_cases P _ (λ _. if_cases P up (λ _. stays refl) (λ _. stays refl))
      (λ e. if_cases P _ (λ _. stays refl) (λ _. stepped_change t k _ _ _ (leb-false _ _ e) l (hold 1) _ _ refl)))

  reject_all : (signal link : ℕ) → Stepped t k (reject_all_pending t room signal link)
  unfolding reject_all_pending
  reject_all signal link =
      stepped_gate t k _ _ _ _ well sized (λ _. if_cases P _ (λ _. stays refl) (λ e. stepped_change t k _ _ _ (leb-false _ _ e) l (free _) _ _ refl))

  accept_pending_lem : (signal s : ℕ) (c : L2capChannelConfig) → t.d ≤ credits_most → SettingFits c.credits → Stepped t k (accept_pending t signal s c)
  unfolding accept_pending
  accept_pending_lem signal s c hd f =
      stepped_gate t k _ _ _ _ well refl
      (λ h. if_cases P _ (λ _. stays refl)
      (λ _. if_cases P _ (λ _. stays refl)
      (λ m. if_cases P _ (λ _. stays refl)
      (λ e. if_cases P _ (λ _. stays refl)
      (λ _. stepped_change t k s _ _ h l
      (accept (record {
        was = not-false _ e;
        is = refl;
        mtu = ltb-false _ _ m;
        sum = credits_fit t.d c.credits hd f;
        assembly = refl;
        queue = refl;
        peer = refl;
        job = refl;
        tallies = refl;
      })) _ _ refl)))))

  reject-pending : (signal s : ℕ) (result : Option LeCreditConnResultCode) → Stepped t k (reject_read t room signal s result)
  unfolding reject_pending not_code
  reject-pending signal s None = stepped_gate t k _ _ _ _ well sized (λ _. stays refl)
  reject-pending signal s (Some result) =
      stepped_gate t k _ _ _ _ well sized (λ h. if_cases P _ (λ _. stays refl) (λ _. if_cases P _ (λ _. stays refl) (λ _. stepped_change t k s _ _ h l (free _) _ _ refl)))

  drop-pending : (s : ℕ) → Stepped t k (drop_pending t room s)
  unfolding drop_pending
  drop-pending s =
      stepped_gate t k _ _ _ _ well sized
      (λ h. if_cases P _ (λ _. stays refl)
      (λ _. if_cases P _ (λ _. stays refl)
      (λ _. if_cases P _ (λ _. stepped_change t k s _ _ h l (free _) _ _ refl) (λ _. stepped_change t k s _ _ h l (hold _) _ _ refl))))

  -- ---- we ask

  create-steps : (signal link spsm : ℕ) (c : L2capChannelConfig) → t.d ≤ credits_most → SettingFits c.credits → Stepped t k (create t signal link spsm c)
  unfolding create
  create-steps signal link spsm c hd f =
      stepped_gate t k _ _ _ _ well refl
      (λ _. if_cases P _ (λ _. stepped_spent t k _ _ refl refused)
      (λ _. if_cases P _ (λ _. stepped_spent t k _ _ refl refused)
      (λ m. if_cases P _ (λ _. stepped_spent t k _ _ refl refused)
      (λ e.
      let h = leb-false t.n (found is_free t) e in
      let g = free-slot (slot_at t (found is_free t)) (found-passes is_free t l h) in
      stepped_change_spent t k (found is_free t) _ _ h l
      (allocate (record {
        was = g.0;
        unheld = g.1;
        is = refl;
        unbegun = refl;
        mtu = ltb-false _ _ m;
        sum = credits_fit t.d c.credits hd f;
        assembly = refl;
        queue = refl;
        peer = omega arith;
        least = λ e. absurd (false≢true e);
        job = refl;
        tallies = refl;
      })) _ _ refl (told (Signal.LeCreditConnReq (record { spsm = spsm; scid = cid_of (found is_free t); mtu = mtu_of t c; mps = mps_of t c; credits = credits_of t c })))))))

  opened-steps : (s link : ℕ) (up : Bool) → Stepped t k (opened t room s link up)
  unfolding opened
  opened-steps s link up =
      stepped_gate t k _ _ _ _ well sized
      (λ h.
      if_cases P _ (λ _. stays refl)
      (λ _. if_cases P _ (λ _. stays refl)
      (λ _. if_cases P _ (λ _. stepped_change t k s _ _ h l (free _) _ _ refl)
      (λ _. if_cases P _ (λ _. stepped_change t k s _ _ h l (free _) _ _ refl)
      (λ _. if_cases P _ (λ _. stepped_change t k s _ _ h l (free _) _ _ refl)
      (λ _. if_cases P _ (λ _. stays refl)
      (λ _. if_cases P _ (λ _. stays refl)
      (λ _. stepped_change t k s _ _ h l (hold 1) _ _ refl))))))))

  give_up_lem : (s : ℕ) → Stepped t k (give_up t room s)
  unfolding give_up
  give_up_lem s = stepped_gate t k _ _ _ _ well sized (λ h. if_cases P _ (λ _. stepped_change t k s _ _ h l (free _) _ _ refl) (λ _. stays refl))

  -- ---- holds and disconnects

  inc_ref_lem : (s : ℕ) → Stepped t k (inc_ref t s)
  unfolding inc_ref
  inc_ref_lem s = stepped_gate t k _ _ _ _ well refl (λ h. if_cases P _ (λ _. stays refl) (λ _. stepped_change t k s _ _ h l (hold _) _ _ refl))

  dec_ref_lem : (s : ℕ) → Stepped t k (dec_ref t room s)
  unfolding dec_ref
  dec_ref_lem s =
      stepped_gate t k _ _ _ _ well sized
      (λ h. if_cases P _ (λ _. stays refl)
      (λ _. if_cases P _
      (λ e. stepped_change t k s _ _ h l (go (goes_on (connected-live (slot_at t s) (and_left (is_connected (slot_at t s).state) (eqb (slot_at t s).hold 1) e)) refl refl ended (reset _)) same leave shut) _ _ refl)
      (λ _. stepped_change t k s _ _ h l (hold _) _ _ refl)))

  leaves-steps : (s : ℕ) → s < t.n → Stepped t k (disconnecting t s)
  unfolding disconnecting
  leaves-steps s h = if_cases P _ (λ e. stepped_change t k s _ _ h l (go (goes_on (connected-live (slot_at t s) e) refl refl ended (reset _)) same leave shut) _ _ refl) (λ _. stays refl)

  disconnect-steps : (s : ℕ) → Stepped t k (disconnect t room s)
  unfolding disconnect
  disconnect-steps s = stepped_gate t k _ _ _ _ well sized (λ h. leaves-steps s h)

  disconnect_by_cid_lem : (cid : ℕ) → Stepped t k (disconnect_by_cid t room cid)
  unfolding disconnect_by_cid
  disconnect_by_cid_lem cid = stepped_gate t k _ _ _ _ well sized (λ _. if_cases P _ (λ e. leaves-steps (slot_of cid) (cid_within t cid e)) (λ _. stays refl))

  link_down : (link : ℕ) → Stepped t k (disconnected t room link)
  unfolding disconnected
  link_down link = stepped_gate t k _ _ _ _ well sized (λ _. stepped_sweep t k (of_link link) _ refl)

  next-disconnect : (signal : ℕ) → Stepped t k (next_disconnect t room signal)
  unfolding next_disconnect
  next-disconnect signal =
      stepped_gate t k _ _ _ _ well sized
      (λ _. if_cases P _ (λ _. stays refl)
      (λ e.
      let s = found due_slot t in
      let h = leb-false t.n s e in
      let b = due-begun (slot_at t s).state (found-passes due_slot t l h) in
      if_cases P _ (λ _. stepped_change t k s _ _ h l (free _) _ _ refl)
      (λ p. stepped_change_spent t k s _ _ h l (go (goes_on (begun-live (slot_at t s).state b) refl refl ended
      (uncounted (λ _. due-uncounted (slot_at t s).state (found-passes due_slot t l h) p))) same keep (off (due_off (slot_at t s).state (found-passes due_slot t l h)))) _ _ refl (told (Signal.DisconnectionReq (record { dcid = (slot_at t s).peer.cid; scid = cid_of s }))))))

  -- ---- signals

  on_conn_req_lem : (link : ℕ) (listening : Bool) (id : ℕ) (r : Option LeCreditConnReq) → RequestGives r → Stepped t k (on_conn_req t link listening id r)
  unfolding on_conn_req
  on_conn_req_lem link listening id None few = stays refl
  on_conn_req_lem link listening id (Some req) few =
      if_cases P _ (λ _. stays refl)
      (λ _. if_cases P _ (λ _. stays refl)
      (λ _. if_cases P _ (λ _. stays refl)
      (λ b. if_cases P _ (λ _. stays refl)
      (λ _. if_cases P _ (λ _. stays refl)
      (λ e.
      let h = leb-false t.n (found is_free t) e in
      let g = free-slot (slot_at t (found is_free t)) (found-passes is_free t l h) in
      stepped_change t k (found is_free t) _ _ h l
      (allocate (record {
        was = g.0;
        unheld = g.1;
        is = refl;
        unbegun = refl;
        mtu = omega arith;
        sum = omega arith;
        assembly = refl;
        queue = refl;
        peer = few;
        least = λ _. b;
        job = refl;
        tallies = refl;
      })) _ _ refl)))))

  on_conn_res_lem : (link id : ℕ) (r : Option LeCreditConnRes) → ResponseGives r → Stepped t k (on_conn_res t link id r)
  unfolding on_conn_res
  on_conn_res_lem link id None few = stays refl
  on_conn_res_lem link id (Some res) few =
      if_cases P _ (λ _. stepped_sweep t k (attempt_of link) _ refl)
      (λ e.
      let s = found (attempt_by link id) t in
      let h = leb-false t.n s e in
      let c = attempt-slot link id (slot_at t s) (found-passes (attempt_by link id) t l h) in
      let live = attempt-live (slot_at t s).state c in
      let early = attempt_unbegun (slot_at t s).state c in
      let closed = unbegun_off (slot_at t s).state early in
      let quiet = unbegun_uncounted (slot_at t s).state early in
      if_cases P _
      (λ _. stepped_change t k s _ _ h l (go (record { was = live; is = refl; stays = λ b. absurd (false≢true (sym early ∙ b)); mtu = refl; least = ended; counts = uncounted (λ _. quiet) }) same keep (off closed)) _ _ refl)
      (λ _. if_cases P _
      (λ _. stepped_change t k s _ _ h l (go (goes_on live refl refl ended (uncounted (λ _. quiet))) same keep (meet closed few)) _ _ refl)
      (λ b. stepped_change t k s _ _ h l (go (goes_on live refl refl (λ _ _. b) (uncounted (λ _. quiet))) same keep (meet closed few)) _ _ refl)))

  on_credits_lem : (link id : ℕ) (r : Option LeCreditFlowInd) → Stepped t k (on_credits t link id r)
  unfolding on_credits
  on_credits_lem link id None = stays refl
  on_credits_lem link id (Some ind) =
      if_cases P _ (λ _. stays refl)
      (λ e.
      let s = found (connected_to link ind.cid) t in
      let h = leb-false t.n s e in
      let c = connected-slot link ind.cid (slot_at t s) (found-passes (connected_to link ind.cid) t l h) in
      if_cases P _
      (λ _. stepped_change t k s _ _ h l (go (goes_on (connected-live (slot_at t s) c) refl refl ended (reset _)) same leave shut) _ _ refl)
      (λ f. stepped_change t k s _ _ h l
      (go (goes_on (connected-live (slot_at t s) c) (connected-begun (slot_at t s).state c) refl (λ f. f) (uncounted (λ f. f))) same keep (gain ind.credits (ltb-false _ _ f))) _ _ refl))

  on_disconnection_req_lem : (link id : ℕ) (r : Option DisconnectionReq) → Stepped t k (on_disconnection_req t link id r)
  unfolding on_disconnection_req
  on_disconnection_req_lem link id None = stays refl
  on_disconnection_req_lem link id (Some req) =
      if_cases P _ (λ _. stays refl)
      (λ e. if_cases P _ (λ _. stays refl)
      (λ f. stepped_change t k (slot_of req.dcid) _ _ (cid_within t req.dcid (not-false _ e)) l
      (go (goes_on (link-slot link (slot_at t (slot_of req.dcid)) (not-false _ f)) refl refl ended parted) same leave shut) _ _ refl))

  on_disconnection_res_lem : (link id : ℕ) (r : Option DisconnectionRes) → Stepped t k (on_disconnection_res t link id r)
  unfolding on_disconnection_res
  on_disconnection_res_lem link id None = stays refl
  on_disconnection_res_lem link id (Some res) =
      if_cases P _ (λ _. stays refl)
      (λ e. if_cases P _ (λ _. stays refl)
      (λ _. stepped_change t k (slot_of res.scid) _ _ (cid_within t res.scid (not-false _ e)) l (free _) _ _ refl))

  on_parameters_lem : (id : ℕ) (r : Option ConnParamUpdateReq) → Stepped t k (on_parameters t id r)
  unfolding on_parameters
  on_parameters_lem id None = stays refl
  on_parameters_lem id (Some req) = if_cases P _ (λ _. stays refl) (λ _. stays refl)

  on_reject_lem : (id : ℕ) (r : Option CommandRejectRes) → Stepped t k (on_reject t id r)
  unfolding on_reject
  on_reject_lem id None = stays refl
  on_reject_lem id (Some res) = stays refl

  on_parameter_response_lem : (id : ℕ) (r : Option ConnParamUpdateRes) → Stepped t k (on_parameter_response t id r)
  unfolding on_parameter_response
  on_parameter_response_lem id None = stays refl
  on_parameter_response_lem id (Some res) = stays refl

  handled-steps : (link : ℕ) (listening central : Bool) (code id : ℕ) (body : List ℕ) → Octets body → Stepped t k (handled t link listening central code id body)
  unfolding handled
  handled-steps link listening central code id body octets =
      if_cases P _ (λ _. on_reject_lem id _)
      (λ _. if_cases P _ (λ _. on_disconnection_req_lem link id _)
      (λ _. if_cases P _ (λ _. on_disconnection_res_lem link id _)
      (λ _. if_cases P _ (λ _. if_cases P _ (λ _. on_parameters_lem id _) (λ _. stays refl))
      (λ _. if_cases P _ (λ _. on_parameter_response_lem id _)
      (λ _. if_cases P _ (λ _. on_conn_req_lem link listening id _ (request-gives body octets))
      (λ _. if_cases P _ (λ _. on_conn_res_lem link id _ (response-gives body octets))
      (λ _. if_cases P _ (λ _. on_credits_lem link id _) (λ _. stays refl))))))))

  checked-steps : (link : ℕ) (listening central : Bool) (pdu : List ℕ) → Octets pdu → (c : Result (Unit {0}) BadHeader) → Stepped t k (checked t link listening central pdu c)
  unfolding checked
  checked-steps link listening central pdu octets (Err Cut) = stays refl
  checked-steps link listening central pdu octets (Err (Past id)) = stays refl
  checked-steps link listening central pdu octets (Ok tt) = if_cases P _ (λ _. stays refl) (λ _. handled-steps link listening central _ _ _ (body_octets pdu octets))

  signalled-steps : (signal link : ℕ) (listening central : Bool) (pdu : List ℕ) → Octets pdu → Stepped t k (signalled t room signal link listening central pdu)
  unfolding signalled
  signalled-steps signal link listening central pdu octets = stepped_gate t k _ _ _ _ well sized (λ _. checked-steps link listening central pdu octets _)

  -- ---- frames and jobs

  -- a take's outcome is that of the change, but for what is handed out
  with-job : {o : Outcome} (j : List Fill) → Stepped t k o → Stepped t k (record { answer = o.answer; table = o.table; parts = o.parts; at = o.at; out = o.out; octets = o.octets; job = j })
  with-job j p = record { answer = p.answer; n = p.n; d = p.d; m = p.m; long = p.long; identifier = p.identifier; slots = p.slots }

  taken-steps : (s : ℕ) → s < t.n → begun (slot_at t s).state ≡ true → 0 < (slot_at t s).queue.count → (g : Option ℕ)
      → ((n : ℕ) → g ≡ Some n → grant_of (slot_at t s).account ≡ Some n) → Stepped t k (taken t s (slot_at t s) g)
  unfolding taken
  taken-steps s h b c None f = with-job _ (stepped_change t k s _ _ h l (go (goes_on (begun-live (slot_at t s).state b) b refl (λ f. f) (uncounted (λ f. f))) same (hand b c) stay) _ _ refl)
  taken-steps s h b c (Some n) f =
      with-job _ (stepped_change_spent t k s _ _ h l (go (goes_on (begun-live (slot_at t s).state b) b refl (λ f. f) (uncounted (λ f. f))) (grant (f n refl)) (hand b c) stay) _ _ refl (told (Signal.LeCreditFlowInd (record { cid = cid_of s; credits = n }))))

  receive-steps : (signal s size : ℕ) → Stepped t k (receive t room signal s size)
  unfolding receive
  receive-steps signal s size =
      stepped_gate t k _ _ _ _ well sized
      (λ h. if_cases P _ (λ _. stays refl)
      (λ e. if_cases P _ (λ _. stays refl)
      (λ c. if_cases P _ (λ _. stays refl)
      (λ _. taken-steps s h (takes_begun (slot_at t s).state e) (let z = eqb-false (slot_at t s).queue.count 0 c in omega arith) _ (granted_in (slot_at t s))))))

  -- ---- a frame that comes as the definition says
  dispatch-steps : (link cid : ℕ) (head : List ℕ) → ((s : ℕ) → s < t.n → Sound t.d (place_of t) (slot_at t s))
      → (is_cid t cid ≡ true → Headed (slot_at t (slot_of cid)).assembly head k) → Stepped t k (dispatch t room link cid head k)
  unfolding dispatch
  dispatch-steps link cid head sound headed =
      stepped_gate t k _ _ _ _ well sized
      (λ _. if_cases P _ (λ _. stays refl)
      (λ e. if_cases P _ (λ _. stays refl)
      (λ c. if_cases P _ (λ _. stays refl)
      (λ _.
      let s = slot_of cid in
      let x = slot_at t s in
      let on = not-false (is_cid t cid) e in
      let h = cid_within t cid on in
      let linked = not-false (is_connected x.state) c in
      let ok = sound s h in
      if_cases P _ (λ _. stepped_change t k s _ _ h l (go (goes_on (connected-live x linked) (connected-begun x.state linked) refl (λ f. f) (blocked_receive linked)) same keep stay) _ _ refl)
      (λ z. stepped_joined t k s h l linked (eqb-false x.account.credits 0 z) _
      (step_joins t.d x.assembly x.queue.count k ok.holding.closed x.mtu x.mps (u16_at head 0) head ok.within.want (headed on)))))))

  -- a Connected slot's peer MPS is at least 23
  wide : ((s : ℕ) → s < t.n → Sound t.d (place_of t) (slot_at t s)) → (s : ℕ) → s < t.n → is_connected (slot_at t s).state ≡ true → size_least ≤ (slot_at t s).peer.mps
  wide sound s h on = (least_sizes (slot_at t s).peer ((sound s h).least (connected-offered (slot_at t s).state on))).1

  send-steps : (s size out : ℕ) → ((s : ℕ) → s < t.n → Sound t.d (place_of t) (slot_at t s)) → Stepped t k (send t s size out)
  unfolding send
  send-steps s size out sound =
      stepped_gate t k _ _ _ _ well refl
      (λ h. if_cases P _ (λ _. stays refl)
      (λ c.
      let on = not-false (is_connected (slot_at t s).state) c in
      if_cases P _ (λ _. stays refl) (λ _. stepped_planned t k s h l on size _ (plan_passes size _ _ _ _ (wide sound s h on)))))

  -- ---- jobs handed over in portions

  start-steps : (s size out : ℕ) → ((s : ℕ) → s < t.n → Sound t.d (place_of t) (slot_at t s)) → Stepped t k (start_job t s size out)
  unfolding start_job
  start-steps s size out sound =
      stepped_gate t k _ _ _ _ well refl
      (λ h. if_cases P _ (λ _. stays refl)
      (λ c.
      let on = not-false (is_connected (slot_at t s).state) c in
      if_cases P _ (λ _. stays refl) (λ _. stepped_started t k s h l on size out _ (plan_passes size _ _ _ _ (wide sound s h on)) refl)))

  portion-steps : (s count out : ℕ) → Stepped t k (give_portion t s count out)
  unfolding give_portion
  portion-steps s count out =
      stepped_gate t k _ _ _ _ well refl
      (λ h. if_cases P _ (λ _. stays refl)
      (λ c. if_cases P _ (λ _. stays refl)
      (λ o. if_cases P _ (λ _. stays refl)
      (λ _. if_cases P _ (λ _. stays refl)
      (λ f.
      let x = slot_at t s in
      let on = not-false (is_connected x.state) c in
      stepped_filling t k s _ [] h l
      (go (goes_on (connected-live x on) (connected-begun x.state on) refl (λ f. f) (uncounted (λ f. f))) same keep (portion count on (ltb-true 0 x.job.aside (not-false _ o)) (ltb-false _ _ f))) _ _ _ _ refl refl)))))

  cancel_steps : (s : ℕ) → Stepped t k (cancel_job t room s)
  unfolding cancel_job
  cancel_steps s =
      stepped_gate t k _ _ _ _ well sized
      (λ h. if_cases P _ (λ _. stays refl)
      (λ c. if_cases P _ (λ _. stays refl)
      (λ _.
      let on = not-false (is_connected (slot_at t s).state) c in
      if_cases P _ (λ _. stepped_change t k s _ _ h l (go (goes_on (connected-live (slot_at t s) on) (connected-begun (slot_at t s).state on) refl (λ f. f) (uncounted (λ f. f))) same keep cancel) _ _ refl)
      (λ _. stepped_change t k s _ _ h l (go (goes_on (connected-live (slot_at t s) on) refl refl ended (reset _)) same leave shut) _ _ refl))))

  -- ---- calls that change no slot

  register_steps : (spsm : ℕ) → Stepped t k (register_spsm t spsm)
  unfolding register_spsm
  register_steps spsm =
      stepped_gate t k _ _ _ _ well refl
      (λ _. if_cases P _ (λ _. stays refl) (λ _. record { answer = refl; n = refl; d = refl; m = refl; long = refl; identifier = kept; slots = rest }))

  attention-steps : Stepped t k (attention t)
  unfolding attention
  attention-steps = stepped_gate t k _ _ _ _ well refl (λ _. stays refl)

  query-steps : (of : Slot → ℕ) (s : ℕ) → Stepped t k (query of t s)
  unfolding query
  query-steps of s = stepped_gate t k _ _ _ _ well refl (λ _. stays refl)

  send-signal : (signal link : ℕ) (s : Signal) → Stepped t k (send_signal t signal link s)
  unfolding send_signal
  send-signal signal link s = stepped_gate t k _ _ _ _ well refl (λ _. stepped_spent t k _ _ refl (told s))

  -- ---- all of them

  serve-steps : (r : Request) → t.d ≤ credits_most → ((s : ℕ) → s < t.n → Sound t.d (place_of t) (slot_at t s)) → RequestFits r → (out job : ℕ) → Stepped t k (serve t r room out job)
  unfolding serve
  serve-steps (register spsm) hd sound f out job = register_steps spsm
  serve-steps (signals link listening central pdu) hd sound f out job = signalled-steps out link listening central pdu f
  serve-steps (pends link up) hd sound f out job = next-pending link up
  serve-steps (rejects_all link) hd sound f out job = reject_all out link
  serve-steps (accepts s c) hd sound f out job = accept_pending_lem out s c hd f
  serve-steps (rejects s result) hd sound f out job = reject-pending out s result
  serve-steps (drops s) hd sound f out job = drop-pending s
  serve-steps (creates link spsm c) hd sound f out job = create-steps out link spsm c hd f
  serve-steps (opens s link up) hd sound f out job = opened-steps s link up
  serve-steps (gives s) hd sound f out job = give_up_lem s
  serve-steps (holds s) hd sound f out job = inc_ref_lem s
  serve-steps (releases s) hd sound f out job = dec_ref_lem s
  serve-steps (leaves s) hd sound f out job = disconnect-steps s
  serve-steps (leaves_cid cid) hd sound f out job = disconnect_by_cid_lem cid
  serve-steps announces hd sound f out job = next-disconnect out
  serve-steps (takes s) hd sound f out job = receive-steps out s job
  serve-steps (starts s size) hd sound f out job = start-steps s size out sound
  serve-steps (cancels s) hd sound f out job = cancel_steps s
  serve-steps attends hd sound f out job = attention-steps
  serve-steps (asks of s) hd sound f out job = query-steps of s
  serve-steps (sends_signal link s) hd sound f out job = send-signal out link s
  serve-steps (writes octets) hd sound f out job = stays refl

-- a frame without its job octets still has its length octets where they are read
headed : (t : Table) (cid : ℕ) (payload : List ℕ) → is_cid t cid ≡ true
    → Headed (slot_at t (slot_of cid)).assembly (choose (joining t cid) [] (take 2 payload)) (length (choose (joining t cid) payload (drop 2 payload)))
headed t cid payload on = record { joins = joins; opens = opens }
  where
    want : ℕ
    want = (slot_at t (slot_of cid)).assembly.want

    joins : (want ≡ 0 → ⊥) → length (choose (joining t cid) [] (take 2 payload)) ≡ 0
    joins some = ap length (choose_true (joining t cid) [] (take 2 payload) (and_both (is_cid t cid) _ on (ap not (ne_eqb want 0 some))))

    opens : want ≡ 0 → 2 ≤ length (choose (joining t cid) [] (take 2 payload)) + length (choose (joining t cid) payload (drop 2 payload))
        → length (choose (joining t cid) [] (take 2 payload)) ≡ 2
    opens none h =
        let off : joining t cid ≡ false = ap (λ (b : Bool). is_cid t cid && not b) (eq-eqb want 0 none) ∙ and-false (is_cid t cid) in
        let e : length (choose (joining t cid) [] (take 2 payload)) ≡ min 2 (length payload) = ap length (choose_false (joining t cid) [] (take 2 payload) off) ∙ length-take 2 payload in
        let f : length (choose (joining t cid) payload (drop 2 payload)) ≡ length payload - 2 = ap length (choose_false (joining t cid) payload (drop 2 payload) off) ∙ length-drop 2 payload in
        omega arith

-- Every call, on a table whose slots are sound, makes steps of these kinds alone.
pub decide-steps : (t : Table) (c : Call) (room : ℕ) → t.n ≤ length t.slots → well_formed t ≡ true → room ≡ room_size t → t.d ≤ credits_most
    → ((s : ℕ) → s < t.n → Sound t.d (place_of t) (slot_at t s)) → Fits c → (out job : ℕ)
    → Stepped t (length (jobs t c)) (decide t (bare t c) (length (jobs t c)) room out job)
unfolding decide bare jobs
decide-steps t (frame link cid payload) room l well size hd sound f out job = dispatch-steps t _ room l well size link cid _ sound (headed t cid payload)
decide-steps t (sends s sdu w) room l well size hd sound f out job = send-steps t _ room l well size s (length sdu) out sound
decide-steps t (portions s octets w) room l well size hd sound f out job = portion-steps t _ room l well size s (length octets) out
decide-steps t (down link) room l well size hd sound f out job = link_down t _ room l well size link
decide-steps t (plain r w v) room l well size hd sound f out job = serve-steps t _ room l well size r hd sound f out job
