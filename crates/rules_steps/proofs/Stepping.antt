-- Every call makes only the steps of the table (Steps.antt): one lemma a call, its tests in the definition's order.
use Rattle.std.specs.Prelude.{◌≡◌, ◌&&◌, ◌||◌, List, [], ◌∷◌, length, get_or, set, None, Option, Some, Result, Ok, Err}
use Rattle.std.proofs.Math.Path.{refl, sym, ap, subst}
use Rattle.std.proofs.Common.{◌∙◌, not-suc-le-zero, le_of_suc-le-suc, arith, get_or-set_same, get_or-set_other}
use Rattle.std.proofs.Math.Bool.{Bool, true, false, not}
use Rattle.std.proofs.lemmas.Bool.{false≢true}
use Prim.Native.Nat.{ℕ, zero, suc, ◌+◌, ◌-◌, ◌≤◌, ◌<◌, min}
use Rattle.std.proofs.Math.Dec.{eqb, leb, ltb}
use borrow.Author.Tests.{eqb-true, eqb-false, eq-eqb, ne_eqb, le-leb, lt-leb, lt-ltb, leb-true, leb-false, ltb-true, ltb-false, not-true, not-false}
use Rattle.lists.specs.Choose.{choose, if_cases}
use Rattle.lists.specs.Each.{map_first}
use Rattle.lists.specs.Both.{and_left, and_right}
use Rattle.codes.specs.Codes.{refusal_number}
use Rattle.codes.specs.declared.Refusal.{Refusal}
use Rattle.codes.specs.declared.Refusal.TheVariants as Refusal
use Rattle.credit.specs.Account.{received}
use Rattle.signal_headers.specs.Headers.{headers_of, body_in}
use Rattle.signal_headers.specs.declared.BadHeader.{BadHeader}
use Rattle.signal_headers.specs.declared.BadHeader.TheVariants.{Cut, Past}
use Rattle.signal_bodies.specs.Bodies.{disconnection_req, disconnection_res}
use Rattle.signal_bodies.specs.LeCreditBodies.{le_credit_conn_req, le_credit_conn_res, le_credit_flow_ind}
use Rattle.signal_forms.specs.declared.Signal.{Signal}
use Rattle.octets.specs.Octets.{u16_at}
use Rattle.sar_join.specs.declared.Assembly.{Assembly}
use Rattle.sar_join.specs.declared.Joined.{Joined}
use Rattle.sar_join.specs.declared.Joined.TheVariants as Joined
use Rattle.sar_join.specs.Joining.{reached, first_step, join_step}
use Rattle.sar_cut.specs.declared.Framed.{Framed}
use Rattle.sar_cut.specs.Cutting.{frame_count, frames_length, plan_send}
use Rattle.sar_cut.proofs.CutLaws.{count-holds, plan_allowed}
use Rattle.channel.specs.Limits.{cid_base, size_least}
use Rattle.channel.specs.declared.Answer.{Answer}
use Rattle.channel.specs.declared.Answer.TheVariants.{Done, Refused, At, Link, Opened, Due, Frames, Portion}
use Rattle.channel.specs.declared.ChannelState.{ChannelState}
use Rattle.channel.specs.declared.ChannelState.TheVariants.{Disconnected, Connecting, PeerConnecting, Connected, ConnectFailed, PeerDisconnecting, Disconnecting}
use Rattle.channel.specs.declared.L2capChannelConfig.{L2capChannelConfig}
use Rattle.channel.specs.declared.OpenJob.{OpenJob}
use Rattle.channel.specs.declared.Slot.{Slot}
use Rattle.channel.specs.declared.Table.{Table}
use Rattle.definition.specs.Table.{gap, freed, slot_at, found, is_disconnected, is_connecting, is_peer_connecting, is_connected, is_disconnecting, failure_of, is_free, of_link, pending_of, unheld_pending_of, attempt_of, attempt_by, connected_to, due_slot, index, cid_of, is_cid, slot_of, uses_peer, is_registered, next_id, with_account, count_received, blocks, is_open, no_job}
use Rattle.definition.specs.Outcome.{Outcome}
use Rattle.definition.specs.Pending.{next_pending, reject_all_pending, accept_pending, reject_pending, not_code, reject_read, drop_pending}
use Rattle.definition.specs.Opening.{create, opened, give_up}
use Rattle.definition.specs.Closing.{inc_ref, dec_ref, disconnecting, disconnect, disconnect_by_cid, disconnected, next_disconnect}
use Rattle.definition.specs.Signals.{signalled, checked, handled, on_reject, on_disconnection_req, on_disconnection_res, on_parameters, on_parameter_response, requester, on_conn_req, responder, on_conn_res, on_credits}
use Rattle.definition.specs.Frames.{dispatch, joined, send, planned, receive, taken}
use Rattle.definition.specs.Portions.{given_out, frame_size, begun, start_planned, start_job, taking, full_with, filled_by, give_portion, cancel_job}
use Rattle.definition.specs.Asking.{register_spsm, attention, query, send_signal}
use Rattle.definition.specs.Calls.{Window, Call, frame, sends, portions, down, plain, Request, register, signals, pends, rejects_all, accepts, rejects, drops, creates, opens, gives, holds, releases, leaves, leaves_cid, announces, takes, starts, cancels, attends, asks, sends_signal, writes, bare, decide, serve}
use Rattle.definition.proofs.Tells.{cid_within, pending-is, connected-is, free-is, connecting_is}
use Rattle.definition.proofs.Numbers.{refused_not_0}
use Rattle.definition.specs.Forms.{Fit}
use Rattle.definition.proofs.Forms.{found-passes}
use Rattle.rules_steps.proofs.Tools.{is_peer_leaving, is_unannounced, is-failed, leaving_cases, left_cases, given_up_cases, and_off, and_off_right, or_off, or_none, or_right, held}
use Rattle.rules.proofs.Tests.{least_sizes, below_sizes}
use Rattle.rules.proofs.Forms.{gate_refusals}
use Rattle.rules_steps.specs.Steps.{Seen, seen, is, free, Row, by_code, names_as_dcid, names_as_scid, admits, grants_to, is_good, steps, is_number, Fills, part, full, last, Step, row, stay, stay_down, stay-frame, stay-send, portion, stay-portion, link_down, overrun, Steps, EveryStep}
use Rattle.rules_steps.specs.Steps as Steps
use Rattle.rules_steps.specs.Stepping.{Overruns}
use Rattle.codes.specs.declared.LeCreditConnResultCode.{LeCreditConnResultCode}
use Rattle.signal_forms.specs.declared.CommandRejectRes.{CommandRejectRes}
use Rattle.signal_forms.specs.declared.ConnParamUpdateReq.{ConnParamUpdateReq}
use Rattle.signal_forms.specs.declared.ConnParamUpdateRes.{ConnParamUpdateRes}
use Rattle.signal_forms.specs.declared.DisconnectionReq.{DisconnectionReq}
use Rattle.signal_forms.specs.declared.DisconnectionRes.{DisconnectionRes}
use Rattle.signal_forms.specs.declared.LeCreditConnReq.{LeCreditConnReq}
use Rattle.signal_forms.specs.declared.LeCreditConnRes.{LeCreditConnRes}
use Rattle.signal_forms.specs.declared.LeCreditFlowInd.{LeCreditFlowInd}

-- a slot that was read, by what its tests told
seen_as : (Q : ChannelState → (hold link : ℕ) → Type 0) (x : Slot) {k : ChannelState} {h l : ℕ} → x.state ≡ k → x.hold ≡ h → x.link ≡ l → Q k h l → Q x.state x.hold x.link
seen_as Q x {k} {h} {l} a b c q =
    subst (λ (z : ChannelState). Q z x.hold x.link) (sym a) (subst (λ (z : ℕ). Q k z x.link) (sym b) (subst (λ (z : ℕ). Q k h z) (sym c) q))

-- ---- the forms of an outcome, slot by slot

mapped_at : (n : ℕ) (f : Slot → Slot) (xs : List Slot) (i : ℕ) → i < n → i < length xs → get_or (map_first n f xs) i gap ≡ f (get_or xs i gap)
mapped_at zero f xs i h l = absurd (not-suc-le-zero h)
mapped_at (suc n) f [] i h l = absurd (not-suc-le-zero l)
mapped_at (suc n) f (x ∷ xs) zero h l = refl
mapped_at (suc n) f (x ∷ xs) (suc i) h l = mapped_at n f xs i (le_of_suc-le-suc h) (le_of_suc-le-suc l)

module _ (t : Table) (fit : Fit t) (c : Call) (a : Answer) where
  -- slot s becomes y, the others stay
  one : (s : ℕ) (y : Slot) → s < t.n → Step t s c a (seen (slot_at t s)) (seen y) → ((i : ℕ) → eqb i s ≡ false → Step t i c a (seen (slot_at t i)) (seen (slot_at t i)))
      → (i : ℕ) → i < t.n → Step t i c a (seen (slot_at t i)) (seen (get_or (set t.slots s y) i gap))
  one s y h p others i l = by (eqb i s) refl
    where
      by : (b : Bool) → eqb i s ≡ b → Step t i c a (seen (slot_at t i)) (seen (get_or (set t.slots s y) i gap))
      by true e =
          let q : s ≡ i = sym (eqb-true i s e) in
          let r : y ≡ get_or (set t.slots s y) s gap = sym (get_or-set_same t.slots s y gap (omega (arith, fit.fits))) in
          subst (λ (j : ℕ). Step t j c a (seen (slot_at t j)) (seen (get_or (set t.slots s y) j gap))) q (subst (λ (z : Slot). Step t s c a (seen (slot_at t s)) (seen z)) r p)
      by false e =
          let r : slot_at t i ≡ get_or (set t.slots s y) i gap = sym (get_or-set_other t.slots s i y gap (eqb-false i s e)) in
          subst (λ (z : Slot). Step t i c a (seen (slot_at t i)) (seen z)) r (others i e)

  -- every slot that passes the test is freed
  all : (p : Slot → Bool) → ((i : ℕ) (x : Slot) → p x ≡ true → Step t i c a (seen x) (free x.hold)) → ((i : ℕ) (x : Slot) → p x ≡ false → Step t i c a (seen x) (seen x))
      → (i : ℕ) → i < t.n → Step t i c a (seen (slot_at t i)) (seen (get_or (map_first t.n (λ x. choose (p x) (freed x) x) t.slots) i gap))
  all p frees keeps i l =
      let f : Slot → Slot = λ x. choose (p x) (freed x) x in
      let x : Slot = slot_at t i in
      let r : f x ≡ get_or (map_first t.n f t.slots) i gap = sym (mapped_at t.n f t.slots i l (omega (arith, fit.fits))) in
      subst (λ (z : Slot). Step t i c a (seen x) (seen z)) r (if_cases (λ z. Step t i c a (seen x) (seen z)) (p x) (λ e. frees i x e) (λ e. keeps i x e))

-- the PDU of no octets has code 0, which is no code
no_code : (pdu : List ℕ) → length pdu ≡ 0 → get_or pdu 0 0 ≡ 0
no_code [] e = refl
no_code (x ∷ xs) e = absurd (omega arith)

-- ---- CIDs and slots

cid_back : (t : Table) (cid : ℕ) → is_cid t cid ≡ true → cid_of (slot_of cid) ≡ cid
cid_back t cid e = let l = leb-true cid_base cid (and_left (leb cid_base cid) _ e) in omega arith

cid_eqb : (i s : ℕ) → eqb (cid_of i) (cid_of s) ≡ eqb i s
cid_eqb i s = by (eqb i s) refl
  where
    by : (b : Bool) → eqb i s ≡ b → eqb (cid_of i) (cid_of s) ≡ b
    by true e = eq-eqb (cid_of i) (cid_of s) (ap cid_of (eqb-true i s e))
    by false e = let z = eqb-false i s e in ne_eqb (cid_of i) (cid_of s) (λ u. z (omega arith))

-- a CID of no slot
no_cid : (t : Table) (cid : ℕ) → is_cid t cid ≡ false → (i : ℕ) → i < t.n → eqb (cid_of i) cid ≡ false
no_cid t cid e i l =
    ne_eqb (cid_of i) cid
    (λ u.
    let a : leb cid_base cid ≡ true = le-leb cid_base cid (omega arith) in
    let b : ltb (slot_of cid) t.n ≡ true = lt-ltb (slot_of cid) t.n (omega arith) in
    false≢true (sym e ∙ ap (λ (z : Bool). z && ltb (slot_of cid) t.n) a ∙ b))

-- ---- the calls

module _ (t : Table) (fit : Fit t) (v w : Window) where
  abbrev S : Request → Outcome → Type 0
  S r o = Steps t (plain r v w) o

  -- slot s is the only one that changes, by a row of the table
  steps-one : (r : Request) (a : Answer) (s : ℕ) (y : Slot) → s < t.n → Row t s r a (seen (slot_at t s)) (seen y) → ((i : ℕ) → eqb i s ≡ false → steps t i r a (seen (slot_at t i)) ≡ false)
      → (i : ℕ) → i < t.n → Step t i (plain r v w) a (seen (slot_at t i)) (seen (get_or (set t.slots s y) i gap))
  steps-one r a s y h p others = one t fit (plain r v w) a s y h (row p) (λ i e. stay (others i e))

  -- ---- the peer asks

  next-pending : (link : ℕ) (up : Bool) → S (pends link up) (next_pending t link up)
  unfolding next_pending
  next-pending link up =
      let P = S (pends link up) in
      gate_refusals P t _ _ _ _ (λ r h i l. stay refl)
      (λ _. if_cases P _ (λ _. if_cases P up (λ _ i l. stay refl) (λ _ i l. stay refl))
      (λ e. if_cases P _ (λ _ i l. stay refl)
      (λ f.
      let s = found (pending_of link) t in
      let x = slot_at t s in
      let p : pending_of link x ≡ true = found-passes t fit (pending_of link) e in
      steps-one (pends link up) _ s _ (leb-false _ _ e)
      (seen_as (λ k h l. Row t s (pends link up) (At (index s)) (is k h l x.peer.credits x.job) (is k 1 l x.peer.credits x.job)) x
      (pending-is x.state (and_left (is_peer_connecting x.state) _ p)) (eqb-true _ _ (not-false _ f)) (eqb-true _ _ (and_right (is_peer_connecting x.state) _ p)) (Steps.pend refl))
      (λ i g. g))))

  reject_all : (room signal link : ℕ) → S (rejects_all link) (reject_all_pending t room signal link)
  unfolding reject_all_pending
  reject_all room signal link =
      let P = S (rejects_all link) in
      gate_refusals P t _ _ _ _ (λ r h i l. stay refl)
      (λ _. if_cases P _ (λ _ i l. stay refl)
      (λ e.
      let s = found (unheld_pending_of link) t in
      let x = slot_at t s in
      let q : unheld_pending_of link x ≡ true = found-passes t fit (unheld_pending_of link) e in
      let p : pending_of link x ≡ true = and_left (pending_of link x) _ q in
      steps-one (rejects_all link) _ s _ (leb-false _ _ e)
      (seen_as (λ k h l. Row t s (rejects_all link) (At (index s)) (is k h l x.peer.credits x.job) (free h)) x
      (pending-is x.state (and_left (is_peer_connecting x.state) _ p)) (eqb-true _ _ (and_right (pending_of link x) _ q)) (eqb-true _ _ (and_right (is_peer_connecting x.state) _ p)) (Steps.clear refl))
      (λ i g. g)))

  accept_pending_lem : (signal s : ℕ) (c : L2capChannelConfig) → S (accepts s c) (accept_pending t signal s c)
  unfolding accept_pending
  accept_pending_lem signal s c =
      let P = S (accepts s c) in
      let x = slot_at t s in
      gate_refusals P t _ _ _ _ (λ r h i l. stay (and_off _ (refused_not_0 r)))
      (λ h. if_cases P _ (λ _ i l. stay refl)
      (λ _. if_cases P _ (λ _ i l. stay refl)
      (λ _. if_cases P _ (λ _ i l. stay refl)
      (λ e. if_cases P _ (λ _ i l. stay refl)
      (λ f. steps-one (accepts s c) _ s _ h
      (seen_as (λ k n l. Row t s (accepts s c) (Link l) (is k n l x.peer.credits x.job) (is Connected n l x.peer.credits x.job)) x
      (pending-is x.state (not-false _ e)) (held _ f) refl Steps.accept)
      (λ i g. g))))))

  reject-pending : (room signal s : ℕ) (result : Option LeCreditConnResultCode) → S (rejects s result) (reject_read t room signal s result)
  unfolding reject_pending not_code
  reject-pending room signal s (Some result) =
      let P = S (rejects s (Some result)) in
      let x = slot_at t s in
      gate_refusals P t _ _ _ _ (λ r h i l. stay (and_off _ (refused_not_0 r)))
      (λ h. if_cases P _ (λ _ i l. stay refl)
      (λ e. if_cases P _ (λ _ i l. stay refl)
      (λ f. steps-one (rejects s (Some result)) _ s _ h
      (seen_as (λ k n l. Row t s (rejects s (Some result)) (Link l) (is k n l x.peer.credits x.job) (free (x.hold - 1))) x
      (pending-is x.state (not-false _ e)) (held _ f) refl Steps.reject)
      (λ i g. g))))
  reject-pending room signal s None = gate_refusals (S (rejects s None)) t _ _ _ _ (λ r h i l. stay (and_off _ (refused_not_0 r))) (λ _ i l. stay refl)

  -- what holds of slot s alone
  only_at : (s i : ℕ) (p : Slot → Bool) → p (slot_at t s) ≡ false → (eqb i s && p (slot_at t i)) ≡ false
  only_at s i p e = by (eqb i s) refl
    where
      by : (b : Bool) → eqb i s ≡ b → (b && p (slot_at t i)) ≡ false
      by true f = subst (λ (j : ℕ). p (slot_at t j) ≡ false) (sym (eqb-true i s f)) e
      by false f = refl

  drop-pending : (room s : ℕ) → S (drops s) (drop_pending t room s)
  unfolding drop_pending
  drop-pending room s =
      let P = S (drops s) in
      let x = slot_at t s in
      gate_refusals P t _ _ _ _ (λ r h i l. stay (and_off _ (refused_not_0 r)))
      (λ h. if_cases P _ (λ e i l. stay (only_at s i (λ y. not (is_connected y.state)) (ap not e)))
      (λ e. if_cases P _ (λ _ i l. stay refl)
      (λ f. if_cases P _
      (λ g. steps-one (drops s) _ s _ h
      (seen_as (λ k n l. Row t s (drops s) Done (is k n l x.peer.credits x.job) (free (x.hold - 1))) x (pending-is x.state g) (held _ f) refl Steps.drop-pending) (λ i z. and_off _ z))
      (λ g. steps-one (drops s) _ s _ h
      (seen_as (λ k n l. Row t s (drops s) Done (is k n l x.peer.credits x.job) (is k (x.hold - 1) l x.peer.credits x.job)) x refl (held _ f) refl (Steps.drop_hold e g)) (λ i z. and_off _ z)))))

  -- ---- we ask

  create-steps : (signal link spsm : ℕ) (c : L2capChannelConfig) → S (creates link spsm c) (create t signal link spsm c)
  unfolding create
  create-steps signal link spsm c =
      let P = S (creates link spsm c) in
      gate_refusals P t _ _ _ _ (λ r h i l. stay refl)
      (λ _. if_cases P _ (λ _ i l. stay refl)
      (λ _. if_cases P _ (λ _ i l. stay refl)
      (λ _. if_cases P _ (λ _ i l. stay refl)
      (λ e.
      let s = found is_free t in
      let x = slot_at t s in
      let p : is_free x ≡ true = found-passes t fit is_free e in
      steps-one (creates link spsm c) _ s _ (leb-false _ _ e)
      (seen_as (λ k h l. Row t s (creates link spsm c) (At (index s)) (is k h l x.peer.credits x.job) (is (Connecting (next_id t)) 0 link 0 no_job)) x
      (free-is x.state (and_left (is_disconnected x.state) _ p)) (eqb-true _ _ (and_right (is_disconnected x.state) _ p)) refl (Steps.create refl))
      (λ i g. g)))))

  opens_gate : (s link i : ℕ) (up : Bool) (r : Refusal) → refusal_number r ≤ 6 → steps t i (opens s link up) (Refused r) (seen (slot_at t i)) ≡ false
  opens_gate s link i up r h = rw (refused_not_0 r, ne_eqb (refusal_number r) 17 (λ e. omega arith), ne_eqb (refusal_number r) 18 (λ e. omega arith))

  opened-steps : (room s link : ℕ) (up : Bool) → S (opens s link up) (opened t room s link up)
  unfolding opened
  opened-steps room s link up =
      let P = S (opens s link up) in
      let x = slot_at t s in
      let p = x.peer.credits in
      gate_refusals P t _ _ _ _ (λ r h i l. stay (opens_gate s link i up r h))
      (λ h. if_cases P _ (λ e i l. stay (only_at s i (λ y. not (is_disconnected y.state)) (ap not e)))
      (λ live. if_cases P _ (λ _ i l. stay refl)
      (λ same. if_cases P _
      (λ off. steps-one (opens s link up) _ s _ h
      (subst (λ (u : Bool). Row t s (opens s link u) (Refused Refusal.Disconnected) (seen x) (free x.hold)) (sym (not-true _ off))
      (seen_as (λ k n l. Row t s (opens s link false) (Refused Refusal.Disconnected) (is x.state n l p x.job) (free n)) x refl refl (eqb-true _ _ (not-false _ same)) (Steps.open_down live)))
      (λ i z. and_off _ z))
      (λ on.
      let is_up : true ≡ up = sym (not-false _ on) in
      let link-is : x.link ≡ link = eqb-true _ _ (not-false _ same) in
      if_cases P _
      (λ gone. steps-one (opens s link up) _ s _ h
      (subst (λ (u : Bool). Row t s (opens s link u) (Refused Refusal.Disconnected) (seen x) (free x.hold)) is_up
      (left_cases (λ k. Row t s (opens s link true) (Refused Refusal.Disconnected) (is k x.hold x.link p x.job) (free x.hold)) x.state gone
      (λ id. subst (λ (l : ℕ). Row t s (opens s link true) (Refused Refusal.Disconnected) (is (PeerDisconnecting id) x.hold l p x.job) (free x.hold)) (sym link-is) Steps.open_left_by_peer)
      (λ a. subst (λ (l : ℕ). Row t s (opens s link true) (Refused Refusal.Disconnected) (is (Disconnecting a) x.hold l p x.job) (free x.hold)) (sym link-is) Steps.open_left)))
      (λ i z. and_off _ z))
      (λ _. if_cases P _
      (λ f. steps-one (opens s link up) _ s _ h
      (subst (λ (u : Bool). Row t s (opens s link u) (Refused (Refusal.ConnectError (failure_of x.state))) (seen x) (free x.hold)) is_up
      (seen_as (λ k n l. Row t s (opens s link true) (Refused (Refusal.ConnectError (failure_of k))) (is k n l p x.job) (free n)) x (is-failed x.state f) refl link-is Steps.open_failed))
      (λ i z. and_off _ z))
      (λ _. if_cases P _ (λ e i l. stay (or_off (only_at s i (λ y. is_connected y.state) (not-true _ e))))
      (λ c. if_cases P _ (λ _ i l. stay refl)
      (λ z. steps-one (opens s link up) _ s _ h
      (subst (λ (u : Bool). Row t s (opens s link u) Opened (seen x) (is x.state 1 x.link p x.job)) is_up
      (seen_as (λ k n l. Row t s (opens s link true) Opened (is k n l p x.job) (is k 1 l p x.job)) x (connected-is x.state (not-false _ c)) (eqb-true _ _ (not-false _ z)) link-is Steps.open_held))
      (λ i u. or_off (and_off _ u))))))))))

  give_up_lem : (room s : ℕ) → S (gives s) (give_up t room s)
  unfolding give_up
  give_up_lem room s =
      let P = S (gives s) in
      let x = slot_at t s in
      let p = x.peer.credits in
      gate_refusals P t _ _ _ _ (λ r h i l. stay (and_off _ (refused_not_0 r)))
      (λ h. if_cases P _
      (λ e. steps-one (gives s) _ s _ h
      (given_up_cases (λ k. Row t s (gives s) Done (is k x.hold x.link p x.job) (free x.hold)) x.state (eqb x.hold 0) e (λ i. Steps.give_attempt) (λ c. Steps.give_failed)
      (λ z. subst (λ (n : ℕ). Row t s (gives s) Done (is Connected n x.link p x.job) (free n)) (sym (eqb-true _ _ z)) Steps.give_unheld))
      (λ i g. g))
      (λ _ i l. stay refl))

  -- ---- holds and disconnects

  inc_ref_lem : (s : ℕ) → S (holds s) (inc_ref t s)
  unfolding inc_ref
  inc_ref_lem s =
      let P = S (holds s) in
      gate_refusals P t _ _ _ _ (λ r h i l. stay (and_off _ (refused_not_0 r)))
      (λ h. if_cases P _ (λ _ i l. stay refl) (λ e. steps-one (holds s) _ s _ h (Steps.hold (leb-false _ _ e)) (λ i g. g)))

  -- one hold of several
  not_last : (b : Bool) (n : ℕ) → eqb n 0 ≡ false → (b && eqb n 1) ≡ false → (b && eqb (n - 1) 0) ≡ false
  not_last true n e f = let z = eqb-false n 0 e in let y = eqb-false n 1 f in ne_eqb (n - 1) 0 (λ u. y (omega arith))
  not_last false n e f = refl

  dec_ref_lem : (room s : ℕ) → S (releases s) (dec_ref t room s)
  unfolding dec_ref
  dec_ref_lem room s =
      let P = S (releases s) in
      let x = slot_at t s in
      let p = x.peer.credits in
      gate_refusals P t _ _ _ _ (λ r h i l. stay (and_off _ (refused_not_0 r)))
      (λ h. if_cases P _ (λ _ i l. stay refl)
      (λ e. if_cases P _
      (λ f. steps-one (releases s) _ s _ h
      (seen_as (λ k n l. Row t s (releases s) Done (is k n l p x.job) (is (Disconnecting false) 0 l p no_job)) x
      (connected-is x.state (and_left (is_connected x.state) _ f)) (eqb-true _ _ (and_right (is_connected x.state) _ f)) refl Steps.release_last) (λ i g. g))
      (λ f. steps-one (releases s) _ s _ h
      (seen_as (λ k n l. Row t s (releases s) Done (is k n l p x.job) (is k (x.hold - 1) l p x.job)) x refl (held _ e) refl (Steps.release (not_last (is_connected x.state) x.hold e f))) (λ i g. g))))

  -- a disconnect of ours, by whatever call
  leaves-steps : (r : Request) (s : ℕ) → s < t.n → ((h l p : ℕ) (j : OpenJob) → Row t s r Done (is Connected h l p j) (is (Disconnecting false) h l p no_job))
      → ((i : ℕ) → steps t i r Done (seen (slot_at t i)) ≡ (eqb i s && is_connected (slot_at t i).state)) → S r (disconnecting t s)
  unfolding disconnecting
  leaves-steps r s h p q =
      let x = slot_at t s in
      if_cases (S r) _
      (λ e. steps-one r _ s _ h
      (seen_as (λ k n l. Row t s r Done (is k n l x.peer.credits x.job) (is (Disconnecting false) n l x.peer.credits no_job)) x (connected-is x.state e) refl refl (p _ _ _ _)) (λ i g. q i ∙ and_off _ g))
      (λ e i l. stay (q i ∙ only_at s i (λ y. is_connected y.state) e))

  disconnect-steps : (room s : ℕ) → S (leaves s) (disconnect t room s)
  unfolding disconnect
  disconnect-steps room s =
      gate_refusals (S (leaves s)) t _ _ _ _ (λ r h i l. stay (and_off _ (refused_not_0 r))) (λ h. leaves-steps (leaves s) s h (λ _ _ _ _. Steps.leave) (λ i. refl))

  disconnect_by_cid_lem : (room cid : ℕ) → S (leaves_cid cid) (disconnect_by_cid t room cid)
  unfolding disconnect_by_cid
  disconnect_by_cid_lem room cid =
      let P = S (leaves_cid cid) in
      gate_refusals P t _ _ _ _ (λ r h i l. stay (and_off _ (refused_not_0 r)))
      (λ _. if_cases P _
      (λ e. subst (λ (c : ℕ). S (leaves_cid c) (disconnecting t (slot_of cid))) (cid_back t cid e)
      (leaves-steps (leaves_cid (cid_of (slot_of cid))) (slot_of cid) (cid_within t cid e) (λ _ _ _ _. Steps.leave_cid) (λ i. ap (λ (b : Bool). b && is_connected (slot_at t i).state) (cid_eqb i (slot_of cid)))))
      (λ e i l. stay (and_off _ (no_cid t cid e i l))))

  next-disconnect : (room signal : ℕ) → S announces (next_disconnect t room signal)
  unfolding next_disconnect
  next-disconnect room signal =
      let P = S announces in
      gate_refusals P t _ _ _ _ (λ r h i l. stay refl)
      (λ _. if_cases P _ (λ _ i l. stay refl)
      (λ e.
      let s = found due_slot t in
      let x = slot_at t s in
      let p = x.peer.credits in
      if_cases P _
      (λ f. steps-one announces _ s _ (leb-false _ _ e)
      (seen_as (λ k n l. Row t s announces (Due l (index s)) (is k n l p x.job) (free n)) x (is_peer_leaving x.state f) refl refl (Steps.announce_response refl)) (λ i g. g))
      (λ f. steps-one announces _ s _ (leb-false _ _ e)
      (seen_as (λ k n l. Row t s announces (Due l (index s)) (is k n l p x.job) (is (Disconnecting true) n l p x.job)) x (is_unannounced x.state (found-passes t fit due_slot e) f) refl refl (Steps.announce_request refl)) (λ i g. g))))

  -- ---- signals

  code_06 : {code : ℕ} (a b m c d : Bool) → code ≡ 0x06 → a ≡ false → by_code code a b m c d ≡ false
  unfolding by_code
  code_06 a b m c d e f = rw (e, f)

  code_07 : {code : ℕ} (a b m c d : Bool) → code ≡ 0x07 → b ≡ false → by_code code a b m c d ≡ false
  unfolding by_code
  code_07 a b m c d e f = rw (e, f)

  code_14 : {code : ℕ} (a b m c d : Bool) → code ≡ 0x14 → m ≡ false → by_code code a b m c d ≡ false
  unfolding by_code
  code_14 a b m c d e f = rw (e, f)

  code_15 : {code : ℕ} (a b m c d : Bool) → code ≡ 0x15 → c ≡ false → by_code code a b m c d ≡ false
  unfolding by_code
  code_15 a b m c d e f = rw (e, f)

  code_16 : {code : ℕ} (a b m c d : Bool) → code ≡ 0x16 → d ≡ false → by_code code a b m c d ≡ false
  unfolding by_code
  code_16 a b m c d e f = rw (e, f)

  -- any other code
  code_else : (code : ℕ) (a b m c d : Bool) → eqb code 0x06 ≡ false → eqb code 0x07 ≡ false → eqb code 0x14 ≡ false → eqb code 0x15 ≡ false → eqb code 0x16 ≡ false → by_code code a b m c d ≡ false
  unfolding by_code
  code_else code a b m c d e f j g h = rw (e, f, j, g, h)

  -- an answer that moves no slot, whatever the code
  code_any : (code : ℕ) {a b m c d : Bool} → a ≡ false → b ≡ false → m ≡ false → c ≡ false → d ≡ false → by_code code a b m c d ≡ false
  unfolding by_code
  code_any code e f j g h = rw (and_off_right (eqb code 0x06) e, and_off_right (eqb code 0x07) f, and_off_right (eqb code 0x14) j, and_off_right (eqb code 0x15) g, and_off_right (eqb code 0x16) h)

  -- the four tests that a connect request must pass
  refused_2 : (a b c d : Bool) → not a ≡ true → (a && (b && (c && not d))) ≡ false
  refused_2 a b c d e = and_off (b && (c && not d)) (not-true a e)

  refused_4 : (a b c d : Bool) → not b ≡ true → (a && (b && (c && not d))) ≡ false
  refused_4 a b c d e = and_off_right a (and_off (c && not d) (not-true b e))

  refused_11 : (a b c d : Bool) → c ≡ false → (a && (b && (c && not d))) ≡ false
  refused_11 a b c d e = and_off_right a (and_off_right b (and_off (not d) e))

  refused_10 : (a b c d : Bool) → d ≡ true → (a && (b && (c && not d))) ≡ false
  refused_10 a b c d e = and_off_right a (and_off_right b (and_off_right c (ap not e)))

  module _ (link : ℕ) (listening central : Bool) (pdu : List ℕ) where
    abbrev G : Request
    G = signals link listening central pdu

    abbrev code : ℕ
    code = get_or pdu 0 0

    abbrev id : ℕ
    id = get_or pdu 1 0

    -- refusals of the header check and of the body
    not-handled : (a : Answer) → is_number 0 a ≡ false → is_number 8 a ≡ false → is_number 17 a ≡ false → (is_number 9 a && is_good (headers_of pdu)) ≡ false
        → (i : ℕ) (x : Seen) → steps t i G a x ≡ false
    not-handled a e f g h i x = code_any (get_or pdu 0 0) (and_off _ e) (and_off _ e) (and_off _ e) (or_none (and_off _ f) (and_off _ (or_none e (or_none g h)))) (and_off _ (or_none e h))

    -- a slot stays
    rests : {a : Answer} → ((i : ℕ) (x : Seen) → steps t i G a x ≡ false) → (i : ℕ) → i < t.n → Step t i (plain G v w) a (seen (slot_at t i)) (seen (slot_at t i))
    rests off i l = stay (off i (seen (slot_at t i)))

    unmoved : ((a : Answer) (i : ℕ) (x : Seen) → steps t i G a x ≡ false) → {a : Answer} → (i : ℕ) → i < t.n → Step t i (plain G v w) a (seen (slot_at t i)) (seen (slot_at t i))
    unmoved off {a} = rests (off a)

    bad_body_lem : (i : ℕ) → i < t.n → Step t i (plain G v w) (Refused Refusal.Decode) (seen (slot_at t i)) (seen (slot_at t i))
    bad_body_lem = rests (not-handled (Refused Refusal.Decode) refl refl refl refl)

    on_disconnection_req_lem : code ≡ 0x06 → (b : Option DisconnectionReq) → disconnection_req (body_in pdu) ≡ b → S G (on_disconnection_req t link id b)
    unfolding on_disconnection_req
    on_disconnection_req_lem c None q = bad_body_lem
    on_disconnection_req_lem c (Some req) q =
        let s = slot_of req.dcid in
        let x = slot_at t s in
        let named : (i : ℕ) → names_as_dcid i (disconnection_req (body_in pdu)) ≡ eqb (cid_of i) req.dcid = λ i. ap (names_as_dcid i) q in
        if_cases (S G) _ (λ e i l. stay (code_06 _ _ _ _ _ c (and_off _ (named i ∙ no_cid t req.dcid (not-true _ e) i l))))
        (λ e.
        let on : is_cid t req.dcid ≡ true = not-false _ e in
        let back = cid_back t req.dcid on in
        let at : (i : ℕ) → names_as_dcid i (disconnection_req (body_in pdu)) ≡ eqb i s = λ i. named i ∙ ap (eqb (cid_of i)) (sym back) ∙ cid_eqb i s in
        if_cases (S G) _
        (λ f i l. stay (code_06 _ _ _ _ _ c (ap (λ (z : Bool). z && of_link link (slot_at t i)) (at i) ∙ only_at s i (of_link link) (not-true _ f))))
        (λ f.
        let its : of_link link x ≡ true = not-false _ f in
        steps-one G _ s _ (cid_within t req.dcid on)
        (seen_as (λ k h l. Row t s G Done (is k h l x.peer.credits x.job) (is (PeerDisconnecting id) h l x.peer.credits no_job)) x refl refl
        (eqb-true _ _ (and_right (not (is_disconnected x.state)) _ its)) (Steps.peer-leaves c q (sym back) (not-true _ (and_left (not (is_disconnected x.state)) _ its))))
        (λ i z. code_06 _ _ _ _ _ c (and_off _ (at i ∙ z)))))

    on_disconnection_res_lem : code ≡ 0x07 → (b : Option DisconnectionRes) → disconnection_res (body_in pdu) ≡ b → S G (on_disconnection_res t link id b)
    unfolding on_disconnection_res
    on_disconnection_res_lem c None q = bad_body_lem
    on_disconnection_res_lem c (Some res) q =
        let s = slot_of res.scid in
        let x = slot_at t s in
        let named : (i : ℕ) → names_as_scid i (disconnection_res (body_in pdu)) ≡ eqb (cid_of i) res.scid = λ i. ap (names_as_scid i) q in
        if_cases (S G) _ (λ e i l. stay (code_07 _ _ _ _ _ c (and_off _ (named i ∙ no_cid t res.scid (not-true _ e) i l))))
        (λ e.
        let on : is_cid t res.scid ≡ true = not-false _ e in
        let back = cid_back t res.scid on in
        let at : (i : ℕ) → names_as_scid i (disconnection_res (body_in pdu)) ≡ eqb i s = λ i. named i ∙ ap (eqb (cid_of i)) (sym back) ∙ cid_eqb i s in
        if_cases (S G) _
        (λ f i l. stay (code_07 _ _ _ _ _ c (ap (λ (z : Bool). z && (is_disconnecting (slot_at t i).state && eqb (slot_at t i).link link)) (at i) ∙ only_at s i (λ y. is_disconnecting y.state && eqb y.link link) (not-true _ f))))
        (λ f.
        let its : (is_disconnecting x.state && eqb x.link link) ≡ true = not-false _ f in
        steps-one G _ s _ (cid_within t res.scid on)
        (leaving_cases (λ k. Row t s G Done (is k x.hold x.link x.peer.credits x.job) (free x.hold)) x.state (and_left (is_disconnecting x.state) _ its)
        (λ a. subst (λ (l : ℕ). Row t s G Done (is (Disconnecting a) x.hold l x.peer.credits x.job) (free x.hold)) (sym (eqb-true _ _ (and_right (is_disconnecting x.state) _ its))) (Steps.peer_confirms c q (sym back))))
        (λ i z. code_07 _ _ _ _ _ c (and_off _ (at i ∙ z)))))

    on_conn_req_lem : code ≡ 0x14 → (b : Option LeCreditConnReq) → le_credit_conn_req (body_in pdu) ≡ b → S G (on_conn_req t link listening id b)
    unfolding on_conn_req
    on_conn_req_lem c None q = bad_body_lem
    on_conn_req_lem c (Some req) q =
        let s = found is_free t in
        let known : Bool = is_registered t req.spsm in
        let least = min req.mtu req.mps in
        let large : Bool = leb size_least least in
        let shared : Bool = ltb (found (uses_peer link req.scid) t) t.n in
        let admitted : Bool = known && (listening && (large && not shared)) in
        let is-admitted : admits t link listening (le_credit_conn_req (body_in pdu)) ≡ admitted = ap (admits t link listening) q in
        let off : (i : ℕ) → (admitted && eqb i s) ≡ false → steps t i G Done (seen (slot_at t i)) ≡ false = λ i z. code_14 _ _ _ _ _ c (ap (λ (b : Bool). b && eqb i s) is-admitted ∙ z) in
        let not-admitted : admitted ≡ false → (i : ℕ) → steps t i G Done (seen (slot_at t i)) ≡ false = λ z i. off i (and_off (eqb i s) z) in
        if_cases (S G) _ (λ e i l. stay (not-admitted (refused_2 known listening large shared e) i))
        (λ _. if_cases (S G) _ (λ e i l. stay (not-admitted (refused_4 known listening large shared e) i))
        (λ n. if_cases (S G) _ (λ e i l. stay (not-admitted (refused_11 known listening large shared (lt-leb size_least least (below_sizes (requester req) e))) i))
        (λ g. if_cases (S G) _ (λ e i l. stay (not-admitted (refused_10 known listening large shared e) i))
        (λ _. if_cases (S G) _ (λ e i l. stay (off i (and_off_right admitted (let z : t.n ≤ s = leb-true _ _ e in ne_eqb i s (λ u. omega arith)))))
        (λ e.
        let x = slot_at t s in
        let p : is_free x ≡ true = found-passes t fit is_free e in
        let y : Seen = is (PeerConnecting id) 0 link req.credits no_job in
        steps-one G _ s _ (leb-false _ _ e)
        (subst (λ (u : Bool). Row t s (signals link u central pdu) Done (seen x) y) (sym (not-false _ n))
        (seen_as (λ k h l. Row t s (signals link true central pdu) Done (is k h l x.peer.credits x.job) y) x
        (free-is x.state (and_left (is_disconnected x.state) _ p)) (eqb-true _ _ (and_right (is_disconnected x.state) _ p)) refl (Steps.peer_asks c q refl (let z = least_sizes (requester req) g in omega arith))))
        (λ i z. off i (and_off_right admitted z)))))))

    on_conn_res_lem : code ≡ 0x15 → (b : Option LeCreditConnRes) → le_credit_conn_res (body_in pdu) ≡ b → S G (on_conn_res t link id b)
    unfolding on_conn_res
    on_conn_res_lem c None q = bad_body_lem
    on_conn_res_lem c (Some res) q =
        let s = found (attempt_by link id) t in
        let x = slot_at t s in
        let p = x.peer.credits in
        if_cases (S G) _
        (λ e. all t fit (plain G v w) (Refused Refusal.NotFound) (attempt_of link)
        (λ i z f. row (seen_as (λ k h l. Row t i G (Refused Refusal.NotFound) (is k h l z.peer.credits z.job) (free h)) z
        (connecting_is z.state (and_left (is_connecting z.state) _ f)) refl (eqb-true _ _ (and_right (is_connecting z.state) _ f)) (Steps.unmatched c (leb-true _ _ e))))
        (λ i z f. stay (code_15 _ _ _ _ _ c (or_off f))))
        (λ e.
        let f : attempt_by link id x ≡ true = found-passes t fit (attempt_by link id) e in
        let g : attempt_of link x ≡ true = and_left (attempt_of link x) _ f in
        let k-is : x.state ≡ Connecting id = connecting_is x.state (and_left (is_connecting x.state) _ g) ∙ ap Connecting (eqb-true _ _ (and_right (attempt_of link x) _ f)) in
        let l-is : x.link ≡ link = eqb-true _ _ (and_right (is_connecting x.state) _ g) in
        if_cases (S G) _
        (λ z. steps-one G _ s _ (leb-false _ _ e)
        (seen_as (λ k h l. Row t s G (Refused (Refusal.ConnectError res.result)) (is k h l p x.job) (is (ConnectFailed res.result) h l p x.job)) x k-is refl l-is (Steps.peer_refuses c q refl (eqb-false _ _ (not-true _ z))))
        (λ i u. code_15 _ _ _ _ _ c u))
        (λ z.
        let good = eqb-true _ _ (not-false _ z) in
        if_cases (S G) _
        (λ b. steps-one G _ s _ (leb-false _ _ e)
        (seen_as (λ k h l. Row t s G (Refused Refusal.InvalidValue) (is k h l p x.job) (is (Disconnecting false) h l res.credits x.job)) x k-is refl l-is (Steps.peer_below c q refl good (below_sizes (responder res) b)))
        (λ i u. code_15 _ _ _ _ _ c (and_off_right (is_good (headers_of pdu)) u)))
        (λ b. steps-one G _ s _ (leb-false _ _ e)
        (seen_as (λ k h l. Row t s G Done (is k h l p x.job) (is Connected h l res.credits x.job)) x k-is refl l-is (Steps.peer_accepts c q refl good (let y = least_sizes (responder res) b in omega arith)))
        (λ i u. code_15 _ _ _ _ _ c u))))

    on_credits_lem : code ≡ 0x16 → (b : Option LeCreditFlowInd) → le_credit_flow_ind (body_in pdu) ≡ b → S G (on_credits t link id b)
    unfolding on_credits
    on_credits_lem c None q = bad_body_lem
    on_credits_lem c (Some ind) q =
        let s = found (connected_to link ind.cid) t in
        let x = slot_at t s in
        let p = x.peer.credits in
        if_cases (S G) _ (λ _ i l. stay (code_16 _ _ _ _ _ c refl))
        (λ e.
        let f : connected_to link ind.cid x ≡ true = found-passes t fit (connected_to link ind.cid) e in
        let k-is : x.state ≡ Connected = connected-is x.state (and_left (is_connected x.state) _ f) in
        let l-is : x.link ≡ link = eqb-true _ _ (and_left (eqb x.link link) _ (and_right (is_connected x.state) _ f)) in
        let to : (i : ℕ) → grants_to t i link (le_credit_flow_ind (body_in pdu)) ≡ eqb i s = λ i. ap (grants_to t i link) q in
        if_cases (S G) _
        (λ z. steps-one G _ s _ (leb-false _ _ e)
        (seen_as (λ k h l. Row t s G (Refused Refusal.InvalidValue) (is k h l p x.job) (is (Disconnecting false) h l p no_job)) x k-is refl l-is (Steps.peer_overflows c q refl (ltb-true _ _ z)))
        (λ i u. code_16 _ _ _ _ _ c (and_off_right (is_good (headers_of pdu)) (to i ∙ u))))
        (λ z. steps-one G _ s _ (leb-false _ _ e)
        (seen_as (λ k h l. Row t s G Done (is k h l p x.job) (is k h l (p + ind.credits) x.job)) x k-is refl l-is (Steps.peer_grants c q refl (ltb-false _ _ z)))
        (λ i u. code_16 _ _ _ _ _ c (to i ∙ u))))

    -- signals of the other codes move no slot
    module _ (off : (a : Answer) (i : ℕ) (x : Seen) → steps t i G a x ≡ false) where
      on_parameters_lem : (b : Option ConnParamUpdateReq) → S G (on_parameters t id b)
      unfolding on_parameters
      on_parameters_lem None = unmoved off
      on_parameters_lem (Some req) = if_cases (S G) _ (λ _. unmoved off) (λ _. unmoved off)

      on_reject_lem : (b : Option CommandRejectRes) → S G (on_reject t id b)
      unfolding on_reject
      on_reject_lem None = unmoved off
      on_reject_lem (Some res) = unmoved off

      on_parameter_response_lem : (b : Option ConnParamUpdateRes) → S G (on_parameter_response t id b)
      unfolding on_parameter_response
      on_parameter_response_lem None = unmoved off
      on_parameter_response_lem (Some res) = unmoved off

    -- what is known of a code that is n, other than those that move slots
    off_code : (n : ℕ) → eqb code n ≡ true → eqb n 0x06 ≡ false → eqb n 0x07 ≡ false → eqb n 0x14 ≡ false → eqb n 0x15 ≡ false → eqb n 0x16 ≡ false → (a : Answer) (i : ℕ) (x : Seen) → steps t i G a x ≡ false
    off_code n e f g m h j a i x = let c = eqb-true code n e in code_else code _ _ _ _ _ (rw c f) (rw c g) (rw c m) (rw c h) (rw c j)

    handled-steps : S G (handled t link listening central code id (body_in pdu))
    unfolding handled
    handled-steps =
        if_cases (S G) _ (λ e. on_reject_lem (off_code 0x01 e refl refl refl refl refl) _)
        (λ _. if_cases (S G) _ (λ e. on_disconnection_req_lem (eqb-true _ _ e) _ refl)
        (λ a. if_cases (S G) _ (λ e. on_disconnection_res_lem (eqb-true _ _ e) _ refl)
        (λ b. if_cases (S G) _
        (λ e. if_cases (S G) _ (λ _. on_parameters_lem (off_code 0x12 e refl refl refl refl refl) _) (λ _. unmoved (off_code 0x12 e refl refl refl refl refl)))
        (λ _. if_cases (S G) _ (λ e. on_parameter_response_lem (off_code 0x13 e refl refl refl refl refl) _)
        (λ _. if_cases (S G) _ (λ e. on_conn_req_lem (eqb-true _ _ e) _ refl)
        (λ m. if_cases (S G) _ (λ e. on_conn_res_lem (eqb-true _ _ e) _ refl)
        (λ c. if_cases (S G) _ (λ e. on_credits_lem (eqb-true _ _ e) _ refl) (λ d. rests (λ i x. code_else code _ _ _ _ _ a b m c d)))))))))

    checked-steps : (h : Result (Unit {0}) BadHeader) → headers_of pdu ≡ h → S G (checked t link listening central pdu h)
    unfolding checked
    checked-steps (Err Cut) e = bad_body_lem
    checked-steps (Err (Past n)) e = rests (not-handled (Refused Refusal.InvalidValue) refl refl refl (ap is_good e))
    checked-steps (Ok tt) e =
        if_cases (S G) _
        (λ z. let c = no_code pdu (eqb-true _ _ z) in rests (λ i x. code_else code _ _ _ _ _ (rw c) (rw c) (rw c) (rw c) (rw c)))
        (λ _. handled-steps)

    signalled-steps : (room signal : ℕ) → S G (signalled t room signal link listening central pdu)
    unfolding signalled
    signalled-steps room signal =
        gate_refusals (S G) t _ _ _ _
        (λ r h. rests (not-handled (Refused r) (refused_not_0 r) (ne_eqb (refusal_number r) 8 (λ e. omega arith)) (ne_eqb (refusal_number r) 17 (λ e. omega arith)) (and_off _ (ne_eqb (refusal_number r) 9 (λ e. omega arith)))))
        (λ _. checked-steps _ refl)

  -- ---- jobs: what is seen of the slot stays

  taken-steps : (s : ℕ) → s < t.n → (g : Option ℕ) → S (takes s) (taken t s (slot_at t s) g)
  unfolding taken
  taken-steps s h None = one t fit (plain (takes s) v w) _ s _ h (stay refl) (λ i e. stay refl)
  taken-steps s h (Some n) = one t fit (plain (takes s) v w) _ s _ h (stay refl) (λ i e. stay refl)

  receive-steps : (room signal s size : ℕ) → S (takes s) (receive t room signal s size)
  unfolding receive
  receive-steps room signal s size =
      let P = S (takes s) in
      gate_refusals P t _ _ _ _ (λ r h i l. stay refl) (λ h. if_cases P _ (λ _ i l. stay refl) (λ _. if_cases P _ (λ _ i l. stay refl) (λ _. if_cases P _ (λ _ i l. stay refl) (λ _. taken-steps s h _))))

  -- ---- jobs handed over in portions

  started-steps : (s len size : ℕ) → s < t.n → (slot_at t s).state ≡ Connected → is_open (slot_at t s).job ≡ false → (p : Result Framed Refusal)
      → plan_send len (slot_at t s).peer.mtu (slot_at t s).peer.mps (slot_at t s).peer.credits (frames_length len (slot_at t s).peer.mps) ≡ p
      → S (starts s len) (start_planned t s (slot_at t s) len size p)
  unfolding start_planned
  started-steps s len size h on shut (Err r) e =
      if_cases (S (starts s len)) (blocks r)
      (λ _. one t fit (plain (starts s len) v w) (Refused r) s _ h (stay (and_off _ (refused_not_0 r))) (λ i _. stay (and_off _ (refused_not_0 r))))
      (λ _ i u. stay (and_off _ (refused_not_0 r)))
  started-steps s len size h on shut (Ok framed) e =
      let x = slot_at t s in
      let a = plan_allowed len x.peer.mtu x.peer.mps x.peer.credits (frames_length len x.peer.mps) framed.n framed.octets e in
      let some : 1 ≤ frame_count len x.peer.mps = (count-holds len x.peer.mps (let w = a.wide in omega arith)).some in
      if_cases (S (starts s len)) _ (λ _ i u. stay refl)
      (λ _. steps-one (starts s len) _ s _ h
      (seen_as (λ k z u. Row t s (starts s len) (Frames u framed.n) (is k z u x.peer.credits x.job) (is k z u (x.peer.credits - framed.n) (begun len framed.n))) x on refl refl
      (Steps.begin shut (let f = a.frames in omega arith) (let f = a.frames in let c = a.paid in omega arith)))
      (λ i z. z))

  start-steps : (s len size : ℕ) → S (starts s len) (start_job t s len size)
  unfolding start_job
  start-steps s len size =
      let P = S (starts s len) in
      gate_refusals P t _ _ _ _ (λ r h i l. stay (and_off _ (refused_not_0 r)))
      (λ h. if_cases P _ (λ _ i l. stay refl)
      (λ e. if_cases P _ (λ _ i l. stay refl) (λ f. started-steps s len size h (connected-is (slot_at t s).state (not-false _ e)) f _ refl)))

  cancel_steps : (room s : ℕ) → S (cancels s) (cancel_job t room s)
  unfolding cancel_job
  cancel_steps room s =
      let P = S (cancels s) in
      let x = slot_at t s in
      let p = x.peer.credits in
      gate_refusals P t _ _ _ _ (λ r h i l. stay (and_off _ (refused_not_0 r)))
      (λ h. if_cases P _ (λ _ i l. stay refl)
      (λ e. if_cases P _ (λ _ i l. stay refl)
      (λ f.
      let on : x.state ≡ Connected = connected-is x.state (not-false _ e) in
      if_cases P _
      (λ z. steps-one (cancels s) _ s _ h
      (seen_as (λ k n l. Row t s (cancels s) Done (is k n l p x.job) (is k n l (p + x.job.aside) no_job)) x on refl refl (Steps.cancel_unsent (not-false _ f) (eqb-true _ _ z))) (λ i g. g))
      (λ z. steps-one (cancels s) _ s _ h
      (seen_as (λ k n l. Row t s (cancels s) Done (is k n l p x.job) (is (Disconnecting false) n l p no_job)) x on refl refl (Steps.cancel_sent (not-false _ f) (eqb-false _ _ z))) (λ i g. g)))))

  -- ---- calls that change no slot

  register_steps : (spsm : ℕ) → S (register spsm) (register_spsm t spsm)
  unfolding register_spsm
  register_steps spsm = let P = S (register spsm) in gate_refusals P t _ _ _ _ (λ r h i l. stay refl) (λ _. if_cases P _ (λ _ i l. stay refl) (λ _ i l. stay refl))

  attention-steps : S attends (attention t)
  unfolding attention
  attention-steps = gate_refusals (S attends) t _ _ _ _ (λ r h i l. stay refl) (λ _ i l. stay refl)

  query-steps : (of : Slot → ℕ) (s : ℕ) → S (asks of s) (query of t s)
  unfolding query
  query-steps of s = gate_refusals (S (asks of s)) t _ _ _ _ (λ r h i l. stay refl) (λ _ i l. stay refl)

  send-signal : (signal link : ℕ) (s : Signal) → S (sends_signal link s) (send_signal t signal link s)
  unfolding send_signal
  send-signal signal link s = gate_refusals (S (sends_signal link s)) t _ _ _ _ (λ r h i l. stay refl) (λ _ i l. stay refl)

  -- ---- all of them

  serve-steps : (r : Request) (room out job : ℕ) → S r (serve t r room out job)
  unfolding serve
  serve-steps (register spsm) room out job = register_steps spsm
  serve-steps (signals link listening central pdu) room out job = signalled-steps link listening central pdu room out
  serve-steps (pends link up) room out job = next-pending link up
  serve-steps (rejects_all link) room out job = reject_all room out link
  serve-steps (accepts s c) room out job = accept_pending_lem out s c
  serve-steps (rejects s result) room out job = reject-pending room out s result
  serve-steps (drops s) room out job = drop-pending room s
  serve-steps (creates link spsm c) room out job = create-steps out link spsm c
  serve-steps (opens s link up) room out job = opened-steps room s link up
  serve-steps (gives s) room out job = give_up_lem room s
  serve-steps (holds s) room out job = inc_ref_lem s
  serve-steps (releases s) room out job = dec_ref_lem room s
  serve-steps (leaves s) room out job = disconnect-steps room s
  serve-steps (leaves_cid cid) room out job = disconnect_by_cid_lem room cid
  serve-steps announces room out job = next-disconnect room out
  serve-steps (takes s) room out job = receive-steps room out s job
  serve-steps (starts s l) room out job = start-steps s l out
  serve-steps (cancels s) room out job = cancel_steps room s
  serve-steps attends room out job = attention-steps
  serve-steps (asks of s) room out job = query-steps of s
  serve-steps (sends_signal link s) room out job = send-signal out link s
  serve-steps (writes octets) room out job = λ i l. stay refl

reached_overruns : (d q want have : ℕ) → Overruns (reached d q want have)
unfolding reached
reached_overruns d q want have = if_cases Overruns _ (λ _. refl) (λ _. if_cases Overruns _ (λ _. tt) (λ _. if_cases Overruns _ (λ _. tt) (λ _. tt)))

step_overruns : (mtu mps d : ℕ) (a : Assembly) (q n said : ℕ) → Overruns (join_step mtu mps d a q n said)
unfolding join_step first_step
step_overruns mtu mps d a q n said =
    if_cases Overruns _ (λ _. refl)
    (λ _. if_cases Overruns _ (λ _. if_cases Overruns _ (λ _. refl) (λ _. if_cases Overruns _ (λ _. refl) (λ _. reached_overruns d q said (n - 2)))) (λ _. reached_overruns d q a.want (a.have + n)))

module _ (t : Table) (fit : Fit t) (link : ℕ) (payload : List ℕ) where
  module _ (s : ℕ) (h : s < t.n) (on : (slot_at t s).state ≡ Connected) (its : (slot_at t s).link ≡ link) where
    abbrev x : Slot
    x = slot_at t s

    -- the slot with one credit used, and counted; what is seen of it is the same
    abbrev used : Slot
    used = count_received (with_account (received x.account 1) x)

    abbrev C : Call
    C = frame link (cid_of s) payload

    joined-steps : (count : ℕ) (j : Result Joined Refusal) → Overruns j → Steps t C (joined t s used count j)
    unfolding joined
    joined-steps count (Err r) o =
        one t fit C (Refused r) s _ h
        (seen_as (λ k n l. Step t s C (Refused r) (is k n l x.peer.credits x.job) (is (Disconnecting false) n l x.peer.credits no_job)) x on refl its (overrun o))
        (λ i e. stay-frame (and_off_right (is_number 9 (Refused r) || is_number 19 (Refused r)) (cid_eqb i s ∙ e)))
    joined-steps count (Ok (Joined.Assembling a)) o = one t fit C Done s _ h (stay-frame refl) (λ i e. stay-frame refl)
    joined-steps count (Ok (Joined.Finished len)) o = one t fit C Done s _ h (stay-frame refl) (λ i e. stay-frame refl)
    joined-steps count (Ok Joined.Dropped) o = one t fit C (Refused Refusal.QueueFull) s _ h (stay-frame refl) (λ i e. stay-frame refl)

  dispatch-steps : (room cid : ℕ) (head : List ℕ) (count : ℕ) → Steps t (frame link cid payload) (dispatch t room link cid head count)
  unfolding dispatch
  dispatch-steps room cid head count =
      let P = Steps t (frame link cid payload) in
      let s = slot_of cid in
      let y = slot_at t s in
      gate_refusals P t _ _ _ _ (λ r h i l. stay-frame (and_off _ (or_none (ne_eqb (refusal_number r) 9 (λ e. omega arith)) (ne_eqb (refusal_number r) 19 (λ e. omega arith)))))
      (λ _. if_cases P _ (λ _ i l. stay-frame refl)
      (λ e. if_cases P _ (λ _ i l. stay-frame refl)
      (λ f. if_cases P _ (λ _ i l. stay-frame refl)
      (λ g. if_cases P _ (λ _. one t fit (frame link cid payload) (Refused Refusal.OutOfMemory) s _ (cid_within t cid (not-false _ e)) (stay-frame refl) (λ i _. stay-frame refl))
      (λ _.
      let j : Result Joined Refusal = join_step y.mtu y.mps t.d y.assembly y.queue.count (length head + count) (u16_at head 0) in
      subst (λ (c : ℕ). Steps t (frame link c payload) (joined t s (count_received (with_account (received y.account 1) y)) count j)) (cid_back t cid (not-false _ e))
      (joined-steps s (cid_within t cid (not-false _ e)) (connected-is y.state (not-false _ f)) (eqb-true _ _ (not-false _ g)) count j
      (step_overruns y.mtu y.mps t.d y.assembly y.queue.count (length head + count) (u16_at head 0))))))))

-- ---- a send, and link down

module _ (t : Table) (fit : Fit t) (s : ℕ) (sdu : List ℕ) (w : Window) where
  abbrev D : Call
  D = sends s sdu w

  planned-steps : (l out : ℕ) → s < t.n → (slot_at t s).state ≡ Connected → (p : Result Framed Refusal) → plan_send l (slot_at t s).peer.mtu (slot_at t s).peer.mps (slot_at t s).peer.credits out ≡ p
      → Steps t D (planned t s (slot_at t s) l p)
  unfolding planned
  planned-steps l out h on (Err r) e =
      if_cases (Steps t D) (blocks r)
      (λ _. one t fit D (Refused r) s _ h (stay-send (and_off _ (refused_not_0 r))) (λ i _. stay-send (and_off _ (refused_not_0 r))))
      (λ _ i u. stay-send (and_off _ (refused_not_0 r)))
  planned-steps l out h on (Ok framed) e =
      let x = slot_at t s in
      let a = plan_allowed l x.peer.mtu x.peer.mps x.peer.credits out framed.n framed.octets e in
      one t fit D (Frames x.link framed.n) s _ h
      (seen_as (λ k z u. Step t s D (Frames u framed.n) (is k z u x.peer.credits x.job) (is k z u (x.peer.credits - framed.n) x.job)) x on refl refl
      (Steps.send (let f = a.frames in let c = a.paid in omega arith)))
      (λ i z. stay-send z)

  send-steps : (l out : ℕ) → Steps t D (send t s l out)
  unfolding send
  send-steps l out =
      gate_refusals (Steps t D) t _ _ _ _ (λ r h i u. stay-send (and_off _ (refused_not_0 r)))
      (λ h. if_cases (Steps t D) _ (λ _ i u. stay-send refl)
      (λ e. if_cases (Steps t D) _ (λ _ i u. stay-send refl) (λ _. planned-steps l out h (connected-is (slot_at t s).state (not-false _ e)) _ refl)))

-- ---- a portion

fills_as : {j j' : OpenJob} {k : ℕ} {b c : Bool} → b ≡ c → Fills j k c j' → Fills j k b j'
fills_as {j} {j'} {k} e f = subst (λ (b : Bool). Fills j k b j') (sym e) f

filled-by : (mps : ℕ) (j : OpenJob) (count : ℕ) → Fills j (taking mps j count) (full_with mps j count) (filled_by mps j count)
filled-by mps j count =
    if_cases (λ (k : OpenJob). Fills j (taking mps j count) whole k) _
    (λ e. fills_as (not-true whole e) part)
    (λ e. fills_as (not-false whole e)
    (if_cases (λ (k : OpenJob). Fills j (taking mps j count) true k) _ (λ _. last) (λ f. full (eqb-false j.aside 1 (or_right ends (eqb j.aside 1) f)))))
  where
    whole : Bool
    whole = full_with mps j count

    ends : Bool
    ends = eqb (given_out j + frame_size mps j) (j.length + 2)

module _ (t : Table) (fit : Fit t) (s : ℕ) (octets : List ℕ) (w : Window) where
  abbrev E : Call
  E = portions s octets w

  portion-steps : (count size : ℕ) → Steps t E (give_portion t s count size)
  unfolding give_portion
  portion-steps count size =
      let x = slot_at t s in
      let mps = x.peer.mps in
      let k = taking mps x.job count in
      let whole = full_with mps x.job count in
      gate_refusals (Steps t E) t _ _ _ _ (λ r h i u. stay-portion (and_off _ (refused_not_0 r)))
      (λ h. if_cases (Steps t E) _ (λ _ i u. stay-portion refl)
      (λ e. if_cases (Steps t E) _ (λ _ i u. stay-portion refl)
      (λ f. if_cases (Steps t E) _ (λ _ i u. stay-portion refl)
      (λ _. if_cases (Steps t E) _ (λ _ i u. stay-portion refl)
      (λ _. one t fit E (Portion x.link k whole) s _ h
      (seen_as (λ c z u. Step t s E (Portion u k whole) (is c z u x.peer.credits x.job) (is c z u x.peer.credits (filled_by mps x.job count))) x
      (connected-is x.state (not-false _ e)) refl refl (portion (not-false _ f) (filled-by mps x.job count)))
      (λ i z. stay-portion z))))))

down_steps : (t : Table) → Fit t → (room link : ℕ) → Steps t (down link) (disconnected t room link)
unfolding disconnected
down_steps t fit room link =
    gate_refusals (Steps t (down link)) t _ _ _ _ (λ r h i u. stay_down (and_off _ (refused_not_0 r)))
    (λ _. all t fit (down link) Done (of_link link)
    (λ i x e. seen_as (λ k h l. Step t i (down link) Done (is k h l x.peer.credits x.job) (free h)) x refl refl (eqb-true _ _ (and_right (not (is_disconnected x.state)) _ e))
    (link_down (not-true _ (and_left (not (is_disconnected x.state)) _ e))))
    (λ i x e. stay_down e))

pub every_step : EveryStep
unfolding decide bare
every_step t fit (frame link cid payload) count room out job = dispatch-steps t fit link payload room cid _ count
every_step t fit (sends s sdu w) count room out job = send-steps t fit s sdu w count out
every_step t fit (portions s octets w) count room out job = portion-steps t fit s octets w count out
every_step t fit (down link) count room out job = down_steps t fit room link
every_step t fit (plain r v w) count room out job = serve-steps t fit v w r room out job
