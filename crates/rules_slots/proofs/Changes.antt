-- Which slots a call changes, proved: one lemma a call, from the forms in Kept.antt; a search finds the slot that the law names (States.antt).
use Rattle.std.specs.Prelude.{◌≡◌, refl, Bool, false, ℕ, ◌+◌, ◌-◌, ◌<◌, leb, get_or, None, Option, Some, Result, Ok, Err}
use Rattle.std.proofs.Common.{sym, arith}
use Rattle.std.proofs.Math.Path.{subst}
use Rattle.std.proofs.Math.Bool.{true}
use mathlib.Core.List.{List, []}
use borrow.Author.Tests.{eqb-true, not-false, leb-true}
use Rattle.lists.specs.Both.{and_left}
use Rattle.credit.specs.Account.{granted}
use Rattle.sar_join.specs.declared.Joined.{Joined}
use Rattle.sar_join.specs.declared.Joined.TheVariants as Joined
use Rattle.sar_cut.specs.declared.Framed.{Framed}
use Rattle.signal_headers.specs.Headers.{body_in}
use Rattle.signal_headers.specs.declared.BadHeader.{BadHeader}
use Rattle.signal_headers.specs.declared.BadHeader.TheVariants.{Cut, Past}
use Rattle.signal_bodies.specs.Bodies.{disconnection_req, disconnection_res}
use Rattle.signal_bodies.specs.LeCreditBodies.{le_credit_flow_ind}
use Rattle.signal_forms.specs.declared.Signal.{Signal}
use Rattle.channel.specs.Limits.{cid_base}
use Rattle.channel.specs.declared.Answer.TheVariants.{Done}
use Rattle.channel.specs.declared.L2capChannelConfig.{L2capChannelConfig}
use Rattle.channel.specs.declared.Slot.{Slot}
use Rattle.channel.specs.declared.Table.{Table}
use Rattle.definition.specs.Mem.{Fill}
use Rattle.definition.specs.Table.{slot_at, width, found, is_free, of_link, pending_of, unheld_pending_of, attempt_of, attempt_by, connected_to, due_slot, with_account, with_queue, is_cid, slot_of, spent}
use Rattle.definition.specs.Outcome.{Outcome, change}
use Rattle.definition.specs.Pending.{next_pending, reject_all_pending, accept_pending, reject_pending, not_code, reject_read, drop_pending}
use Rattle.definition.specs.Opening.{create, opened, give_up}
use Rattle.definition.specs.Closing.{inc_ref, dec_ref, disconnecting, disconnect, disconnect_by_cid, disconnected, next_disconnect}
use Rattle.definition.specs.Signals.{on_reject, on_disconnection_req, on_disconnection_res, on_parameters, on_parameter_response, on_conn_req, on_conn_res, on_credits, handled, checked, signalled}
use Rattle.definition.specs.Frames.{joined, dispatch, planned, send, shifted, moving_up, handing, taken, receive}
use Rattle.definition.specs.Portions.{start_planned, start_job, give_portion, cancel_job}
use Rattle.definition.specs.Asking.{register_spsm, attention, query, send_signal}
use Rattle.definition.specs.Calls.{Window, Call, frame, sends, portions, down, plain, Request, register, signals, pends, rejects_all, accepts, rejects, drops, creates, opens, gives, holds, releases, leaves, leaves_cid, announces, takes, starts, cancels, attends, asks, sends_signal, writes, bare, serve, decide}
use Rattle.definition.specs.Forms.{Fit}
use Rattle.definition.proofs.Tells.{cid_within}
use Rattle.rules_slots.specs.Words.{Free, Pending, Unheld, Attempt, OpenTo, Due, Lowest}
use Rattle.rules_slots.proofs.States.{free-says, free_said, used-says, of-says, pending-says, pending_said, unheld-says, unheld_said, attempt-says, matched_says, matched_said, open_says, open_to_says, open_to_said, leaving-says, due-says, due_said, found_lowest, found_none}
use Rattle.rules_slots.specs.Change.{BySignal, disconnects, frees, connects, matches, unmatched, credits, Asking, MayChange, Registers, registers, ChangeLaw}
use Rattle.rules_slots.specs.Kept.{Like, Keeps}
use Rattle.rules_slots.proofs.Kept.{as_is, with-id, still-keeps, change-keeps, filling-keeps, sweep-keeps, if_keeps, else_keeps, gate-keeps, gate-at, part-kept}
use Rattle.codes.specs.declared.LeCreditConnResultCode.{LeCreditConnResultCode}
use Rattle.signal_forms.specs.declared.CommandRejectRes.{CommandRejectRes}
use Rattle.signal_forms.specs.declared.ConnParamUpdateReq.{ConnParamUpdateReq}
use Rattle.signal_forms.specs.declared.ConnParamUpdateRes.{ConnParamUpdateRes}
use Rattle.signal_forms.specs.declared.DisconnectionReq.{DisconnectionReq}
use Rattle.signal_forms.specs.declared.DisconnectionRes.{DisconnectionRes}
use Rattle.signal_forms.specs.declared.LeCreditConnReq.{LeCreditConnReq}
use Rattle.signal_forms.specs.declared.LeCreditConnRes.{LeCreditConnRes}
use Rattle.signal_forms.specs.declared.LeCreditFlowInd.{LeCreditFlowInd}
use Rattle.codes.specs.declared.Refusal.{Refusal}

cid_names : (t : Table) (cid : ℕ) → is_cid t cid ≡ true → cid ≡ cid_base + slot_of cid
cid_names t cid e = omega (arith, leb-true cid_base cid (and_left (leb cid_base cid) _ e))

module _ (t : Table) (fit : Fit t) (Reg : Type 0) where
  -- an outcome that changes no slots in use but those
  abbrev Alone : (ℕ → Type 0) → Outcome → Type 0
  Alone P o = Keeps (λ i. (i < t.n) × P i) Reg t o

  -- ---- calls that name a slot

  module _ (s : ℕ) where
    accepts_alone : (signal : ℕ) (c : L2capChannelConfig) → Alone (Asking t (accepts s c)) (accept_pending t signal s c)
    unfolding accept_pending
    accepts_alone signal c =
        gate-at None (Some signal) None s λ h.
        else_keeps _ _ _ as_is λ _. else_keeps _ _ _ as_is λ _. else_keeps _ _ _ as_is λ _. else_keeps _ _ _ as_is λ _. change-keeps s _ _ as_is (h, refl)

    rejects_alone : (room signal : ℕ) (result : Option LeCreditConnResultCode) → Alone (Asking t (rejects s result)) (reject_read t room signal s result)
    unfolding reject_pending not_code
    rejects_alone room signal None = gate-keeps (Some room) (Some signal) None (Some s) (still-keeps as_is)
    rejects_alone room signal (Some result) =
        gate-at (Some room) (Some signal) None s λ h. else_keeps _ _ _ as_is λ _. else_keeps _ _ _ as_is λ _. change-keeps s _ _ as_is (h, refl)

    drops_alone : (room : ℕ) → Alone (Asking t (drops s)) (drop_pending t room s)
    unfolding drop_pending
    drops_alone room =
        gate-at (Some room) None None s λ h.
        else_keeps _ _ _ as_is λ _. else_keeps _ _ _ as_is λ _. if_keeps (λ _. change-keeps s _ _ as_is (h, refl)) λ _. change-keeps s _ _ as_is (h, refl)

    gives-alone : (room : ℕ) → Alone (Asking t (gives s)) (give_up t room s)
    unfolding give_up
    gives-alone room = gate-at (Some room) None None s λ h. if_keeps (λ _. change-keeps s _ _ as_is (h, refl)) λ _. still-keeps as_is

    holds-alone : Alone (Asking t (holds s)) (inc_ref t s)
    unfolding inc_ref
    holds-alone = gate-at None None None s λ h. else_keeps _ _ _ as_is λ _. change-keeps s _ _ as_is (h, refl)

    releases_alone : (room : ℕ) → Alone (Asking t (releases s)) (dec_ref t room s)
    unfolding dec_ref
    releases_alone room =
        gate-at (Some room) None None s λ h.
        else_keeps _ _ _ as_is λ _. if_keeps (λ _. change-keeps s _ _ as_is (h, refl)) λ _. change-keeps s _ _ as_is (h, refl)

    leaves-alone : (room : ℕ) → Alone (Asking t (leaves s)) (disconnect t room s)
    unfolding disconnect disconnecting
    leaves-alone room = gate-at (Some room) None None s λ h. if_keeps (λ _. change-keeps s _ _ as_is (h, refl)) λ _. still-keeps as_is

    planned-alone : (sdu : List ℕ) (w : Window) (x : Slot) (l : ℕ) → s < t.n → (p : Result Framed Refusal) → Alone (MayChange t (sends s sdu w)) (planned t s x l p)
    unfolding planned
    planned-alone sdu w x l h (Err r) = if_keeps (λ _. change-keeps s _ _ as_is (h, refl)) λ _. still-keeps as_is
    planned-alone sdu w x l h (Ok framed) = change-keeps s _ _ as_is (h, refl)

    sends_alone : (sdu : List ℕ) (w : Window) (l out : ℕ) → Alone (MayChange t (sends s sdu w)) (send t s l out)
    unfolding send
    sends_alone sdu w l out = gate-at None None None s λ h. else_keeps _ _ _ as_is λ _. else_keeps _ _ _ as_is λ _. planned-alone sdu w _ l h _

    started-alone : (x : Slot) (l size : ℕ) → s < t.n → (p : Result Framed Refusal) → Alone (Asking t (starts s l)) (start_planned t s x l size p)
    unfolding start_planned
    started-alone x l size h (Err r) = if_keeps (λ _. change-keeps s _ _ as_is (h, refl)) λ _. still-keeps as_is
    started-alone x l size h (Ok framed) = else_keeps _ _ _ as_is λ _. filling-keeps s _ (h, refl)

    starts_alone : (l size : ℕ) → Alone (Asking t (starts s l)) (start_job t s l size)
    unfolding start_job
    starts_alone l size = gate-at None None None s λ h. else_keeps _ _ _ as_is λ _. else_keeps _ _ _ as_is λ _. started-alone _ l size h _

    portions_alone : (octets : List ℕ) (w : Window) (count size : ℕ) → Alone (MayChange t (portions s octets w)) (give_portion t s count size)
    unfolding give_portion
    portions_alone octets w count size =
        gate-at None None None s λ h.
        else_keeps _ _ _ as_is λ _. else_keeps _ _ _ as_is λ _. else_keeps _ _ _ as_is λ _. else_keeps _ _ _ as_is λ _. filling-keeps s _ (h, refl)

    cancels_alone : (room : ℕ) → Alone (Asking t (cancels s)) (cancel_job t room s)
    unfolding cancel_job
    cancels_alone room =
        gate-at (Some room) None None s λ h.
        else_keeps _ _ _ as_is λ _. else_keeps _ _ _ as_is λ _. if_keeps (λ _. change-keeps s _ _ as_is (h, refl)) λ _. change-keeps s _ _ as_is (h, refl)

    -- (what a take writes to the job buffer changes nothing here)
    handing-alone : (u : Table) (x : Slot) → Like t u → s < t.n → (out : List Fill) → Alone (Asking t (takes s)) (handing u s x out)
    handing-alone u x q h out =
        let k : Alone (Asking t (takes s)) (change u s (with_queue (shifted x.queue) x) (moving_up u x) Done []) = change-keeps s _ _ q (h, refl) in
        record { slot = k.slot; moves = k.moves; n = k.n; d = k.d; m = k.m; spsms = k.spsms }

    taken-alone : (x : Slot) → s < t.n → (g : Option ℕ) → Alone (Asking t (takes s)) (taken t s x g)
    unfolding taken
    taken-alone x h None = handing-alone t x as_is h []
    taken-alone x h (Some n) = handing-alone (spent t) (with_account (granted x.account n) x) with-id h _

    takes_alone : (room signal size : ℕ) → Alone (Asking t (takes s)) (receive t room signal s size)
    unfolding receive
    takes_alone room signal size = gate-at (Some room) (Some signal) None s λ h.
        else_keeps _ _ _ as_is λ _. else_keeps _ _ _ as_is λ _. else_keeps _ _ _ as_is λ _. taken-alone _ h _

    opens_alone : (room l : ℕ) (up : Bool) → Alone (Asking t (opens s l up)) (opened t room s l up)
    unfolding opened
    opens_alone room l up =
        gate-at (Some room) None (Some l) s λ h. else_keeps _ _ _ as_is λ a. else_keeps _ _ _ as_is λ b.
        let q : (s < t.n) × Asking t (opens s l up) s = (h, (refl, record { state = used-says (slot_at t s) a; link = eqb-true _ l (not-false _ b) })) in
        if_keeps (λ _. change-keeps s _ _ as_is q) λ _. if_keeps (λ _. change-keeps s _ _ as_is q) λ _. if_keeps (λ _. change-keeps s _ _ as_is q) λ _.
        else_keeps _ _ _ as_is λ _. else_keeps _ _ _ as_is λ _. change-keeps s _ _ as_is q

  -- ---- calls that name a CID

  leaves_cid_alone : (room cid : ℕ) → Alone (Asking t (leaves_cid cid)) (disconnect_by_cid t room cid)
  unfolding disconnect_by_cid disconnecting
  leaves_cid_alone room cid =
      gate-keeps (Some room) None None None
      (if_keeps (λ e. if_keeps (λ _. change-keeps (slot_of cid) _ _ as_is (cid_within t cid e, cid_names t cid e)) λ _. still-keeps as_is) λ _. still-keeps as_is)

  joined-alone : (P : ℕ → Type 0) (s : ℕ) (x : Slot) (count : ℕ) → (s < t.n) × P s → (j : Result Joined Refusal) → Alone P (joined t s x count j)
  unfolding joined
  joined-alone P s x count q (Err r) = change-keeps s _ _ as_is q
  joined-alone P s x count q (Ok (Joined.Assembling a)) = change-keeps s _ _ as_is q
  joined-alone P s x count q (Ok (Joined.Finished len)) = change-keeps s _ _ as_is q
  joined-alone P s x count q (Ok Joined.Dropped) = change-keeps s _ _ as_is q

  frame-alone : (room l cid : ℕ) (payload head : List ℕ) (count : ℕ) → Alone (MayChange t (frame l cid payload)) (dispatch t room l cid head count)
  unfolding dispatch
  frame-alone room l cid payload head count =
      gate-keeps (Some room) None (Some l) None
      (else_keeps _ _ _ as_is λ a. else_keeps _ _ _ as_is λ b. else_keeps _ _ _ as_is λ d.
      let q : (slot_of cid < t.n) × MayChange t (frame l cid payload) (slot_of cid) =
      (cid_within t cid (not-false _ a), (cid_names t cid (not-false _ a), open_says l (slot_at t (slot_of cid)) (not-false _ b) (not-false _ d))) in
      if_keeps (λ _. change-keeps (slot_of cid) _ _ as_is q) λ _. joined-alone _ (slot_of cid) _ count q _)

  -- ---- calls that name a link, or search

  -- the slot that a search finds
  lowest_alone : {P : Slot → Type 0} (s : ℕ) → Lowest P t s → (s < t.n) × Lowest P t s
  lowest_alone s q = (q.within, q)

  pends_alone : (l : ℕ) (up : Bool) → Alone (Asking t (pends l up)) (next_pending t l up)
  unfolding next_pending
  pends_alone l up =
      gate-keeps None None (Some l) None
      (if_keeps (λ _. else_keeps _ _ _ as_is λ _. still-keeps as_is) λ a. else_keeps _ _ _ as_is λ _.
      change-keeps _ _ _ as_is (lowest_alone _ (found_lowest t fit (pending_of l) (Pending l) (pending-says l) (pending_said l) a)))

  rejects_all_alone : (room signal l : ℕ) → Alone (Asking t (rejects_all l)) (reject_all_pending t room signal l)
  unfolding reject_all_pending
  rejects_all_alone room signal l =
      gate-keeps (Some room) (Some signal) (Some l) None
      (else_keeps _ _ _ as_is λ a. change-keeps _ _ _ as_is (lowest_alone _ (found_lowest t fit (unheld_pending_of l) (Unheld l) (unheld-says l) (unheld_said l) a)))

  lowest_free_lem : leb t.n (found is_free t) ≡ false → Lowest Free t (found is_free t)
  lowest_free_lem a = found_lowest t fit is_free Free free-says free_said a

  creates_alone : (signal l spsm : ℕ) (c : L2capChannelConfig) → Alone (Asking t (creates l spsm c)) (create t signal l spsm c)
  unfolding create
  creates_alone signal l spsm c =
      gate-keeps None (Some signal) (Some l) None
      (else_keeps _ _ _ with-id λ _. else_keeps _ _ _ with-id λ _. else_keeps _ _ _ with-id λ a. change-keeps _ _ _ with-id (lowest_alone _ (lowest_free_lem a)))

  down_alone : (room l : ℕ) → Alone (MayChange t (down l)) (disconnected t room l)
  unfolding disconnected
  down_alone room l = gate-keeps (Some room) None (Some l) None (sweep-keeps (of_link l) (λ i h e. (h, of-says l (slot_at t i) e)))

  announces_alone : (room signal : ℕ) → Alone (Asking t announces) (next_disconnect t room signal)
  unfolding next_disconnect
  announces_alone room signal =
      gate-keeps (Some room) (Some signal) None None
      (else_keeps _ _ _ as_is λ a.
      let q = lowest_alone _ (found_lowest t fit due_slot Due due-says due_said a) in
      if_keeps (λ _. change-keeps _ _ _ as_is q) λ _. change-keeps _ _ _ with-id q)

  -- ---- signals

  module _ (l : ℕ) (pdu : List ℕ) where
    abbrev Signalled : Outcome → Type 0
    Signalled o = Alone (BySignal t l pdu) o

    abbrev code : ℕ
    code = get_or pdu 0 0

    abbrev id : ℕ
    id = get_or pdu 1 0

    reject-alone : (b : Option CommandRejectRes) → Signalled (on_reject t id b)
    unfolding on_reject
    reject-alone None = still-keeps as_is
    reject-alone (Some res) = still-keeps as_is

    disconnection_req-alone : code ≡ 0x06 → (b : Option DisconnectionReq) → disconnection_req (body_in pdu) ≡ b → Signalled (on_disconnection_req t l id b)
    unfolding on_disconnection_req
    disconnection_req-alone c None e = still-keeps as_is
    disconnection_req-alone c (Some req) e =
        else_keeps _ _ _ as_is λ a. else_keeps _ _ _ as_is λ b.
        let k : is_cid t req.dcid ≡ true = not-false _ a in
        change-keeps _ _ _ as_is (cid_within t req.dcid k, disconnects c e (cid_names t req.dcid k) (of-says l (slot_at t (slot_of req.dcid)) (not-false _ b)))

    disconnection_res-alone : code ≡ 0x07 → (b : Option DisconnectionRes) → disconnection_res (body_in pdu) ≡ b → Signalled (on_disconnection_res t l id b)
    unfolding on_disconnection_res
    disconnection_res-alone c None e = still-keeps as_is
    disconnection_res-alone c (Some res) e =
        else_keeps _ _ _ as_is λ a. else_keeps _ _ _ as_is λ b.
        let k : is_cid t res.scid ≡ true = not-false _ a in
        change-keeps _ _ _ as_is (cid_within t res.scid k, frees c e (cid_names t res.scid k) (leaving-says l (slot_at t (slot_of res.scid)) (not-false _ b)))

    parameters-alone : (b : Option ConnParamUpdateReq) → Signalled (on_parameters t id b)
    unfolding on_parameters
    parameters-alone None = still-keeps as_is
    parameters-alone (Some req) = else_keeps _ _ _ as_is λ _. still-keeps as_is

    parameter_response_alone : (b : Option ConnParamUpdateRes) → Signalled (on_parameter_response t id b)
    unfolding on_parameter_response
    parameter_response_alone None = still-keeps as_is
    parameter_response_alone (Some res) = still-keeps as_is

    conn_req_alone : code ≡ 0x14 → (listening : Bool) (b : Option LeCreditConnReq) → Signalled (on_conn_req t l listening id b)
    unfolding on_conn_req
    conn_req_alone c listening None = still-keeps as_is
    conn_req_alone c listening (Some req) =
        else_keeps _ _ _ as_is λ _. else_keeps _ _ _ as_is λ _. else_keeps _ _ _ as_is λ _. else_keeps _ _ _ as_is λ _. else_keeps _ _ _ as_is λ a.
        let q = lowest_free_lem a in
        change-keeps _ _ _ as_is (q.within, connects c q)

    conn_res_alone : code ≡ 0x15 → (b : Option LeCreditConnRes) → Signalled (on_conn_res t l id b)
    unfolding on_conn_res
    conn_res_alone c None = still-keeps as_is
    conn_res_alone c (Some res) =
        if_keeps
        (λ a. sweep-keeps (attempt_of l) (λ i h e. (h, unmatched c (found_none t fit (attempt_by l id) (Attempt l id) (matched_says l id) (matched_said l id) a) (attempt-says l (slot_at t i) e))))
        λ a.
        let q = found_lowest t fit (attempt_by l id) (Attempt l id) (matched_says l id) (matched_said l id) a in
        if_keeps (λ _. change-keeps _ _ _ as_is (q.within, matches c q)) λ _. if_keeps (λ _. change-keeps _ _ _ as_is (q.within, matches c q)) λ _. change-keeps _ _ _ as_is (q.within, matches c q)

    credits-alone : code ≡ 0x16 → (b : Option LeCreditFlowInd) → le_credit_flow_ind (body_in pdu) ≡ b → Signalled (on_credits t l id b)
    unfolding on_credits
    credits-alone c None e = still-keeps as_is
    credits-alone c (Some ind) e =
        else_keeps _ _ _ as_is λ a.
        let q = found_lowest t fit (connected_to l ind.cid) (OpenTo l ind.cid) (open_to_says l ind.cid) (open_to_said l ind.cid) a in
        if_keeps (λ _. change-keeps _ _ _ as_is (q.within, credits c e q)) λ _. change-keeps _ _ _ as_is (q.within, credits c e q)

    handled-alone : (listening central : Bool) → Signalled (handled t l listening central code id (body_in pdu))
    unfolding handled
    handled-alone listening central =
        if_keeps (λ _. reject-alone _) λ _. if_keeps (λ c. disconnection_req-alone (eqb-true code _ c) _ refl) λ _.
        if_keeps (λ c. disconnection_res-alone (eqb-true code _ c) _ refl) λ _.
        if_keeps (λ _. if_keeps (λ _. parameters-alone _) λ _. still-keeps as_is) λ _. if_keeps (λ _. parameter_response_alone _) λ _.
        if_keeps (λ c. conn_req_alone (eqb-true code _ c) listening _) λ _. if_keeps (λ c. conn_res_alone (eqb-true code _ c) _) λ _.
        if_keeps (λ c. credits-alone (eqb-true code _ c) _ refl) λ _. still-keeps as_is

    checked-alone : (listening central : Bool) (h : Result (Unit {0}) BadHeader) → Signalled (checked t l listening central pdu h)
    unfolding checked
    checked-alone listening central (Err Cut) = still-keeps as_is
    checked-alone listening central (Err (Past at)) = still-keeps as_is
    checked-alone listening central (Ok tt) = else_keeps _ _ _ as_is λ _. handled-alone listening central

    signals_alone : (room signal : ℕ) (listening central : Bool) → Signalled (signalled t room signal l listening central pdu)
    unfolding signalled
    signals_alone room signal listening central = gate-keeps (Some room) (Some signal) (Some l) None (checked-alone listening central _)

  -- ---- calls that change no slot

  attends_alone : Alone (Asking t attends) (attention t)
  unfolding attention
  attends_alone = gate-keeps None None None None (still-keeps as_is)

  asks_alone : (of : Slot → ℕ) (s : ℕ) → Alone (Asking t (asks of s)) (query of t s)
  unfolding query
  asks_alone of s = gate-keeps None None None (Some s) (still-keeps as_is)

  sends_signal_alone : (signal l : ℕ) (s : Signal) → Alone (Asking t (sends_signal l s)) (send_signal t signal l s)
  unfolding send_signal
  sends_signal_alone signal l s = gate-keeps None (Some signal) (Some l) None (still-keeps with-id)

-- registering changes the registered SPSMs, and no slot
register_alone : (t : Table) (Reg : Type 0) → Reg → (spsm : ℕ) → Keeps (λ i. (i < t.n) × Asking t (register spsm) i) Reg t (register_spsm t spsm)
unfolding register_spsm
register_alone t Reg r spsm =
    gate-keeps None None None None
    (else_keeps _ _ _ as_is λ _. record { slot = λ i _. refl; moves = λ i _. refl; n = refl; d = refl; m = refl; spsms = λ off. absurd (off r) })

-- ---- all calls

module _ (t : Table) (fit : Fit t) where
  asked-alone : (c : Call) (r : Request) → ((spsm : ℕ) → r ≡ register spsm → Registers c) → (room out job : ℕ) → Keeps (λ i. (i < t.n) × Asking t r i) (Registers c) t (serve t r room out job)
  unfolding serve
  asked-alone c (register spsm) reg room out job = register_alone t (Registers c) (reg spsm refl) spsm
  asked-alone c (signals l listening central pdu) reg room out job = signals_alone t fit (Registers c) l pdu room out listening central
  asked-alone c (pends l up) reg room out job = pends_alone t fit (Registers c) l up
  asked-alone c (rejects_all l) reg room out job = rejects_all_alone t fit (Registers c) room out l
  asked-alone c (accepts s f) reg room out job = accepts_alone t fit (Registers c) s out f
  asked-alone c (rejects s result) reg room out job = rejects_alone t fit (Registers c) s room out result
  asked-alone c (drops s) reg room out job = drops_alone t fit (Registers c) s room
  asked-alone c (creates l spsm f) reg room out job = creates_alone t fit (Registers c) out l spsm f
  asked-alone c (opens s l up) reg room out job = opens_alone t fit (Registers c) s room l up
  asked-alone c (gives s) reg room out job = gives-alone t fit (Registers c) s room
  asked-alone c (holds s) reg room out job = holds-alone t fit (Registers c) s
  asked-alone c (releases s) reg room out job = releases_alone t fit (Registers c) s room
  asked-alone c (leaves s) reg room out job = leaves-alone t fit (Registers c) s room
  asked-alone c (leaves_cid cid) reg room out job = leaves_cid_alone t fit (Registers c) room cid
  asked-alone c announces reg room out job = announces_alone t fit (Registers c) room out
  asked-alone c (takes s) reg room out job = takes_alone t fit (Registers c) s room out job
  asked-alone c (starts s l) reg room out job = starts_alone t fit (Registers c) s l out
  asked-alone c (cancels s) reg room out job = cancels_alone t fit (Registers c) s room
  asked-alone c attends reg room out job = attends_alone t fit (Registers c)
  asked-alone c (asks of s) reg room out job = asks_alone t fit (Registers c) of s
  asked-alone c (sends_signal l s) reg room out job = sends_signal_alone t fit (Registers c) out l s
  asked-alone c (writes octets) reg room out job = still-keeps as_is

  alone : (c : Call) (count room out job : ℕ) → Keeps (λ i. (i < t.n) × MayChange t c i) (Registers c) t (decide t (bare t c) count room out job)
  unfolding decide bare
  alone (frame l cid payload) count room out job = frame-alone t fit (Registers (frame l cid payload)) room l cid payload _ count
  alone (sends s sdu w) count room out job = sends_alone t fit (Registers (sends s sdu w)) s sdu w count out
  alone (portions s octets w) count room out job = portions_alone t fit (Registers (portions s octets w)) s octets w count out
  alone (down l) count room out job = down_alone t fit (Registers (down l)) room l
  alone (plain r v w) count room out job = asked-alone (plain r v w) r (λ spsm e. subst (λ (q : Request). Registers (plain q v w)) (sym e) registers) room out job

pub change_law : ChangeLaw
change_law t fit c count room out job =
    let k = alone t fit c count room out job in (
      (λ i off. record { slot = k.slot i off; part = λ jobs space. part-kept jobs (width t) i _ space (k.moves i off) }),
      record { n = k.n; d = k.d; m = k.m; spsms = k.spsms },
    )
