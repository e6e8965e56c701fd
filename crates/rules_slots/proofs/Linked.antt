-- What a call that names a link answers and does hangs on that link's own slots and the free ones alone, proved: a test that such a slot alone
-- can pass is passed by the same slots in both tables (`same_test`), so every search finds the same slot (`found-same`), and that slot is
-- equal in both (`slot-found`). One lemma a call, from the forms in Named.antt.
use Rattle.std.specs.Prelude.{◌≡◌, refl, false, ◌&&◌, List, [], ◌∷◌, map, ℕ, zero, suc, ◌+◌, ◌≤◌, ◌<◌, leb, length, take, None, Option, Some, Result, Ok, Err}
use Rattle.std.proofs.Common.{sym, ap, ap₂, subst, ◌∙◌, not-suc-le-zero, le_of_suc-le-suc, arith}
use Rattle.std.proofs.Math.Bool.{Bool, true}
use Rattle.std.proofs.lemmas.Bool.{false≢true}
use Rattle.std.proofs.Math.Dec.{eqb}
use Rattle.std.proofs.Math.ListN.{get_or}
use borrow.Author.Tests.{eqb-true, not-false, leb-true, leb-false}
use Rattle.lists.specs.Choose.{choose, choose_false}
use Rattle.lists.specs.Each.{map_first}
use Rattle.lists.specs.Both.{and_left}
use Rattle.signal_headers.specs.declared.BadHeader.{BadHeader}
use Rattle.signal_headers.specs.declared.BadHeader.TheVariants.{Cut, Past}
use Rattle.signal_forms.specs.declared.Signal.{Signal}
use Rattle.channel.specs.Limits.{cid_base}
use Rattle.channel.specs.declared.Answer.{Answer}
use Rattle.channel.specs.declared.ChannelState.TheVariants.{Disconnected, Connected}
use Rattle.channel.specs.declared.L2capChannelConfig.{L2capChannelConfig}
use Rattle.channel.specs.declared.Slot.{Slot}
use Rattle.channel.specs.declared.Table.{Table}
use Rattle.definition.specs.Mem.{Move, wipe}
use Rattle.definition.specs.Table.{gap, freed, slot_at, found, well_formed, is_disconnected, is_connected, is_disconnecting, is_free, of_link, pending_of, unheld_pending_of, attempt_of, attempt_by, connected_to, uses_peer, is_cid, slot_of}
use Rattle.definition.specs.Outcome.{Outcome, sweep}
use Rattle.definition.specs.Pending.{next_pending, reject_all_pending}
use Rattle.definition.specs.Opening.{create, opened}
use Rattle.definition.specs.Closing.{disconnected}
use Rattle.definition.specs.Signals.{on_reject, on_disconnection_req, on_disconnection_res, on_parameters, on_parameter_response, on_conn_req, on_conn_res, on_credits, handled, checked, signalled}
use Rattle.definition.specs.Frames.{dispatch}
use Rattle.definition.specs.Asking.{send_signal}
use Rattle.definition.specs.Calls.{Window, Call, frame, sends, portions, down, plain, Request, register, signals, pends, rejects_all, accepts, rejects, drops, creates, opens, gives, holds, releases, leaves, leaves_cid, announces, takes, starts, cancels, attends, asks, sends_signal, writes, nobody, by, jobs, bare, serve, decide}
use Rattle.definition.specs.Apart.{asked_by, called_by}
use Rattle.definition.proofs.Forms.{found-passes, pass_slot}
use Rattle.definition.proofs.Tells.{cid_within, free-is, connected-is}
use Rattle.rules_slots.specs.Words.{Of}
use Rattle.rules_slots.proofs.Lists.{first-same}
use Rattle.rules_slots.proofs.States.{free-says, used-says, of-says, pending-says, unheld-says, attempt-says, matched_says, open_to_says, leaving-says, pending-of, attempt-of, open_of, leaving-of, uses_of}
use Rattle.rules_slots.specs.Answer.{called, SameTo, equal, others, BothIn, Exceptions, LinkLaw}
use Rattle.rules_slots.specs.Named.{beside, Both}
use Rattle.rules_slots.proofs.Named.{is-beside, if_both, still_both, still-id, change-both, change-id, gate-both, opens_both, frame-both}
use Rattle.rules_slots.proofs.Kept.{fails}
use Rattle.rules_slots.specs.Linked.{Own, See, To, has, link_in}
use Rattle.signal_forms.specs.declared.CommandRejectRes.{CommandRejectRes}
use Rattle.signal_forms.specs.declared.ConnParamUpdateReq.{ConnParamUpdateReq}
use Rattle.signal_forms.specs.declared.ConnParamUpdateRes.{ConnParamUpdateRes}
use Rattle.signal_forms.specs.declared.DisconnectionReq.{DisconnectionReq}
use Rattle.signal_forms.specs.declared.DisconnectionRes.{DisconnectionRes}
use Rattle.signal_forms.specs.declared.LeCreditConnReq.{LeCreditConnReq}
use Rattle.signal_forms.specs.declared.LeCreditConnRes.{LeCreditConnRes}
use Rattle.signal_forms.specs.declared.LeCreditFlowInd.{LeCreditFlowInd}

module _ (l : ℕ) where
  of_own : Own l (of_link l)
  of_own x a b = fails _ (of-says l x) a

  free_own : Own l is_free
  free_own x a b = fails _ (free-says x) b

  pending_own : Own l (pending_of l)
  pending_own x a b = fails _ (λ e. pending-of l x (pending-says l x e)) a

  unheld_own : Own l (unheld_pending_of l)
  unheld_own x a b = fails _ (λ e. pending-of l x (unheld-says l x e).pending) a

  attempt_own : (id : ℕ) → Own l (attempt_by l id)
  attempt_own id x a b = fails _ (λ e. attempt-of l id x (matched_says l id x e)) a

  attempts_own : Own l (attempt_of l)
  attempts_own x a b = fails _ (λ e. attempt-of l _ x (attempt-says l x e)) a

  open_to_own : (cid : ℕ) → Own l (connected_to l cid)
  open_to_own cid x a b = fails _ (λ e. open_of l x (open_to_says l cid x e).slot) a

  uses_own : (cid : ℕ) → Own l (uses_peer l cid)
  uses_own cid x a b = fails _ (uses_of l cid x) a

  leaving_own : Own l (λ x. is_disconnecting x.state && eqb x.link l)
  leaving_own x a b = fails _ (λ e. leaving-of l x (leaving-says l x e)) a

-- ---- two slots that are the same to link l

same_test : (l : ℕ) (p : Slot → Bool) → Own l p → {x y : Slot} → SameTo l x y → p y ≡ p x
same_test l p own equal = refl
same_test l p own {x} (others {y = y} a b c d) = own y c d ∙ sym (own x a b)

same-slot : (l : ℕ) (p : Slot → Bool) → Own l p → {x y : Slot} → SameTo l x y → p x ≡ true → y ≡ x
same-slot l p own equal e = refl
same-slot l p own {x} (others a b c d) e = absurd (false≢true (sym (own x a b) ∙ e))

-- a slot in use that is not link l's is another's
another : (l : ℕ) (x : Slot) → ¬ Of l x → is_disconnected x.state ≡ false → eqb x.link l ≡ false
another l x off e = fails _ (λ f. record { state = used-says x e; link = eqb-true x.link l f }) off

same_bool : (b c : Bool) → (b ≡ true → c ≡ true) → (c ≡ true → b ≡ true) → c ≡ b
same_bool true true f g = refl
same_bool true false f g = f refl
same_bool false true f g = sym (g refl)
same_bool false false f g = refl

both-disconnected : (x y : Slot) → BothIn Disconnected x y → is_disconnected y.state ≡ is_disconnected x.state
both-disconnected x y h = same_bool _ _ (λ e. ap is_disconnected (h.0 (free-is x.state e))) (λ e. ap is_disconnected (h.1 (free-is y.state e)))

both-connected : (x y : Slot) → BothIn Connected x y → is_connected y.state ≡ is_connected x.state
both-connected x y h = same_bool _ _ (λ e. ap is_connected (h.0 (connected-is x.state e))) (λ e. ap is_connected (h.1 (connected-is y.state e)))

connected-used : (x : Slot) → is_connected x.state ≡ true → is_disconnected x.state ≡ false
connected-used x e = ap is_disconnected (connected-is x.state e)

-- ---- a sweep

map_first-at : (n i : ℕ) (f : Slot → Slot) (xs : List Slot) → i < n → n ≤ length xs → get_or (map_first n f xs) i gap ≡ f (get_or xs i gap)
map_first-at zero i f xs h k = absurd (not-suc-le-zero h)
map_first-at (suc n) i f [] h k = absurd (not-suc-le-zero k)
map_first-at (suc n) zero f (x ∷ xs) h k = refl
map_first-at (suc n) (suc i) f (x ∷ xs) h k = map_first-at n i f xs (le_of_suc-le-suc h) (le_of_suc-le-suc k)

swept_parts : (n : ℕ) (p : Slot → Bool) (xs ys : List Slot) → n ≤ length xs → n ≤ length ys → ((i : ℕ) → i < n → p (get_or ys i gap) ≡ p (get_or xs i gap))
    → map (λ x. choose {A = List Move} (p x) (wipe ∷ []) []) (take n xs) ≡ map (λ x. choose {A = List Move} (p x) (wipe ∷ []) []) (take n ys)
swept_parts zero p xs ys h k e = refl
swept_parts (suc n) p [] ys h k e = absurd (not-suc-le-zero h)
swept_parts (suc n) p (x ∷ xs) [] h k e = absurd (not-suc-le-zero k)
swept_parts (suc n) p (x ∷ xs) (y ∷ ys) h k e =
    ap₂ (λ (b : Bool) (mss : List (List Move)). choose {A = List Move} b (wipe ∷ []) [] ∷ mss) (sym (e 0 (omega arith)))
    (swept_parts n p xs ys (le_of_suc-le-suc h) (le_of_suc-le-suc k) (λ i l. e (suc i) (omega arith)))

swept_same : (l : ℕ) (p : Slot → Bool) → Own l p → {x y : Slot} → SameTo l x y → SameTo l (choose (p x) (freed x) x) (choose (p y) (freed y) y)
swept_same l p own equal = equal
swept_same l p own {x} (others {y = y} a b c d) = rw (choose_false (p x) (freed x) x (own x a b), choose_false (p y) (freed y) y (own y c d)) (others a b c d)

module _ (l : ℕ) {t : Table} {ys : List Slot} (on : See l t ys) where
  abbrev u : Table
  u = beside t ys t.spsms

  abbrev Agree : Outcome → Outcome → Type 0
  Agree o p = Both (To l) t.n o p

  sweep-both : (p : Slot → Bool) → Own l p → (a : Answer) → Agree (sweep t p a) (sweep u p a)
  sweep-both p own a =
      let f : Slot → Slot = λ x. choose (p x) (freed x) x in
      record {
        told = record { answer = refl; parts = swept_parts t.n p t.slots ys on.fit on.fits (λ i h. same_test l p own (on.slots i h)); at = refl; out = refl; octets = refl; job = refl; identifier = refl };
        slots = λ i h. rw (map_first-at t.n i f t.slots h on.fit, map_first-at t.n i f ys h on.fits) (swept_same l p own (on.slots i h));
      }

  found-same : (p : Slot → Bool) → Own l p → found p u ≡ found p t
  found-same p own = first-same p gap t.n t.slots ys on.fit on.fits (λ i h. same_test l p own (on.slots i h))

  slot-found : (p : Slot → Bool) → Own l p → leb t.n (found p t) ≡ false → get_or ys (found p t) gap ≡ slot_at t (found p t)
  slot-found p own a = same-slot l p own (on.slots (found p t) (leb-false t.n (found p t) a)) (found-passes t (record { fits = on.fit }) p a)

  within : {s : ℕ} → leb t.n s ≡ false → s < t.n
  within {s} a = leb-false t.n s a

  pends_both : (up : Bool) → Agree (next_pending t l up) (next_pending u l up)
  unfolding next_pending
  pends_both up =
      gate-both on None None (Some l) None λ _.
      rw (found-same (pending_of l) (pending_own l))
      (if_both (λ _. if_both (λ _. still_both on) λ _. still_both on) λ a.
      rw (slot-found (pending_of l) (pending_own l) a) (if_both (λ _. still_both on) λ _. change-both on _ _ _ (within a)))

  rejects_all_both : (room signal : ℕ) → Agree (reject_all_pending t room signal l) (reject_all_pending u room signal l)
  unfolding reject_all_pending
  rejects_all_both room signal =
      gate-both on (Some room) (Some signal) (Some l) None λ _.
      rw (found-same (unheld_pending_of l) (unheld_own l))
      (if_both (λ _. still_both on) λ a. rw (slot-found (unheld_pending_of l) (unheld_own l) a) (change-both on _ _ _ (within a)))

  creates_both : (signal spsm : ℕ) (c : L2capChannelConfig) → Agree (create t signal l spsm c) (create u signal l spsm c)
  unfolding create
  creates_both signal spsm c =
      gate-both on None (Some signal) (Some l) None λ _.
      rw (found-same is_free (free_own l))
      (if_both (λ _. still-id on) λ _. if_both (λ _. still-id on) λ _. if_both (λ _. still-id on) λ a. change-id on _ _ _ (within a))

  down_both : (room : ℕ) → Agree (disconnected t room l) (disconnected u room l)
  unfolding disconnected
  down_both room = gate-both on (Some room) None (Some l) None λ _. sweep-both (of_link l) (of_own l) _

  sends_signal_both : (signal : ℕ) (s : Signal) → Agree (send_signal t signal l s) (send_signal u signal l s)
  unfolding send_signal
  sends_signal_both signal s = gate-both on None (Some signal) (Some l) None λ _. still-id on

  -- ---- the two exceptions

  opens_apart : (room s : ℕ) (up : Bool) → ¬ Of l (slot_at t s) → ¬ Of l (get_or ys s gap) → BothIn Disconnected (slot_at t s) (get_or ys s gap)
      → Agree (opened t room s l up) (opened u room s l up)
  unfolding opened
  opens_apart room s up a b both =
      gate-both on (Some room) None (Some l) (Some s) λ _.
      let q : is_disconnected (get_or ys s gap).state ≡ is_disconnected (slot_at t s).state = both-disconnected (slot_at t s) (get_or ys s gap) both in
      rw q (if_both (λ _. still_both on) λ k.
      rw (another l (slot_at t s) a k, another l (get_or ys s gap) b (q ∙ k)) (if_both (λ _. still_both on) λ z. absurd (false≢true (sym z))))

  -- the slot that the CID names, if it names one, is another's in both
  abbrev Apart : ℕ → Type 0
  Apart cid = is_cid t cid ≡ true → (¬ Of l (slot_at t (slot_of cid))) × (¬ Of l (get_or ys (slot_of cid) gap)) × BothIn Connected (slot_at t (slot_of cid)) (get_or ys (slot_of cid) gap)

  frame_apart : (room cid : ℕ) (head head' : List ℕ) (count count' : ℕ) → Apart cid → Agree (dispatch t room l cid head count) (dispatch u room l cid head' count')
  unfolding dispatch
  frame_apart room cid head head' count count' f =
      gate-both on (Some room) None (Some l) None λ _.
      if_both (λ _. still_both on) λ c.
      let x : Slot = slot_at t (slot_of cid) in
      let y : Slot = get_or ys (slot_of cid) gap in
      let h : (¬ Of l x) × (¬ Of l y) × BothIn Connected x y = f (not-false _ c) in
      let q : is_connected y.state ≡ is_connected x.state = both-connected x y h.2 in
      rw q (if_both (λ _. still_both on) λ k.
      rw (another l x h.0 (connected-used x (not-false _ k)), another l y h.1 (connected-used y (q ∙ not-false _ k))) (if_both (λ _. still_both on) λ z. absurd (false≢true (sym z))))

  -- ---- signals

  -- a slot that a CID names and a test of link l's slots passes is equal in both
  test_at : (p : Slot → Bool) → Own l p → (cid : ℕ) → is_cid t cid ≡ true → p (get_or ys (slot_of cid) gap) ≡ p (slot_at t (slot_of cid))
  test_at p own cid e = same_test l p own (on.slots (slot_of cid) (cid_within t cid e))

  slot-at : (p : Slot → Bool) → Own l p → (cid : ℕ) → is_cid t cid ≡ true → p (slot_at t (slot_of cid)) ≡ true → get_or ys (slot_of cid) gap ≡ slot_at t (slot_of cid)
  slot-at p own cid e = same-slot l p own (on.slots (slot_of cid) (cid_within t cid e))

  module _ (id : ℕ) where
    reject-both : (b : Option CommandRejectRes) → Agree (on_reject t id b) (on_reject u id b)
    unfolding on_reject
    reject-both None = still_both on
    reject-both (Some res) = still_both on

    disconnection_req-both : (b : Option DisconnectionReq) → Agree (on_disconnection_req t l id b) (on_disconnection_req u l id b)
    unfolding on_disconnection_req
    disconnection_req-both None = still_both on
    disconnection_req-both (Some req) =
        if_both (λ _. still_both on) λ a.
        let c : is_cid t req.dcid ≡ true = not-false _ a in
        rw (test_at (of_link l) (of_own l) req.dcid c)
        (if_both (λ _. still_both on) λ b. rw (slot-at (of_link l) (of_own l) req.dcid c (not-false _ b)) (change-both on _ _ _ (cid_within t req.dcid c)))

    disconnection_res-both : (b : Option DisconnectionRes) → Agree (on_disconnection_res t l id b) (on_disconnection_res u l id b)
    unfolding on_disconnection_res
    disconnection_res-both None = still_both on
    disconnection_res-both (Some res) =
        if_both (λ _. still_both on) λ a.
        let c : is_cid t res.scid ≡ true = not-false _ a in
        let p : Slot → Bool = λ x. is_disconnecting x.state && eqb x.link l in
        rw (test_at p (leaving_own l) res.scid c)
        (if_both (λ _. still_both on) λ b. rw (slot-at p (leaving_own l) res.scid c (not-false _ b)) (change-both on _ _ _ (cid_within t res.scid c)))

    parameters-both : (b : Option ConnParamUpdateReq) → Agree (on_parameters t id b) (on_parameters u id b)
    unfolding on_parameters
    parameters-both None = still_both on
    parameters-both (Some req) = if_both (λ _. still_both on) λ _. still_both on

    parameter_response_both : (b : Option ConnParamUpdateRes) → Agree (on_parameter_response t id b) (on_parameter_response u id b)
    unfolding on_parameter_response
    parameter_response_both None = still_both on
    parameter_response_both (Some res) = still_both on

    conn_req_both : (listening : Bool) (b : Option LeCreditConnReq) → Agree (on_conn_req t l listening id b) (on_conn_req u l listening id b)
    unfolding on_conn_req
    conn_req_both listening None = still_both on
    conn_req_both listening (Some req) =
        rw (found-same is_free (free_own l), found-same (uses_peer l req.scid) (uses_own l req.scid))
        (if_both (λ _. still_both on) λ _. if_both (λ _. still_both on) λ _. if_both (λ _. still_both on) λ _. if_both (λ _. still_both on) λ _. if_both (λ _. still_both on) λ a. change-both on _ _ _ (within a))

    conn_res_both : (b : Option LeCreditConnRes) → Agree (on_conn_res t l id b) (on_conn_res u l id b)
    unfolding on_conn_res
    conn_res_both None = still_both on
    conn_res_both (Some res) =
        rw (found-same (attempt_by l id) (attempt_own l id))
        (if_both (λ _. sweep-both (attempt_of l) (attempts_own l) _) λ a.
        rw (slot-found (attempt_by l id) (attempt_own l id) a) (if_both (λ _. change-both on _ _ _ (within a)) λ _. if_both (λ _. change-both on _ _ _ (within a)) λ _. change-both on _ _ _ (within a)))

    credits-both : (b : Option LeCreditFlowInd) → Agree (on_credits t l id b) (on_credits u l id b)
    unfolding on_credits
    credits-both None = still_both on
    credits-both (Some ind) =
        rw (found-same (connected_to l ind.cid) (open_to_own l ind.cid))
        (if_both (λ _. still_both on) λ a.
        rw (slot-found (connected_to l ind.cid) (open_to_own l ind.cid) a) (if_both (λ _. change-both on _ _ _ (within a)) λ _. change-both on _ _ _ (within a)))

    handled-both : (listening central : Bool) (code : ℕ) (body : List ℕ) → Agree (handled t l listening central code id body) (handled u l listening central code id body)
    unfolding handled
    handled-both listening central code body =
        if_both (λ _. reject-both _) λ _. if_both (λ _. disconnection_req-both _) λ _. if_both (λ _. disconnection_res-both _) λ _.
        if_both (λ _. if_both (λ _. parameters-both _) λ _. still_both on) λ _. if_both (λ _. parameter_response_both _) λ _.
        if_both (λ _. conn_req_both listening _) λ _. if_both (λ _. conn_res_both _) λ _. if_both (λ _. credits-both _) λ _. still_both on

  checked-both : (listening central : Bool) (pdu : List ℕ) (h : Result (Unit {0}) BadHeader) → Agree (checked t l listening central pdu h) (checked u l listening central pdu h)
  unfolding checked
  checked-both listening central pdu (Err Cut) = still_both on
  checked-both listening central pdu (Err (Past id)) = still_both on
  checked-both listening central pdu (Ok tt) = if_both (λ _. still_both on) λ _. handled-both _ listening central _ _

  signals_both : (room signal : ℕ) (listening central : Bool) (pdu : List ℕ) → Agree (signalled t room signal l listening central pdu) (signalled u room signal l listening central pdu)
  unfolding signalled
  signals_both room signal listening central pdu = gate-both on (Some room) (Some signal) (Some l) None λ _. checked-both listening central pdu _

  -- ---- a slot that is named: no slot, equal, or another's

  opens_none : (room s : ℕ) (up : Bool) → leb t.n s ≡ true → Agree (opened t room s l up) (opened u room s l up)
  unfolding opened
  opens_none room s up e = gate-both on (Some room) None (Some l) (Some s) λ v. absurd (false≢true (sym (pass_slot t (Some room) None (Some l) s v) ∙ e))

  opens_slot : (room s : ℕ) (up : Bool) {x y : Slot} → slot_at t s ≡ x → get_or ys s gap ≡ y → BothIn Disconnected (slot_at t s) (get_or ys s gap) → SameTo l x y
      → Agree (opened t room s l up) (opened u room s l up)
  opens_slot room s up e f both equal = opens_both on s (f ∙ sym e) room l up
  opens_slot room s up e f both (others a b c d) = opens_apart room s up (subst (λ (z : Slot). ¬ Of l z) (sym e) a) (subst (λ (z : Slot). ¬ Of l z) (sym f) c) both

  opens_seen : (room s : ℕ) (up : Bool) → (s < t.n → BothIn Disconnected (slot_at t s) (get_or ys s gap)) → Agree (opened t room s l up) (opened u room s l up)
  opens_seen room s up both = go (leb t.n s) refl
    where
      go : (b : Bool) → leb t.n s ≡ b → Agree (opened t room s l up) (opened u room s l up)
      go true e = opens_none room s up e
      go false e = let h : s < t.n = leb-false t.n s e in opens_slot room s up refl refl (both h) (on.slots s h)

  abbrev Framed : (cid : ℕ) → List ℕ → (room out job : ℕ) → Type 0
  Framed cid payload room out job = Agree (called t (frame l cid payload) room out job) (called u (frame l cid payload) room out job)

  frame_others : (cid : ℕ) (payload : List ℕ) (room out job : ℕ) → Apart cid → Framed cid payload room out job
  unfolding decide bare jobs
  frame_others cid payload room out job f = frame_apart room cid _ _ _ _ f

  frame-slot : (cid : ℕ) (payload : List ℕ) (room out job : ℕ) {x y : Slot} → slot_at t (slot_of cid) ≡ x → get_or ys (slot_of cid) gap ≡ y
      → BothIn Connected (slot_at t (slot_of cid)) (get_or ys (slot_of cid) gap) → SameTo l x y → Framed cid payload room out job
  frame-slot cid payload room out job e f both equal = frame-both on (slot_of cid) (f ∙ sym e) room l cid payload out job refl
  frame-slot cid payload room out job e f both (others a b c d) =
      frame_others cid payload room out job (λ _. (subst (λ (z : Slot). ¬ Of l z) (sym e) a, subst (λ (z : Slot). ¬ Of l z) (sym f) c, both))

  frame-seen : (cid : ℕ) (payload : List ℕ) (room out job : ℕ) → ((i : ℕ) → i < t.n → cid ≡ cid_base + i → BothIn Connected (slot_at t i) (get_or ys i gap)) → Framed cid payload room out job
  frame-seen cid payload room out job both = go (is_cid t cid) refl
    where
      go : (b : Bool) → is_cid t cid ≡ b → Framed cid payload room out job
      go true e =
          let h : slot_of cid < t.n = cid_within t cid e in
          frame-slot cid payload room out job refl refl (both (slot_of cid) h (omega (arith, leb-true cid_base cid (and_left (leb cid_base cid) _ e)))) (on.slots (slot_of cid) h)
      go false e = frame_others cid payload room out job (λ f. absurd (false≢true (sym e ∙ f)))

nobodys : {A : Type 0} {l : ℕ} → nobody ≡ by l → A
nobodys e = absurd (false≢true (ap has e))

module _ (l : ℕ) {t : Table} {ys : List Slot} (on : See l t ys) where
  -- the link that the call names is l
  its : {k : ℕ} → by k ≡ by l → See k t ys
  its e = subst (λ (k : ℕ). See k t ys) (sym (ap link_in e)) on

  back : {k : ℕ} {o p : Outcome} → by k ≡ by l → Both (To k) t.n o p → Both (To l) t.n o p
  back {k} {o} {p} e b = subst (λ (j : ℕ). Both (To j) t.n o p) (ap link_in e) b

  asked-both : (r : Request) (v w : Window) → asked_by r ≡ by l → Exceptions (plain r v w) t (beside t ys t.spsms) → (room out job : ℕ)
      → Both (To l) t.n (serve t r room out job) (serve (beside t ys t.spsms) r room out job)
  unfolding serve
  asked-both (register spsm) v w e x room out job = nobodys e
  asked-both (signals k listening central pdu) v w e x room out job = back e (signals_both k (its e) room out listening central pdu)
  asked-both (pends k up) v w e x room out job = back e (pends_both k (its e) up)
  asked-both (rejects_all k) v w e x room out job = back e (rejects_all_both k (its e) room out)
  asked-both (accepts s c) v w e x room out job = nobodys e
  asked-both (rejects s result) v w e x room out job = nobodys e
  asked-both (drops s) v w e x room out job = nobodys e
  asked-both (creates k spsm c) v w e x room out job = back e (creates_both k (its e) out spsm c)
  asked-both (opens s k up) v w e x room out job = back e (opens_seen k (its e) room s up (x.queried refl))
  asked-both (gives s) v w e x room out job = nobodys e
  asked-both (holds s) v w e x room out job = nobodys e
  asked-both (releases s) v w e x room out job = nobodys e
  asked-both (leaves s) v w e x room out job = nobodys e
  asked-both (leaves_cid cid) v w e x room out job = nobodys e
  asked-both announces v w e x room out job = nobodys e
  asked-both (takes s) v w e x room out job = nobodys e
  asked-both (starts s k) v w e x room out job = nobodys e
  asked-both (cancels s) v w e x room out job = nobodys e
  asked-both attends v w e x room out job = nobodys e
  asked-both (asks of s) v w e x room out job = nobodys e
  asked-both (sends_signal k s) v w e x room out job = back e (sends_signal_both k (its e) out s)
  asked-both (writes octets) v w e x room out job = nobodys e

  called-both : (c : Call) → called_by c ≡ by l → Exceptions c t (beside t ys t.spsms) → (room out job : ℕ)
      → Both (To l) t.n (called t c room out job) (called (beside t ys t.spsms) c room out job)
  unfolding decide bare jobs
  called-both (frame k cid payload) e x room out job = back e (frame-seen k (its e) cid payload room out job (x.framed refl))
  called-both (sends s sdu w) e x room out job = nobodys e
  called-both (portions s octets w) e x room out job = nobodys e
  called-both (down k) e x room out job = back e (down_both k (its e) room)
  called-both (plain r v w) e x room out job = asked-both r v w e x room out job

pub link_law : LinkLaw
link_law l t u fit fits seen c e x room out job =
    let w : u ≡ beside t u.slots t.spsms = is-beside seen.sizes ∙ ap (beside t u.slots) seen.spsms in
    let on : See l t u.slots = record {
      same = λ _ _. equal;
      fit = fit.fits;
      fits = subst (λ (n : ℕ). n ≤ length u.slots) seen.sizes.n fits.fits;
      slots = seen.slots;
      formed = ap well_formed (sym w) ∙ seen.sizes.formed;
    } in
    let y : Exceptions c t (beside t u.slots t.spsms) = subst (λ (v : Table). Exceptions c t v) w x in
    let b : Both (To l) t.n (called t c room out job) (called u c room out job) =
    subst (λ (v : Table). Both (To l) t.n (called t c room out job) (called v c room out job)) (sym w) (called-both l on c e y room out job) in
    (b.told, b.slots)
