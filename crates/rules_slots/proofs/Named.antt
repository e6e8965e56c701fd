-- What a call that names a slot answers and does hangs on that slot alone, proved: one lemma a call. Two tables that agree in sizes and
-- identifier are one table with other slots and SPSMs (`beside`), so that only what reads the slot is rewritten.
use Rattle.std.specs.Prelude.{◌≡◌, Bool, true, false, List, ℕ, ◌≤◌, ◌<◌, eqb, length, get_or, set, Err, None, Ok, Option, Result, Some}
use Rattle.std.proofs.Math.Path.{refl}
use Rattle.std.proofs.Common.{sym, ap, subst, ◌∙◌, arith, get_or-set_same, get_or-set_other, eqb-true, leb-false}
use Rattle.std.proofs.lemmas.Bool.{eqb-false, not-false}
use Rattle.lists.specs.Choose.{choose}
use Rattle.sar_join.specs.declared.Joined.{Joined}
use Rattle.sar_join.specs.declared.Joined.TheVariants as Joined
use Rattle.sar_cut.specs.declared.Framed.{Framed}
use Rattle.channel.specs.declared.Answer.{Answer}
use Rattle.channel.specs.declared.L2capChannelConfig.{L2capChannelConfig}
use Rattle.channel.specs.declared.Slot.{Slot}
use Rattle.channel.specs.declared.Table.{Table}
use Rattle.definition.specs.Mem.{Fill, Move}
use Rattle.definition.specs.Table.{gap, slot_at, well_formed, slot_of, spent}
use Rattle.definition.specs.Outcome.{Outcome, still, change, filling, verdict, passed, gate}
use Rattle.definition.specs.Pending.{accept_pending, reject_pending, not_code, reject_read, drop_pending}
use Rattle.definition.specs.Opening.{opened, give_up}
use Rattle.definition.specs.Closing.{inc_ref, dec_ref, disconnecting, disconnect, disconnect_by_cid}
use Rattle.definition.specs.Frames.{joined, dispatch, planned, send, taken, receive}
use Rattle.definition.specs.Portions.{start_planned, start_job, give_portion, cancel_job}
use Rattle.definition.specs.Asking.{query}
use Rattle.definition.specs.Calls.{Call, frame, joining, jobs, bare, serve, decide}
use Rattle.definition.proofs.Forms.{pass_slot}
use Rattle.definition.proofs.Tells.{cid_within}
use Rattle.rules_slots.specs.Answer.{called, Alike, Names, accepting, rejecting, dropping, querying, giving, holding, releasing, leaving, leaving_cid, taking, asking, sending, starting, portioning, cancelling, framing, SlotLaw}
use Rattle.rules_slots.specs.Named.{Both, Pair, beside}
use Rattle.codes.specs.declared.LeCreditConnResultCode.{LeCreditConnResultCode}
use Rattle.codes.specs.declared.Refusal.{Refusal}

pub is-beside : {t u : Table} → Alike t u → u ≡ beside t u.slots u.spsms
is-beside {t} {u} q =
    ap (λ (n : ℕ). record { slots = u.slots; n = n; d = u.d; m = u.m; identifier = u.identifier; spsms = u.spsms }) q.n
    ∙ ap (λ (d : ℕ). record { slots = u.slots; n = t.n; d = d; m = u.m; identifier = u.identifier; spsms = u.spsms }) q.d
    ∙ ap (λ (m : ℕ). record { slots = u.slots; n = t.n; d = t.d; m = m; identifier = u.identifier; spsms = u.spsms }) q.m
    ∙ ap (λ (i : ℕ). record { slots = u.slots; n = t.n; d = t.d; m = t.m; identifier = i; spsms = u.spsms }) q.identifier

pub if_both : {R : ℕ → Slot → Slot → Type 0} {n : ℕ} {b : Bool} {x y x' y' : Outcome} → (b ≡ true → Both R n x x') → (b ≡ false → Both R n y y') → Both R n (choose b x y) (choose b x' y')
unfolding choose
if_both {b = true} f g = f refl
if_both {b = false} f g = g refl

module _ {R : ℕ → Slot → Slot → Type 0} {t : Table} {ys : List Slot} {qs : List ℕ} (on : Pair R t (beside t ys qs)) where
  abbrev u : Table
  u = beside t ys qs

  pub still_both : {a : Answer} {out : List Fill} → Both R t.n (still t a out) (still (beside t ys qs) a out)
  still_both = record { told = record { answer = refl; parts = refl; at = refl; out = refl; octets = refl; job = refl; identifier = refl }; slots = on.slots }

  pub still-id : {a : Answer} {out : List Fill} → Both R t.n (still (spent t) a out) (still (spent (beside t ys qs)) a out)
  still-id = record { told = record { answer = refl; parts = refl; at = refl; out = refl; octets = refl; job = refl; identifier = refl }; slots = on.slots }

  pub set_both : (s : ℕ) (y : Slot) → s < t.n → (i : ℕ) → i < t.n → R i (get_or (set t.slots s y) i gap) (get_or (set ys s y) i gap)
  set_both s y h i k = go (eqb i s) refl
    where
      go : (b : Bool) → eqb i s ≡ b → R i (get_or (set t.slots s y) i gap) (get_or (set ys s y) i gap)
      go true e =
          let q : i ≡ s = eqb-true i s e in
          rw (q, get_or-set_same t.slots s y gap (omega (arith, on.fit)), get_or-set_same ys s y gap (omega (arith, on.fits))) (on.same s y)
      go false e = rw (get_or-set_other t.slots s i y gap (eqb-false i s e), get_or-set_other ys s i y gap (eqb-false i s e)) (on.slots i k)

  pub change-both : (s : ℕ) (y : Slot) (ms : List Move) {a : Answer} {out : List Fill} → s < t.n → Both R t.n (change t s y ms a out) (change (beside t ys qs) s y ms a out)
  change-both s y ms h = record { told = record { answer = refl; parts = refl; at = refl; out = refl; octets = refl; job = refl; identifier = refl }; slots = set_both s y h }

  pub change-id : (s : ℕ) (y : Slot) (ms : List Move) {a : Answer} {out : List Fill} → s < t.n → Both R t.n (change (spent t) s y ms a out) (change (spent (beside t ys qs)) s y ms a out)
  change-id s y ms h = record { told = record { answer = refl; parts = refl; at = refl; out = refl; octets = refl; job = refl; identifier = refl }; slots = set_both s y h }

  filling-both : (s : ℕ) (y : Slot) {a : Answer} {at octets : ℕ} {out : List Fill} → s < t.n → Both R t.n (filling t s y a at out octets) (filling u s y a at out octets)
  filling-both s y h = record { told = record { answer = refl; parts = refl; at = refl; out = refl; octets = refl; job = refl; identifier = refl }; slots = set_both s y h }

  verdict-same : (room signal link slot : Option ℕ) → verdict u room signal link slot ≡ verdict t room signal link slot
  unfolding verdict
  verdict-same room signal link slot = rw on.formed refl

  passed-both : (v : Result (Unit {0}) Refusal) {o p : Outcome} → (v ≡ Ok tt → Both R t.n o p) → Both R t.n (passed t v o) (passed u v p)
  passed-both (Ok tt) f = f refl
  passed-both (Err r) f = still_both

  pub gate-both : (room signal link slot : Option ℕ) {o p : Outcome} → (verdict t room signal link slot ≡ Ok tt → Both R t.n o p)
      → Both R t.n (gate t room signal link slot o) (gate (beside t ys qs) room signal link slot p)
  gate-both room signal link slot {o} {p} f =
      subst (λ (v : Result (Unit {0}) Refusal). Both R t.n (gate t room signal link slot o) (passed u v p)) (sym (verdict-same room signal link slot)) (passed-both (verdict t room signal link slot) f)

  pub gate-at : (room signal link : Option ℕ) (s : ℕ) {o p : Outcome} → (s < t.n → Both R t.n o p) → Both R t.n (gate t room signal link (Some s) o) (gate (beside t ys qs) room signal link (Some s) p)
  gate-at room signal link s f = gate-both room signal link (Some s) (λ v. f (leb-false t.n s (pass_slot t room signal link s v)))

  -- ---- the calls

  module _ (s : ℕ) (e : get_or ys s gap ≡ slot_at t s) where
    holds-both : Both R t.n (inc_ref t s) (inc_ref u s)
    unfolding inc_ref
    holds-both = gate-at None None None s λ h. rw e (if_both (λ _. still_both) λ _. change-both s _ _ h)

    accepts_both : (signal : ℕ) (c : L2capChannelConfig) → Both R t.n (accept_pending t signal s c) (accept_pending u signal s c)
    unfolding accept_pending
    accepts_both signal c =
        gate-at None (Some signal) None s λ h.
        rw e (if_both (λ _. still_both) λ _. if_both (λ _. still_both) λ _. if_both (λ _. still_both) λ _. if_both (λ _. still_both) λ _. change-both s _ _ h)

    rejects_both : (room signal : ℕ) (result : Option LeCreditConnResultCode) → Both R t.n (reject_read t room signal s result) (reject_read u room signal s result)
    unfolding reject_pending not_code
    rejects_both room signal None = gate-at (Some room) (Some signal) None s λ _. still_both
    rejects_both room signal (Some result) =
        gate-at (Some room) (Some signal) None s λ h. rw e (if_both (λ _. still_both) λ _. if_both (λ _. still_both) λ _. change-both s _ _ h)

    drops_both : (room : ℕ) → Both R t.n (drop_pending t room s) (drop_pending u room s)
    unfolding drop_pending
    drops_both room =
        gate-at (Some room) None None s λ h.
        rw e (if_both (λ _. still_both) λ _. if_both (λ _. still_both) λ _. if_both (λ _. change-both s _ _ h) λ _. change-both s _ _ h)

    pub opens_both : (room l : ℕ) (up : Bool) → Both R t.n (opened t room s l up) (opened (beside t ys qs) room s l up)
    unfolding opened
    opens_both room l up =
        gate-at (Some room) None (Some l) s λ h.
        rw e (if_both (λ _. still_both) λ _. if_both (λ _. still_both) λ _. if_both (λ _. change-both s _ _ h) λ _. if_both (λ _. change-both s _ _ h) λ _.
        if_both (λ _. change-both s _ _ h) λ _. if_both (λ _. still_both) λ _. if_both (λ _. still_both) λ _. change-both s _ _ h)

    gives_both : (room : ℕ) → Both R t.n (give_up t room s) (give_up u room s)
    unfolding give_up
    gives_both room = gate-at (Some room) None None s λ h. rw e (if_both (λ _. change-both s _ _ h) λ _. still_both)

    releases_both : (room : ℕ) → Both R t.n (dec_ref t room s) (dec_ref u room s)
    unfolding dec_ref
    releases_both room = gate-at (Some room) None None s λ h. rw e (if_both (λ _. still_both) λ _. if_both (λ _. change-both s _ _ h) λ _. change-both s _ _ h)

    leaves-both : (room : ℕ) → Both R t.n (disconnect t room s) (disconnect u room s)
    unfolding disconnect disconnecting
    leaves-both room = gate-at (Some room) None None s λ h. rw e (if_both (λ _. change-both s _ _ h) λ _. still_both)

    leaves_cid_both : (room cid : ℕ) → slot_of cid ≡ s → Both R t.n (disconnect_by_cid t room cid) (disconnect_by_cid u room cid)
    unfolding disconnect_by_cid disconnecting
    leaves_cid_both room cid q =
        gate-both (Some room) None None None λ _.
        if_both (λ k. let h : s < t.n = rw (← q) (cid_within t cid k) in rw (q, e) (if_both (λ _. change-both s _ _ h) λ _. still_both)) λ _. still_both

    asks_both : (of : Slot → ℕ) → Both R t.n (query of t s) (query of u s)
    unfolding query
    asks_both of = gate-at None None None s λ _. rw e still_both

    planned-both : (x : Slot) (l : ℕ) → s < t.n → (p : Result Framed Refusal) → Both R t.n (planned t s x l p) (planned u s x l p)
    unfolding planned
    planned-both x l h (Err r) = if_both (λ _. change-both s _ _ h) λ _. still_both
    planned-both x l h (Ok framed) = change-both s _ _ h

    sends_both : (l out : ℕ) → Both R t.n (send t s l out) (send u s l out)
    unfolding send
    sends_both l out = gate-at None None None s λ h. rw e (if_both (λ _. still_both) λ _. if_both (λ _. still_both) λ _. planned-both (slot_at t s) l h _)

    started-both : (x : Slot) (l size : ℕ) → s < t.n → (p : Result Framed Refusal) → Both R t.n (start_planned t s x l size p) (start_planned u s x l size p)
    unfolding start_planned
    started-both x l size h (Err r) = if_both (λ _. change-both s _ _ h) λ _. still_both
    started-both x l size h (Ok framed) = if_both (λ _. still_both) λ _. filling-both s _ h

    starts_both : (l size : ℕ) → Both R t.n (start_job t s l size) (start_job u s l size)
    unfolding start_job
    starts_both l size = gate-at None None None s λ h. rw e (if_both (λ _. still_both) λ _. if_both (λ _. still_both) λ _. started-both (slot_at t s) l size h _)

    portions_both : (count size : ℕ) → Both R t.n (give_portion t s count size) (give_portion u s count size)
    unfolding give_portion
    portions_both count size =
        gate-at None None None s λ h.
        rw e (if_both (λ _. still_both) λ _. if_both (λ _. still_both) λ _. if_both (λ _. still_both) λ _. if_both (λ _. still_both) λ _. filling-both s _ h)

    cancels_both : (room : ℕ) → Both R t.n (cancel_job t room s) (cancel_job u room s)
    unfolding cancel_job
    cancels_both room =
        gate-at (Some room) None None s λ h.
        rw e (if_both (λ _. still_both) λ _. if_both (λ _. still_both) λ _. if_both (λ _. change-both s _ _ h) λ _. change-both s _ _ h)

    taken-both : (x : Slot) → s < t.n → (g : Option ℕ) → Both R t.n (taken t s x g) (taken u s x g)
    unfolding taken
    taken-both x h None = record { told = record { answer = refl; parts = refl; at = refl; out = refl; octets = refl; job = refl; identifier = refl }; slots = set_both s _ h }
    taken-both x h (Some n) = record { told = record { answer = refl; parts = refl; at = refl; out = refl; octets = refl; job = refl; identifier = refl }; slots = set_both s _ h }

    takes_both : (room signal size : ℕ) → Both R t.n (receive t room signal s size) (receive u room signal s size)
    unfolding receive
    takes_both room signal size =
        gate-at (Some room) (Some signal) None s λ h. rw e (if_both (λ _. still_both) λ _. if_both (λ _. still_both) λ _. if_both (λ _. still_both) λ _. taken-both (slot_at t s) h _)

    joined-both : (x : Slot) (count : ℕ) → s < t.n → (j : Result Joined Refusal) → Both R t.n (joined t s x count j) (joined u s x count j)
    unfolding joined
    joined-both x count h (Err r) = change-both s _ _ h
    joined-both x count h (Ok (Joined.Assembling a)) = change-both s _ _ h
    joined-both x count h (Ok (Joined.Finished len)) = change-both s _ _ h
    joined-both x count h (Ok Joined.Dropped) = change-both s _ _ h

    dispatch-both : (room l cid : ℕ) (head : List ℕ) (count : ℕ) → slot_of cid ≡ s → Both R t.n (dispatch t room l cid head count) (dispatch u room l cid head count)
    unfolding dispatch
    dispatch-both room l cid head count q =
        gate-both (Some room) None (Some l) None λ _.
        if_both (λ _. still_both) λ k.
        let h : s < t.n = rw (← q) (cid_within t cid (not-false _ k)) in
        rw (q, e) (if_both (λ _. still_both) λ _. if_both (λ _. still_both) λ _. if_both (λ _. change-both s _ _ h) λ _. joined-both _ count h _)

    -- an assembly is open in both, or in neither: the same octets are job octets
    joining-same : (cid : ℕ) → slot_of cid ≡ s → joining u cid ≡ joining t cid
    joining-same cid q = rw q (rw e refl)

    pub frame-both : (room l cid : ℕ) (payload : List ℕ) (out job : ℕ) → slot_of cid ≡ s → Both R t.n (called t (frame l cid payload) room out job) (called (beside t ys qs) (frame l cid payload) room out job)
    unfolding decide bare jobs
    frame-both room l cid payload out job q = rw (joining-same cid q) (dispatch-both room l cid _ _ q)

    named_both : (c : Call) → Names s c → (room out job : ℕ) → Both R t.n (called t c room out job) (called u c room out job)
    unfolding decide bare jobs serve
    named_both _ (accepting {c = c}) room out job = accepts_both out c
    named_both _ (rejecting {result = result}) room out job = rejects_both room out result
    named_both _ dropping room out job = drops_both room
    named_both _ (querying {l = l} {up = up}) room out job = opens_both room l up
    named_both _ giving room out job = gives_both room
    named_both _ holding room out job = holds-both
    named_both _ releasing room out job = releases_both room
    named_both _ leaving room out job = leaves-both room
    named_both _ (leaving_cid {cid = cid} q) room out job = leaves_cid_both room cid (omega arith)
    named_both _ taking room out job = takes_both room out job
    named_both _ (asking {of = of}) room out job = asks_both of
    named_both _ (sending {sdu = sdu}) room out job = sends_both (length sdu) out
    named_both _ (starting {l = l}) room out job = starts_both l out
    named_both _ (portioning {octets = octets}) room out job = portions_both (length octets) out
    named_both _ cancelling room out job = cancels_both room
    named_both _ (framing {l = l} {cid = cid} {payload = payload} q) room out job = frame-both room l cid payload out job (omega arith)

-- ---- the law: R says that slot s is equal

pub slot_law : SlotLaw
slot_law s t u fit fits q h e c names room out job =
    let w = is-beside q in
    let R : ℕ → Slot → Slot → Type 0 = λ i x y. i ≡ s → y ≡ x in
    let on : Pair R t (beside t u.slots u.spsms) = record {
      same = λ i x _. refl;
      fit = fit.fits;
      fits = subst (λ (n : ℕ). n ≤ length u.slots) q.n fits.fits;
      slots = λ i _ j. subst (λ (k : ℕ). slot_at u k ≡ slot_at t k) (sym j) e;
      formed = ap well_formed (sym w) ∙ q.formed;
    } in
    let b : Both R t.n (called t c room out job) (called u c room out job) =
    subst (λ (v : Table). Both R t.n (called t c room out job) (called v c room out job)) (sym w) (named_both on s e c names room out job) in
    (b.told, b.slots s h refl)
