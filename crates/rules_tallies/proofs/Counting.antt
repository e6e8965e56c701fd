-- The calls that add: a send and a start, by their plan; a frame, by its credit. What each adds is told by its answer, and of no other slot anything changes.
use Rattle.std.specs.Prelude.{◌≡◌, Bool, true, false, ◌&&◌, List, [], ℕ, zero, suc, ◌≤◌, ◌<◌, eqb, ltb, leb, get_or, set, Result, Ok, Err}
use Rattle.std.proofs.Math.Path.{refl}
use Rattle.std.proofs.Common.{sym, ap, ap₂, ◌∙◌, subst, arith, get_or-set_same, get_or-set_other}
use Rattle.std.proofs.Math.Bool.{not}
use Rattle.std.proofs.lemmas.Bool.{false≢true}
use borrow.Author.Tests.{eqb-true, eqb-false, eq-eqb, ne_eqb, lt-ltb, le-leb, leb-true, not-true, not-false}
use Rattle.lists.specs.Bits.{bit}
use Rattle.lists.specs.Both.{and_left, and_both}
use Rattle.lists.specs.Choose.{choose_true, choose_false, if_cases}
use Rattle.codes.specs.Codes.{refusal_number}
use Rattle.codes.specs.declared.Refusal.{Refusal}
use Rattle.codes.specs.declared.Refusal.TheVariants.{NoRoom, InvalidChannelId, NotFound, OutOfMemory, ChannelClosed, QueueFull, JobOpen}
use Rattle.credit.specs.Account.{received}
use Rattle.sar_join.specs.declared.Joined.{Joined}
use Rattle.sar_join.specs.declared.Joined.TheVariants as Joined
use Rattle.sar_cut.specs.declared.Framed.{Framed}
use Rattle.sar_cut.specs.Cutting.{frame_count, frames_length, plan_send}
use Rattle.sar_cut.proofs.CutLaws.{count-holds, plan_allowed}
use Rattle.channel.specs.Limits.{cid_base}
use Rattle.channel.specs.declared.Answer.{Answer}
use Rattle.channel.specs.declared.Answer.TheVariants.{Done, Refused, Frames}
use Rattle.channel.specs.declared.ChannelState.TheVariants.{Disconnecting}
use Rattle.channel.specs.declared.Slot.{Slot}
use Rattle.channel.specs.declared.Table.{Table}
use Rattle.channel.specs.declared.Tallies.{Tallies}
use Rattle.definition.specs.Table.{gap, slot_at, left, cid_of, is_cid, slot_of, is_connected, with_account, no_tallies, no_tally, counted, count_sent, count_received, count_blocked_send, count_blocked_receive, blocks}
use Rattle.definition.specs.Numbers.{answer_number}
use Rattle.definition.proofs.Numbers.{refused_not_0}
use Rattle.definition.specs.Outcome.{Outcome, change, refuse}
use Rattle.definition.specs.Frames.{joined, dispatch, unsent, planned, send}
use Rattle.definition.specs.Portions.{start_planned, start_job}
use Rattle.definition.specs.Forms.{Fit}
use Rattle.definition.proofs.Tells.{cid_within}
use Rattle.rules.proofs.Forms.{gate_refusals}
use Rattle.rules_tallies.specs.Words.{frames_of}
use Rattle.rules_tallies.specs.Statement.{blocked_by, comes_first, has_credit, uses_credit, of_send, of_frame, resets, plus, plus_all, Tallied}
use Rattle.rules_tallies.proofs.Kept.{same-stays, left-resets}

-- ---- one slot

-- it stays in its state, and this is added
counts : {x y : Slot} {a : Tallies} → y.state ≡ x.state → plus_all x.tallies a ≡ y.tallies → Tallied x y a
counts {x} e f = record { is = sym f ∙ sym (choose_false _ _ _ (ap (resets x.state) e ∙ same-stays x.state)) }

-- our side leaves it: whatever was added is gone
left-tallied : {x : Slot} {a : Tallies} (y : Slot) → is_connected x.state ≡ true → Tallied x (left (Disconnecting false) y) a
left-tallied {x} y e = record { is = choose_true true no_tallies y.tallies refl ∙ sym (choose_true _ _ _ (left-resets x.state e)) }

off : (b : Bool) {c : Bool} → c ≡ false → (b && c) ≡ false
off true e = e
off false e = refl

-- a credit is left, or none
no_credit : (x : Slot) → x.account.credits ≡ 0 → has_credit x ≡ false
no_credit x e = rw e refl

some_credit : (x : Slot) → (x.account.credits ≡ 0 → ⊥) → has_credit x ≡ true
some_credit x f = lt-ltb 0 x.account.credits (omega arith)

-- some frames more
plus_some : (tally n : ℕ) → 1 ≤ n → plus tally n ≡ counted tally n
plus_some tally zero h = absurd (omega arith)
plus_some tally (suc n) h = refl

module _ (t : Table) (fit : Fit t) where
  -- nothing is added where nothing changes
  still-tallied : (i : ℕ) {a : Tallies} → a ≡ no_tallies → Tallied (slot_at t i) (slot_at t i) a
  still-tallied i e = subst (λ (b : Tallies). Tallied (slot_at t i) (slot_at t i) b) (sym e) (counts refl refl)

  -- one slot changes, and only it is added to
  one : (s : ℕ) (y : Slot) (A : ℕ → Tallies) → s < t.n → Tallied (slot_at t s) y (A s) → ((i : ℕ) → eqb i s ≡ false → A i ≡ no_tallies)
      → (i : ℕ) → i < t.n → Tallied (slot_at t i) (get_or (set t.slots s y) i gap) (A i)
  one s y A h p others i l = by (eqb i s) refl
    where
      by : (b : Bool) → eqb i s ≡ b → Tallied (slot_at t i) (get_or (set t.slots s y) i gap) (A i)
      by true e = rw (eqb-true i s e, get_or-set_same t.slots s y gap (omega (arith, fit.fits))) p
      by false e = rw (get_or-set_other t.slots s i y gap (eqb-false i s e)) (still-tallied i (others i e))

  -- ---- a send and a start, on slot s

  module _ (s : ℕ) where
    abbrev pub Sends : Outcome → Type 0
    Sends o = (i : ℕ) → i < t.n → Tallied (slot_at t i) (slot_at o.table i) (of_send (eqb i s) o.answer)

    abbrev x : Slot
    x = slot_at t s

    -- of another slot, nothing
    others_none : (a : Answer) (i : ℕ) → eqb i s ≡ false → of_send (eqb i s) a ≡ no_tallies
    others_none a i e = choose_false _ _ _ e

    -- a refusal but 14 adds nothing
    refused_none : (its : Bool) (r : Refusal) → eqb (refusal_number r) 14 ≡ false → of_send its (Refused r) ≡ no_tallies
    refused_none its r e =
        if_cases (λ (a : Tallies). a ≡ no_tallies) its (λ _. rw e refl) (λ _. refl)

    refused_sends : (r : Refusal) → eqb (refusal_number r) 14 ≡ false → Sends (refuse t r)
    refused_sends r e i l = still-tallied i (refused_none (eqb i s) r e)

    -- 14 adds 1 to the blocked sends
    blocked_add : (r : Refusal) → blocks r ≡ true → plus_all x.tallies (of_send (eqb s s) (Refused r)) ≡ (count_blocked_send x).tallies
    blocked_add r b =
        let one : plus_all x.tallies (record { sends = record { frames = frames_of (Refused r); blocked = blocked_by 14 (Refused r) }; receives = no_tally }) ≡ (count_blocked_send x).tallies = rw b refl in
        ap (plus_all x.tallies) (choose_true _ _ _ (eq-eqb s s refl)) ∙ one

    unsent_sends : s < t.n → (r : Refusal) → Sends (unsent t s x r)
    unsent_sends h r =
        if_cases Sends (blocks r)
        (λ b. one s _ (λ i. of_send (eqb i s) (Refused r)) h
        (counts refl (blocked_add r b))
        (others_none (Refused r)))
        (λ b. refused_sends r b)

    -- n frames add n
    frames_add : (n link : ℕ) → 1 ≤ n → plus_all x.tallies (of_send (eqb s s) (Frames link n)) ≡ (count_sent n x).tallies
    frames_add n link h =
        ap (plus_all x.tallies) (choose_true _ _ _ (eq-eqb s s refl))
        ∙ ap (λ (k : ℕ). record { sends = record { frames = k; blocked = x.tallies.sends.blocked }; receives = x.tallies.receives }) (plus_some x.tallies.sends.frames n h)

    -- a plan has frames
    planned_some : (l out n octets : ℕ) → plan_send l x.peer.mtu x.peer.mps x.peer.credits out ≡ Ok (record { n = n; octets = octets }) → 1 ≤ n
    planned_some l out n octets e =
        let a = plan_allowed l x.peer.mtu x.peer.mps x.peer.credits out n octets e in
        let some : 1 ≤ frame_count l x.peer.mps = (count-holds l x.peer.mps (let w = a.wide in omega arith)).some in
        let f = a.frames in
        omega arith

    planned_sends : (l out : ℕ) → s < t.n → (p : Result Framed Refusal) → plan_send l x.peer.mtu x.peer.mps x.peer.credits out ≡ p → Sends (planned t s x l p)
    unfolding planned
    planned_sends l out h (Err r) e = unsent_sends h r
    planned_sends l out h (Ok framed) e =
        one s _ (λ i. of_send (eqb i s) (Frames x.link framed.n)) h (counts refl (frames_add framed.n x.link (planned_some l out framed.n framed.octets e))) (others_none (Frames x.link framed.n))

    pub send_sends : (l out : ℕ) → Sends (send t s l out)
    unfolding send
    send_sends l out =
        gate_refusals Sends t _ _ _ _ (λ r h. refused_sends r (ne_eqb (refusal_number r) 14 (λ e. omega arith)))
        (λ h. if_cases Sends _ (λ _. refused_sends ChannelClosed refl) (λ _. if_cases Sends _ (λ _. refused_sends JobOpen refl) (λ _. planned_sends l out h _ refl)))

    started_sends : (l size : ℕ) → s < t.n → (p : Result Framed Refusal) → plan_send l x.peer.mtu x.peer.mps x.peer.credits (frames_length l x.peer.mps) ≡ p → Sends (start_planned t s x l size p)
    unfolding start_planned
    started_sends l size h (Err r) e = unsent_sends h r
    started_sends l size h (Ok framed) e =
        if_cases Sends _ (λ _. refused_sends NoRoom refl)
        (λ _. one s _ (λ i. of_send (eqb i s) (Frames x.link framed.n)) h (counts refl (frames_add framed.n x.link (planned_some l _ framed.n framed.octets e))) (others_none (Frames x.link framed.n)))

    pub start_sends : (l size : ℕ) → Sends (start_job t s l size)
    unfolding start_job
    start_sends l size =
        gate_refusals Sends t _ _ _ _ (λ r h. refused_sends r (ne_eqb (refusal_number r) 14 (λ e. omega arith)))
        (λ h. if_cases Sends _ (λ _. refused_sends ChannelClosed refl) (λ _. if_cases Sends _ (λ _. refused_sends JobOpen refl) (λ _. started_sends l size h _ refl)))

  -- ---- a frame on a link, to a CID

  module _ (link cid : ℕ) where
    abbrev pub Comes : Outcome → Type 0
    Comes o = (i : ℕ) → i < t.n → Tallied (slot_at t i) (slot_at o.table i) (of_frame (eqb cid (cid_of i)) link o.answer (slot_at t i))

    abbrev s : ℕ
    s = slot_of cid

    abbrev z : Slot
    z = slot_at t s

    -- the slot of that CID
    named : (i : ℕ) → eqb cid (cid_of i) ≡ true → i ≡ s
    named i e = let f = eqb-true cid (cid_of i) e in omega arith

    named_cid : (i : ℕ) → i < t.n → eqb cid (cid_of i) ≡ true → is_cid t cid ≡ true
    named_cid i l e = let f = eqb-true cid (cid_of i) e in and_both (leb cid_base cid) _ (le-leb cid_base cid (omega arith)) (lt-ltb s t.n (omega arith))

    -- it uses no credit, and is not refused by 10
    none_comes : (a : Answer) (i : ℕ) → (eqb cid (cid_of i) ≡ true → uses_credit link a (slot_at t i) ≡ false) → eqb (answer_number a) 10 ≡ false → of_frame (eqb cid (cid_of i)) link a (slot_at t i) ≡ no_tallies
    none_comes a i f e =
        if_cases (λ (y : Tallies). y ≡ no_tallies) (eqb cid (cid_of i))
        (λ its. rw (f its, e) refl) (λ _. refl)

    others_come : (a : Answer) → is_cid t cid ≡ true → (i : ℕ) → eqb i s ≡ false → of_frame (eqb cid (cid_of i)) link a (slot_at t i) ≡ no_tallies
    others_come a on i e = choose_false _ _ _ (ne_eqb cid (cid_of i) (λ f. eqb-false i s e (omega arith)))

    still_comes : (a : Answer) → ((i : ℕ) → i < t.n → eqb cid (cid_of i) ≡ true → uses_credit link a (slot_at t i) ≡ false) → eqb (answer_number a) 10 ≡ false
        → (i : ℕ) → i < t.n → Tallied (slot_at t i) (slot_at t i) (of_frame (eqb cid (cid_of i)) link a (slot_at t i))
    still_comes a f e i l = still-tallied i (none_comes a i (f i l) e)

    -- one of the refusals that come first
    first-none : (r : Refusal) → refusal_number r ≤ 6 → (y : Slot) → uses_credit link (Refused r) y ≡ false
    first-none r h y =
        let q = eqb-false (refusal_number r) 0 (refused_not_0 r) in
        let f : comes_first (Refused r) ≡ true = and_both (ltb 0 (refusal_number r)) _ (lt-ltb 0 (refusal_number r) (omega arith)) (le-leb (refusal_number r) _ (omega arith)) in
        off (is_connected y.state) (off (eqb y.link link) (off (has_credit y) (ap not f)))

    -- the slot whose credit is used: 1 more
    module _ (on : is_cid t cid ≡ true) (opened : is_connected z.state ≡ true) (mine : eqb z.link link ≡ true) where
      its_own : eqb cid (cid_of s) ≡ true
      its_own = let f = leb-true cid_base cid (and_left (leb cid_base cid) _ on) in eq-eqb cid (cid_of s) (omega arith)

      used_comes : has_credit z ≡ true → (a : Answer) → comes_first a ≡ false → eqb (answer_number a) 10 ≡ false
          → plus_all z.tallies (of_frame (eqb cid (cid_of s)) link a z) ≡ (count_received z).tallies
      used_comes c a f e =
          ap (plus_all z.tallies)
          (choose_true _ _ _ its_own
          ∙ ap₂ (λ (u v : Bool). record { sends = no_tally; receives = record { frames = bit u; blocked = bit v } })
          (and_both (is_connected z.state) _ opened (and_both (eqb z.link link) _ mine (and_both (has_credit z) _ c (ap not f)))) e)

      blocked_comes : has_credit z ≡ false → plus_all z.tallies (of_frame (eqb cid (cid_of s)) link (Refused OutOfMemory) z) ≡ (count_blocked_receive z).tallies
      blocked_comes c =
          ap (plus_all z.tallies)
          (choose_true _ _ _ its_own
          ∙ ap (λ (u : Bool). record { sends = no_tally; receives = record { frames = bit u; blocked = 1 } })
          (off (is_connected z.state) (off (eqb z.link link) (ap (λ (b : Bool). b && not (comes_first (Refused OutOfMemory))) c))))

      refused_comes : has_credit z ≡ false → Comes (change t s (count_blocked_receive z) [] (Refused OutOfMemory) [])
      refused_comes c =
          one s _ (λ i. of_frame (eqb cid (cid_of i)) link (Refused OutOfMemory) (slot_at t i)) (cid_within t cid on) (counts refl (blocked_comes c)) (others_come (Refused OutOfMemory) on)

      joined_comes : has_credit z ≡ true → (count : ℕ) (j : Result Joined Refusal) → Comes (joined t s (count_received (with_account (received z.account 1) z)) count j)
      unfolding joined
      joined_comes c count (Err r) =
          one s _ (λ i. of_frame (eqb cid (cid_of i)) link (Refused r) (slot_at t i)) (cid_within t cid on) (left-tallied (count_received (with_account (received z.account 1) z)) opened) (others_come (Refused r) on)
      joined_comes c count (Ok (Joined.Assembling a)) =
          one s _ (λ i. of_frame (eqb cid (cid_of i)) link Done (slot_at t i)) (cid_within t cid on) (counts refl (used_comes c Done refl refl)) (others_come Done on)
      joined_comes c count (Ok (Joined.Finished len)) =
          one s _ (λ i. of_frame (eqb cid (cid_of i)) link Done (slot_at t i)) (cid_within t cid on) (counts refl (used_comes c Done refl refl)) (others_come Done on)
      joined_comes c count (Ok Joined.Dropped) =
          one s _ (λ i. of_frame (eqb cid (cid_of i)) link (Refused QueueFull) (slot_at t i)) (cid_within t cid on) (counts refl (used_comes c (Refused QueueFull) refl refl)) (others_come (Refused QueueFull) on)

    pub frame_comes : (room : ℕ) (head : List ℕ) (count : ℕ) → Comes (dispatch t room link cid head count)
    unfolding dispatch
    frame_comes room head count =
        gate_refusals Comes t _ _ _ _ (λ r h. still_comes (Refused r) (λ i _ _. first-none r h (slot_at t i)) (ne_eqb (refusal_number r) 10 (λ e. omega arith)))
        (λ _. if_cases Comes _ (λ e. still_comes (Refused InvalidChannelId) (λ i l its. absurd (false≢true (sym (not-true (is_cid t cid) e) ∙ named_cid i l its))) refl)
        (λ e. let on = not-false (is_cid t cid) e in
        if_cases Comes _ (λ k. still_comes Done (λ i _ its. rw (named i its) (ap (λ (b : Bool). b && (eqb z.link link && (has_credit z && not (comes_first Done)))) (not-true (is_connected z.state) k))) refl)
        (λ k. let opened = not-false (is_connected z.state) k in
        if_cases Comes _ (λ m. still_comes (Refused NotFound) (λ i _ its. rw (named i its) (off (is_connected z.state) (ap (λ (b : Bool). b && (has_credit z && not (comes_first (Refused NotFound)))) (not-true (eqb z.link link) m)))) refl)
        (λ m. let mine = not-false (eqb z.link link) m in
        if_cases Comes _ (λ c. refused_comes on opened mine (no_credit z (eqb-true z.account.credits 0 c)))
        (λ c. joined_comes on opened mine (some_credit z (eqb-false z.account.credits 0 c)) count _)))))
