-- A frame in and a send leave a valid table's octets valid, whatever they answer: so a run of them tests its table once.
use Rattle.std.specs.Prelude.{◌≡◌, refl, Bool, true, false, not, List, ℕ, ◌+◌, ◌-◌, ◌≤◌, ◌<◌, eqb, leb, ltb, get_or, None, Some, Result, Ok, Err}
use Rattle.std.proofs.Common.{sym, ap, ◌∙◌, subst, add-one, arith, length-take, get_or-take}
use Rattle.std.proofs.Math.ListN.{length, length-set}
use borrow.Author.Tests.{eqb-false, le-leb, leb-true, leb-false, ltb-true, ltb-false}
use Rattle.lists.specs.Choose.{if_cases}
use Rattle.lists.specs.Both.{and_left, and_right, and_both}
use Rattle.lists.specs.Every.{every-passes}
use Rattle.octets.specs.Octets.{u16_at}
use Rattle.codes.specs.declared.Refusal.TheVariants.{BadRoom, BadHandle, BadSlot}
use Rattle.credit.specs.Account.{credit_sum, received}
use Rattle.credit_laws.specs.AccountLaws.{received-sum}
use Rattle.sar_cut.specs.declared.Framed.{Framed}
use Rattle.sar_join.specs.declared.Joined.{Joined}
use Rattle.sar_join.specs.declared.Joined.TheVariants as Joined
use Rattle.sar_join.specs.Joining.{reached, first_step, join_step}
use Rattle.channel.specs.Limits.{slots_most, depth_most, handle_most, credits_most}
use Rattle.channel.specs.declared.Slot.{Slot}
use Rattle.channel.specs.declared.Table.{Table}
use Rattle.channel.specs.declared.Tally.{Tally}
use Rattle.definition.specs.Table.{place_of, gap, slot_at, slot_of, is_cid, is_connected, room_width, live, lens_fit, is_open, job_fits, sizes_fit, slot_fits, well_formed, with_account, with_peer_credits, with_sends, count_received, blocks}
use Rattle.definition.proofs.Tells.{cid_within}
use Rattle.table_gate_sizes.specs.Sizes.{formed_sizes}
use Rattle.definition.specs.Frames.{queued}
use Rattle.slot_work.specs.Work.{Work}
use Rattle.slot_send.specs.Sending as Sending
use Rattle.slot_send.specs.Sending.{planned_from, sent_from}
use Rattle.slot_send.specs.Into.{sends_alone}
use Rattle.slot_frame.specs.FrameIn.{joined_to, frame_of}
use Rattle.edge_layout.specs.Layout.{cell, read, slot_in}
use Rattle.edge.specs.Edge.{Edge}
use Rattle.edge_scan.specs.Scan.{valid_octets}
use Rattle.rules.proofs.Keep.{every_set}
use Rattle.edge_row.proofs.Row.{slots-long, slots-told, slot_read}
use Rattle.edge_row.proofs.Gate.{valid_read, valid_formed, refused_2, refused_6}
use Rattle.edge_row.proofs.Stays.{valid_put}
use Rattle.edge_placed.specs.Frames.{dispatch_edge, send_edge}
use Rattle.edge_placed.specs.Sent.{slot-within, send_stopped, sent-table}
use Rattle.edge_placed.specs.Incoming.{refused_4, frame_stopped, refused_7, row_low, frame-table}
use Rattle.codes.specs.declared.Refusal.{Refusal}

-- ---- what refusal 1 asks of a slot

pub record Fit (d place : ℕ) (x : Slot) : Type 0 where
  pub count : x.queue.count ≤ d
  pub lens : lens_fit place x.queue ≡ true
  pub have : x.assembly.have ≤ place
  pub want : x.assembly.want ≤ place
  pub mtu : x.mtu ≤ place
  pub sum : credit_sum x.account ≤ credits_most
  pub job : job_fits x.peer.mps x.job ≡ true
  pub aside : x.peer.credits + x.job.aside ≤ credits_most

fit : (d place : ℕ) (x : Slot) → slot_fits d place x ≡ true → Fit d place x
unfolding slot_fits
fit d place x e =
    let a = and_right (leb x.queue.count d) _ e in
    let b = and_right (lens_fit place x.queue) _ a in
    let c = and_right (leb x.assembly.have place) _ b in
    let f = and_right (leb x.assembly.want place) _ c in
    let g = and_right (leb x.mtu place) _ f in
    let h = and_right (leb (credit_sum x.account) credits_most) _ g in
    record {
      count = leb-true _ _ (and_left (leb x.queue.count d) _ e);
      lens = and_left (lens_fit place x.queue) _ a;
      have = leb-true _ _ (and_left (leb x.assembly.have place) _ b);
      want = leb-true _ _ (and_left (leb x.assembly.want place) _ c);
      mtu = leb-true _ _ (and_left (leb x.mtu place) _ f);
      sum = leb-true _ _ (and_left (leb (credit_sum x.account) credits_most) _ g);
      job = and_left (job_fits x.peer.mps x.job) _ h;
      aside = leb-true _ _ (and_right (job_fits x.peer.mps x.job) _ h);
    }

fits : (d place : ℕ) (x : Slot) → Fit d place x → slot_fits d place x ≡ true
unfolding slot_fits
fits d place x h =
    and_both _ _ (le-leb _ _ h.count) (and_both _ _ h.lens (and_both _ _ (le-leb _ _ h.have) (and_both _ _ (le-leb _ _ h.want) (and_both _ _ (le-leb _ _ h.mtu) (and_both _ _ (le-leb _ _ h.sum) (and_both _ _ h.job (le-leb _ _ h.aside)))))))

-- ---- what the join step comes to fits

abbrev Fitting : (d place queued : ℕ) → Result Joined Refusal → Type 0
Fitting d place q (Err r) = Unit {0}
Fitting d place q (Ok (Joined.Assembling a)) = (a.have ≤ place) × (a.want ≤ place)
Fitting d place q (Ok (Joined.Finished len)) = (len ≤ place) × (q < d)
Fitting d place q (Ok Joined.Dropped) = Unit {0}

module _ (d place q : ℕ) where
  reached-fits : (want have : ℕ) → want ≤ place → Fitting d place q (reached d q want have)
  unfolding reached
  reached-fits want have h =
      if_cases (Fitting d place q) (ltb want have) (λ _. tt)
      (λ _. if_cases (Fitting d place q) (ltb have want) (λ e. (omega (arith, ltb-true have want e), h))
      (λ _. if_cases (Fitting d place q) (leb d q) (λ _. tt) (λ e. (h, leb-false d q e))))

  step_fits : (x : Slot) (n said : ℕ) → x.mtu ≤ place → x.assembly.want ≤ place → Fitting d place q (join_step x.mtu x.mps d x.assembly q n said)
  unfolding join_step first_step
  step_fits x n said m w =
      if_cases (Fitting d place q) (ltb x.mps n) (λ _. tt)
      (λ _. if_cases (Fitting d place q) (eqb x.assembly.want 0)
      (λ _. if_cases (Fitting d place q) (ltb n 2) (λ _. tt) (λ _. if_cases (Fitting d place q) (ltb x.mtu said) (λ _. tt) (λ e. reached-fits said (n - 2) (omega (arith, ltb-false x.mtu said e)))))
      (λ _. reached-fits x.assembly.want (x.assembly.have + n) w))

-- ---- a frame

joined-fits : (d place : ℕ) (x : Slot) (count : ℕ) (j : Result Joined Refusal) → Fit d place x → Fitting d place x.queue.count j → Fit d place (joined_to place x count j).slot
unfolding joined_to
joined-fits d place x count (Err r) h k = record { count = h.count; lens = h.lens; have = omega arith; want = omega arith; mtu = h.mtu; sum = h.sum; job = refl; aside = omega (arith, h.aside) }
joined-fits d place x count (Ok (Joined.Assembling a)) h k = record { count = h.count; lens = h.lens; have = k.0; want = k.1; mtu = h.mtu; sum = h.sum; job = h.job; aside = h.aside }
joined-fits d place x count (Ok (Joined.Finished len)) h k =
    record {
      count = omega (arith, k.1);
      lens = rw (add-one x.queue.count) (every_set (λ n. leb n place) x.queue.lens x.queue.count len h.lens (le-leb len place k.0));
      have = omega arith;
      want = omega arith;
      mtu = h.mtu;
      sum = h.sum;
      job = h.job;
      aside = h.aside;
    }
joined-fits d place x count (Ok Joined.Dropped) h k = record { count = h.count; lens = h.lens; have = omega arith; want = omega arith; mtu = h.mtu; sum = h.sum; job = h.job; aside = h.aside }

used-fits : (d place : ℕ) (x : Slot) → eqb x.account.credits 0 ≡ false → Fit d place x → Fit d place (count_received (with_account (received x.account 1) x))
used-fits d place x e h =
    let some = eqb-false x.account.credits 0 e in
    record { count = h.count; lens = h.lens; have = h.have; want = h.want; mtu = h.mtu; sum = rw (received-sum x.account 1 h.sum (omega arith)) h.sum; job = h.job; aside = h.aside }

module _ (d place : ℕ) (x : Slot) (link : ℕ) (p : List ℕ) where
  frame_fit : Fit d place x → Fit d place (frame_of d place x link p).slot
  unfolding frame_of
  frame_fit h =
      if_cases (λ (w : Work). Fit d place w.slot) (not (is_connected x.state)) (λ _. h)
      (λ _. if_cases (λ (w : Work). Fit d place w.slot) (not (eqb x.link link)) (λ _. h)
      (λ _. if_cases (λ (w : Work). Fit d place w.slot) (eqb x.account.credits 0) (λ _. record { count = h.count; lens = h.lens; have = h.have; want = h.want; mtu = h.mtu; sum = h.sum; job = h.job; aside = h.aside })
      (λ e. joined-fits d place (count_received (with_account (received x.account 1) x)) _ _ (used-fits d place x e h) (step_fits d place x.queue.count (count_received (with_account (received x.account 1) x)) (length p) (u16_at p 0) h.mtu h.want))))

  pub frame-fits : slot_fits d place x ≡ true → slot_fits d place (frame_of d place x link p).slot ≡ true
  frame-fits e = fits d place _ (frame_fit (fit d place x e))

  joined-long : (y : Slot) (count : ℕ) (j : Result Joined Refusal) → length y.queue.lens ≡ depth_most → length (joined_to place y count j).slot.queue.lens ≡ depth_most
  unfolding joined_to
  joined-long y count (Err r) h = h
  joined-long y count (Ok (Joined.Assembling a)) h = h
  joined-long y count (Ok (Joined.Finished len)) h = length-set y.queue.lens y.queue.count len ∙ h
  joined-long y count (Ok Joined.Dropped) h = h

  frame-long : length x.queue.lens ≡ depth_most → length (frame_of d place x link p).slot.queue.lens ≡ depth_most
  unfolding frame_of
  frame-long h =
      if_cases (λ (w : Work). length w.slot.queue.lens ≡ depth_most) (not (is_connected x.state)) (λ _. h)
      (λ _. if_cases (λ (w : Work). length w.slot.queue.lens ≡ depth_most) (not (eqb x.link link)) (λ _. h)
      (λ _. if_cases (λ (w : Work). length w.slot.queue.lens ≡ depth_most) (eqb x.account.credits 0) (λ _. h) (λ _. joined-long _ _ _ h)))

-- ---- a send: the peer's credits are no more than before

credits_fit : (d place : ℕ) (x : Slot) (n : ℕ) (y : Tally) → n ≤ x.peer.credits → slot_fits d place x ≡ true → slot_fits d place (with_sends y (with_peer_credits n x)) ≡ true
credits_fit d place x n y l e =
    let h = fit d place x e in
    fits d place (with_sends y (with_peer_credits n x)) (record { count = h.count; lens = h.lens; have = h.have; want = h.want; mtu = h.mtu; sum = h.sum; job = h.job; aside = omega (arith, h.aside) })

planned_less : (x : Slot) (sdu out : List ℕ) (p : Result Framed Refusal) → (planned_from x sdu out p).gave.slot.peer.credits ≤ x.peer.credits
unfolding planned_from
planned_less x sdu out (Err r) = if_cases (λ (y : Slot). y.peer.credits ≤ x.peer.credits) (blocks r) (λ _. omega arith) (λ _. omega arith)
planned_less x sdu out (Ok framed) = omega arith

sent_less : (x : Slot) (sdu out : List ℕ) → (sent_from x sdu out).gave.slot.peer.credits ≤ x.peer.credits
unfolding sent_from
sent_less x sdu out =
    if_cases (λ (w : Sending.Work). w.gave.slot.peer.credits ≤ x.peer.credits) (not (is_connected x.state)) (λ _. omega arith)
    (λ _. if_cases (λ (w : Sending.Work). w.gave.slot.peer.credits ≤ x.peer.credits) (is_open x.job) (λ _. omega arith) (λ _. planned_less x sdu out _))

-- ---- the table's octets

-- a slot in use fits
slot-fits : (t : Table) (s : ℕ) → well_formed t ≡ true → t.n ≤ length t.slots → s < t.n → slot_fits t.d (place_of t) (slot_at t s) ≡ true
unfolding well_formed
slot-fits t s e l h =
    let all = and_right (sizes_fit t.n t.d t.m) _ e in
    let k : s < length (live t) = rw length-take (omega arith) in
    ap (slot_fits t.d (place_of t)) (sym (get_or-take t.n t.slots s gap h)) ∙ every-passes (slot_fits t.d (place_of t)) gap (live t) all s k

abbrev Kept : Edge → Type 0
Kept e = valid_octets e.table ≡ true

module _ (o : List ℕ) (v : valid_octets o ≡ true) where
  abbrev t : Table
  t = (read o).table

  within : t.n ≤ length t.slots
  within = omega (arith, (formed_sizes t (valid_formed o v)).n-most, slots-long o (valid_read o v))

  -- the row of a slot in use fits
  pub row_fit : (s : ℕ) → leb (get_or o 1 0) s ≡ false → Fit t.d (place_of t) (slot_in (cell o s))
  row_fit s n =
      let ok = valid_read o v in
      let h : s < t.n = rw (slots-told o ok) (leb-false (get_or o 1 0) s n) in
      rw (← slot_read o ok s (slot-within o s v n)) (fit t.d (place_of t) (slot_at t s) (slot-fits t s (valid_formed o v) within h))

  row-long : (s : ℕ) → s < slots_most → length (slot_at t s).queue.lens ≡ depth_most
  unfolding slot_in
  row-long s h = rw (slot_read o (valid_read o v) s h)

  module _ (a room p : List ℕ) (link cid : ℕ) where
    abbrev fitting : Bool
    fitting = eqb (length room) (room_width (get_or o 1 0) (get_or o 2 0) (u16_at o 3))

    by_cid : fitting ≡ true → ltb handle_most link ≡ false → (b : Bool) → is_cid t cid ≡ b → Kept (dispatch_edge o a room link cid p)
    by_cid e f false n = subst Kept (refused_7 o a room p link cid v e f n) v
    by_cid e f true n =
        let s = slot_of cid in
        let x = slot_at t s in
        let low = row_low o a room p link cid v e f n in
        subst Kept (frame-table o a room p link cid v e f n)
        (valid_put o v s low (frame_of t.d (place_of t) x link p).slot
        (frame-fits t.d (place_of t) x link p (slot-fits t s (valid_formed o v) within (cid_within t cid n)))
        (frame-long t.d (place_of t) x link p (row-long s low)))

    by-link : fitting ≡ true → (b : Bool) → ltb handle_most link ≡ b → Kept (dispatch_edge o a room link cid p)
    by-link e true f = subst Kept (frame_stopped o a room p link cid BadHandle (refused_4 o v (length room) link e f)) v
    by-link e false f = by_cid e f (is_cid t cid) refl

    by-room : (b : Bool) → fitting ≡ b → Kept (dispatch_edge o a room link cid p)
    by-room false e = subst Kept (frame_stopped o a room p link cid BadRoom (refused_2 o v (length room) None (Some link) None e)) v
    by-room true e = by-link e (ltb handle_most link) refl

    -- A FRAME
    pub frame_valid : valid_octets (dispatch_edge o a room link cid p).table ≡ true
    frame_valid = by-room fitting refl

  module _ (a out sdu : List ℕ) (slot : ℕ) where
    by-slot : (b : Bool) → leb (get_or o 1 0) slot ≡ b → Kept (send_edge o a out slot sdu)
    by-slot true n = subst Kept (send_stopped o a out sdu slot BadSlot (refused_6 o v slot n)) v
    by-slot false n =
        let x = slot_at t slot in
        let low = slot-within o slot v n in
        let h : slot < t.n = rw (slots-told o (valid_read o v)) (leb-false (get_or o 1 0) slot n) in
        let y = (sent_from x sdu out).gave.slot in
        let q = sends_alone x sdu out in
        subst Kept (sent-table o a out sdu slot v n)
        (valid_put o v slot low y (rw q (credits_fit t.d (place_of t) x _ _ (sent_less x sdu out) (slot-fits t slot (valid_formed o v) within h))) (rw q (row-long slot low)))

    -- A SEND
    pub send_valid : valid_octets (send_edge o a out slot sdu).table ≡ true
    send_valid = by-slot (leb (get_or o 1 0) slot) refl
