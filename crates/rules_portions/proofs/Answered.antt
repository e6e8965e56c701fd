-- From what a call is answered to what it came to and left: a start, a portion, a cancel and a send that are answered 0 passed every refusal.
use Rattle.std.specs.Prelude.{◌≡◌, refl, Bool, true, false, not, List, [], ◌∷◌, ℕ, ◌-◌, ◌≤◌, ◌<◌, min, length, take, drop, Err, Ok, Option, Result}
use Rattle.std.proofs.Common.{sym, ap, ap₂, ◌∙◌, arith, length-drop, length-take, get_or-set_same, le-ltb, ltb-false}
use Rattle.std.proofs.lemmas.Bool.{false≢true, not-false}
use Rattle.std.proofs.Math.ListN.{get_or-eq_default}
use Rattle.std.proofs.lemmas.List.Edits.{sets}
use Rattle.std.proofs.Math.Seq.{length-sets}
use Rattle.lists.specs.Choose.{choose_false, if_cases}
use Rattle.codes.specs.declared.Refusal.{Refusal}
use Rattle.codes.specs.declared.Refusal.TheVariants.{NoRoom, ChannelClosed, JobOpen}
use Rattle.octets.specs.Sets.{part_same, take_least}
use Rattle.sar_cut.specs.declared.Framed.{Framed}
use Rattle.sar_cut.specs.Cutting.{frames_length, plan_send}
use Rattle.sar_cut.specs.CutLaws.{Allowed}
use Rattle.sar_cut.proofs.CutLaws.{split}
use Rattle.sar_cut.proofs.CutLaws.{plan_allowed, plan_frames}
use Rattle.channel.specs.declared.Answer.{Answer}
use Rattle.channel.specs.declared.Answer.TheVariants.{Done, Frames, Portion}
use Rattle.channel.specs.declared.Slot.{Slot}
use Rattle.channel.specs.declared.Table.{Table}
use Rattle.definition.specs.Mem.{Fill, given, fills, written}
use Rattle.definition.specs.Table.{gap, slot_at, is_connected, is_open, with_peer_credits, with_job, count_sent, blocks}
use Rattle.definition.specs.Outcome.{Outcome, filling, change, refuse, verdict, passed, gate}
use Rattle.definition.specs.Ending.{itself}
use Rattle.definition.specs.Frames.{first_header, frames, unsent, planned, sent_on, send}
use Rattle.definition.specs.Portions.{longest, buffer_size, begun, start_planned, start_on, start_job, portioned, portion_on, give_portion, cancel_job}
use Rattle.definition.specs.Calls.{Window, Call, jobs}
use Rattle.definition.specs.Run.{State, lent, nowhere, out_window, job_window, memory_left, outcome, after}
use Rattle.rules_portions.specs.Statement.{Admits}
use Rattle.rules_portions.specs.Answered.{Cancels, Leaves, Sends, Starts, Takes}

-- ---- memory

nothing : (xs : List ℕ) → length xs ≡ 0 → xs ≡ []
nothing [] e = refl
nothing (x ∷ xs) e = absurd (omega arith)

-- what is written to a window is what it has then
lent_written : (w : Window) (m ys : List ℕ) → length ys ≡ length (lent w m) → lent w (sets m w.from ys) ≡ ys
lent_written w m ys e =
    let at = w.from in
    let l : length ys ≡ min w.size (length m - at) = e ∙ length-take w.size (drop at m) ∙ ap (min w.size) (length-drop at m) in
    let xs = drop at (sets m at ys) in
    let q : min w.size (length xs) ≡ length ys = ap (min w.size) (length-drop at (sets m at ys) ∙ ap (λ (n : ℕ). n - at) (length-sets m at ys)) ∙ sym l in
    sym (take_least w.size xs) ∙ ap (λ (n : ℕ). take n xs) q
    ∙ split at (length m)
    (λ (h : at ≤ length m). part_same 0 m at ys (omega arith))
    (λ (h : length m < at). let z : length ys ≡ 0 = omega arith in ap (λ (n : ℕ). take n xs) z ∙ sym (nothing ys z))

pub filling-leaves : (s : State) (c : Call) (i : ℕ) (y : Slot) (a : Answer) (at : ℕ) (fs : List Fill) (octets : ℕ) → job_window c ≡ nowhere → i < length s.table.slots
    → outcome s c ≡ filling s.table i y a at fs octets → Leaves s c i y at fs
unfolding after written fills
filling-leaves s c i y a at fs octets v h e =
    let js = jobs s.table c in
    let w = out_window c in
    record {
      slot = ap (λ (o : Outcome). slot_at o.table i) e ∙ get_or-set_same s.table.slots i y gap h;
      buffer =
          ap₂ (λ (o : Outcome) (u : Window). lent w (memory_left itself js o w u s.room s.memory)) e v
          ∙ lent_written w s.memory (sets (lent w s.memory) at (fills itself js s.room fs)) (length-sets (lent w s.memory) at (fills itself js s.room fs));
    }

-- ---- the gate, and the refusals behind it

-- what holds of a refusal, and of what follows the gate, holds of both together
pub gate_cases : (P : Outcome → Type 0) (t : Table) (room signal link slot : Option ℕ) {o : Outcome} → ((r : Refusal) → P (refuse t r)) → (verdict t room signal link slot ≡ Ok tt → P o)
    → P (gate t room signal link slot o)
gate_cases P t room signal link slot {o} stop f = go (verdict t room signal link slot) refl
  where
    go : (v : Result (Unit {0}) Refusal) → verdict t room signal link slot ≡ v → P (passed t v o)
    go (Ok tt) e = f e
    go (Err r) e = stop r

-- a Connected slot stands in the table's list
pub slot_there : (t : Table) (i : ℕ) → is_connected (slot_at t i).state ≡ true → i < length t.slots
slot_there t i e =
    split (length t.slots) i
    (λ (h : length t.slots ≤ i). absurd (false≢true (ap (λ (x : Slot). is_connected x.state) (sym (get_or-eq_default t.slots gap h)) ∙ e)))
    (λ (h : i < length t.slots). h)

pub portion_takes : (t : Table) (i count size link taken : ℕ) (full : Bool) → (give_portion t i count size).answer ≡ Portion link taken full
    → Takes t i count size link taken full (give_portion t i count size)
unfolding give_portion
portion_takes t i count size link taken full =
    gate_cases P t _ _ _ _ (λ r. never)
    (λ pass. if_cases P _ (λ _. never)
    (λ on. if_cases P _ (λ _. never)
    (λ going. if_cases P _ (λ _. never)
    (λ _. if_cases P _ (λ _. never)
    (λ _ e. record { admits = record { passes = pass; on = not-false _ on }; going = not-false _ going; is = refl; took = cc; filled = cc })))))
  where
    P : Outcome → Type 0
    P o = o.answer ≡ Portion link taken full → Takes t i count size link taken full o

    never : {r : Refusal} → P (refuse t r)
    never e = let z : ◌≡◌ {A = ℕ} 0 1 = cc in absurd (omega arith)

-- and the other way: nothing else is asked of a portion
pub portion-is : (t : Table) (i count size : ℕ) → Admits t i → is_open (slot_at t i).job ≡ true → buffer_size (slot_at t i).peer.mps (slot_at t i).job.length ≤ size
    → count ≤ (slot_at t i).job.length - (slot_at t i).job.taken → give_portion t i count size ≡ portioned t i (slot_at t i) count
unfolding give_portion
portion-is t i count size a going big fits =
    ap (λ (v : Result (Unit {0}) Refusal). passed t v (portion_on t i count size)) a.passes ∙ choose_false _ _ _ (ap not a.on) ∙ choose_false _ _ _ (ap not going) ∙ choose_false _ _ _ (le-ltb size _ big) ∙ choose_false _ _ _ (le-ltb _ count fits)

-- ---- start and send

-- what its plan refuses, counted or not, is no frames
not-sent : {A : Type 0} (t : Table) (i : ℕ) (x : Slot) (r : Refusal) (link n : ℕ) → (unsent t i x r).answer ≡ Frames link n → A
not-sent {A} t i x r link n =
    if_cases (λ (o : Outcome). o.answer ≡ Frames link n → A) (blocks r)
    (λ _ e. let z : ◌≡◌ {A = ℕ} 0 1 = cc in absurd (omega arith)) (λ _ e. let z : ◌≡◌ {A = ℕ} 0 1 = cc in absurd (omega arith))

pub start_starts : (t : Table) (i l size link n : ℕ) → (start_job t i l size).answer ≡ Frames link n → Starts t i l size link n (start_job t i l size)
unfolding start_job start_planned
start_starts t i l size link n =
    gate_cases P t _ _ _ _ (λ r. never)
    (λ pass. if_cases P _ (λ _. never)
    (λ on. if_cases P _ (λ _. never) (λ shut. plan (record { passes = pass; on = not-false _ on }) shut _ refl)))
  where
    P : Outcome → Type 0
    P o = o.answer ≡ Frames link n → Starts t i l size link n o

    never : {r : Refusal} → P (refuse t r)
    never e = let z : ◌≡◌ {A = ℕ} 0 1 = cc in absurd (omega arith)

    x : Slot
    x = slot_at t i

    plan : Admits t i → is_open x.job ≡ false → (p : Result Framed Refusal) → plan_send l x.peer.mtu x.peer.mps x.peer.credits (frames_length l x.peer.mps) ≡ p → P (start_planned t i x l size p)
    plan a shut (Err r) e = λ f. not-sent t i x r link n f
    plan a shut (Ok framed) e =
        if_cases P _ (λ _. never)
        (λ big f.
        let q = plan_allowed l x.peer.mtu x.peer.mps x.peer.credits (frames_length l x.peer.mps) framed.n framed.octets e in
        let same : framed.n ≡ n = cc in
        record {
          admits = a;
          shut = shut;
          allowed = record { fits = q.fits; short = q.short; wide = q.wide; paid = q.paid; holds = q.holds; frames = sym same ∙ q.frames; long = refl };
          own = cc;
          big = ltb-false size _ big;
          is = ap (λ (k : ℕ). filling t i (with_job (begun l k) (count_sent k (with_peer_credits (x.peer.credits - k) x))) (Frames x.link k) 0 (given (first_header x.peer.cid (longest x.peer.mps l) l) ∷ []) 0) same;
        })

-- and the other way
pub start_is : (t : Table) (i l size n : ℕ) → Admits t i → is_open (slot_at t i).job ≡ false
    → Allowed l (slot_at t i).peer.mtu (slot_at t i).peer.mps (slot_at t i).peer.credits (frames_length l (slot_at t i).peer.mps) n (frames_length l (slot_at t i).peer.mps)
    → buffer_size (slot_at t i).peer.mps l ≤ size → (start_job t i l size).answer ≡ Frames (slot_at t i).link n
unfolding start_job start_planned
start_is t i l size n a shut q big =
    let x = slot_at t i in
    ap (λ (v : Result (Unit {0}) Refusal). (passed t v (start_on t i l size)).answer) a.passes
    ∙ ap (λ (o : Outcome). o.answer) (choose_false _ (refuse t ChannelClosed) _ (ap not a.on) ∙ choose_false _ (refuse t JobOpen) _ shut
    ∙ ap (start_planned t i x l size) (sym (plan_frames l x.peer.mtu x.peer.mps x.peer.credits (frames_length l x.peer.mps) q.fits q.short q.wide q.paid q.holds))
    ∙ choose_false _ (refuse t NoRoom) _ (le-ltb size _ big))
    ∙ ap (Frames x.link) (sym q.frames)

pub send_sends : (t : Table) (i l size link n : ℕ) → (send t i l size).answer ≡ Frames link n → Sends t i l size link n (send t i l size)
unfolding send planned
send_sends t i l size link n =
    gate_cases P t _ _ _ _ (λ r. never)
    (λ pass. if_cases P _ (λ _. never)
    (λ on. if_cases P _ (λ _. never) (λ shut. plan (record { passes = pass; on = not-false _ on }) shut _ refl)))
  where
    P : Outcome → Type 0
    P o = o.answer ≡ Frames link n → Sends t i l size link n o

    never : {r : Refusal} → P (refuse t r)
    never e = let z : ◌≡◌ {A = ℕ} 0 1 = cc in absurd (omega arith)

    x : Slot
    x = slot_at t i

    plan : Admits t i → is_open x.job ≡ false → (p : Result Framed Refusal) → plan_send l x.peer.mtu x.peer.mps x.peer.credits size ≡ p → P (planned t i x l p)
    plan a shut (Err r) e f = not-sent t i x r link n f
    plan a shut (Ok framed) e f =
        let q = plan_allowed l x.peer.mtu x.peer.mps x.peer.credits size framed.n framed.octets e in
        let same : framed.n ≡ n = cc in
        record {
          admits = a;
          shut = shut;
          allowed = record { fits = q.fits; short = q.short; wide = q.wide; paid = q.paid; holds = q.holds; frames = sym same ∙ q.frames; long = refl };
          own = cc;
          is = ap (λ (k : ℕ). change t i (count_sent k (with_peer_credits (x.peer.credits - k) x)) [] (Frames x.link k) (frames x.peer.cid x.peer.mps l k)) same;
        }

pub send-is : (t : Table) (i l size n : ℕ) → Admits t i → is_open (slot_at t i).job ≡ false
    → Allowed l (slot_at t i).peer.mtu (slot_at t i).peer.mps (slot_at t i).peer.credits size n (frames_length l (slot_at t i).peer.mps)
    → (send t i l size).answer ≡ Frames (slot_at t i).link n
unfolding send planned
send-is t i l size n a shut q =
    let x = slot_at t i in
    ap (λ (v : Result (Unit {0}) Refusal). (passed t v (sent_on t i l size)).answer) a.passes
    ∙ ap (λ (o : Outcome). o.answer) (choose_false _ (refuse t ChannelClosed) _ (ap not a.on) ∙ choose_false _ (refuse t JobOpen) _ shut
    ∙ ap (planned t i x l) (sym (plan_frames l x.peer.mtu x.peer.mps x.peer.credits size q.fits q.short q.wide q.paid q.holds)))
    ∙ ap (Frames x.link) (sym q.frames)

pub cancel_cancels : (t : Table) (room i : ℕ) → (cancel_job t room i).answer ≡ Done → Cancels t i (cancel_job t room i)
unfolding cancel_job
cancel_cancels t room i =
    gate_cases P t _ _ _ _ (λ r. never) (λ _. if_cases P _ (λ _. never) (λ on. if_cases P _ (λ _. never) (λ going _. record { on = not-false _ on; going = not-false _ going; is = refl })))
  where
    P : Outcome → Type 0
    P o = o.answer ≡ Done → Cancels t i o

    never : {r : Refusal} → P (refuse t r)
    never e = let z : ◌≡◌ {A = ℕ} 0 1 = cc in absurd (omega arith)
