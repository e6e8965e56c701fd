-- Exact rejoining of runs of the code, from the frames that a send leaves in the caller's memory to the SDU that a take leaves there, whole. Rests on
-- exact rejoining over the definition's runs (crate rules_jobs) and on the law for one call (Called.antt).
use Rattle.std.specs.Prelude.{◌≡◌, refl, true, List, [], ℕ, suc, ◌-◌, ◌≤◌, ◌<◌, length, take, Result, Ok, Err}
use Rattle.std.proofs.Common.{sym, ap, ◌∙◌, subst, arith}
use Rattle.std.proofs.lemmas.List.Edits.{sets}
use Rattle.lists.specs.Choose.{if_cases}
use Rattle.lists.specs.Sets.{part_length, part_same}
use Rattle.codes.specs.declared.Refusal.TheVariants.{InsufficientSpace}
use Rattle.sar_cut.specs.Cutting.{payloads, AllWithin, frames_of}
use Rattle.sar_cut.specs.declared.Framed.{Framed}
use Rattle.channel.specs.Limits.{handle_most, signal_most}
use Rattle.channel.specs.declared.Answer.{Answer}
use Rattle.channel.specs.declared.Answer.TheVariants.{Refused, Frames, Job}
use Rattle.channel.specs.declared.Served.{Served}
use Rattle.channel.specs.declared.Slot.{Slot}
use Rattle.channel.specs.declared.Table.{Table}
use Rattle.definition.specs.Mem.{fills, written}
use Rattle.definition.specs.Table.{slot_at, blocks}
use Rattle.definition.specs.Outcome.{Outcome}
use Rattle.definition.specs.Frames.{planned, send}
use Rattle.definition.specs.Calls.{Window, Call, sends, jobs, bare, decide}
use Rattle.definition.specs.Ending.{itself}
use Rattle.definition.specs.Run.{State, lent, outcome}
use Rattle.definition.specs.Numbers.{answer_number}
use Rattle.rules.proofs.Forms.{gate_cases}
use Rattle.rules.specs.Tests.{begun}
use Rattle.rules_jobs.specs.Rejoin.{Unchanged, Arrives, Receiver, Rejoined, job_at}
use Rattle.rules_jobs.specs.Rejoin as Rejoin
use Rattle.rules_jobs.specs.Taking.{taking, sized, HandsOut}
use Rattle.rules_jobs.proofs.Taking.{takes_whole, short-refused, short-only, mtu_suffices}
use Rattle.rules_jobs.specs.Taking as Taking
use Rattle.rules_jobs.proofs.Exact.{sends_frames, exact_rejoining}
use Rattle.rules_jobs.proofs.Sending.{exact_taking, sent_comes_out}
use Rattle.rules_code.specs.Called.{Within, Called}
use Rattle.rules_code.proofs.Written.{called-written}
use Rattle.rules_code.proofs.Called.{called-after, called_served, called-out, called-tray}
use Rattle.rules_code.specs.Rules.{CodeReached}
use Rattle.rules_code.proofs.Rules.{code-reached}
use Rattle.rules_code.specs.Rejoining.{CodeArrives, CodeHandsOut, all, between, comes, handed}
use Rattle.codes.specs.declared.Refusal.{Refusal}

-- a buffer in memory has the size of its window
window-size : (w : Window) (s : State) → Within w s.memory → sized w s ≡ w.size
window-size w s h = part_length s.memory w.from w.size h

-- octets written from a buffer's start, and that fit, stand there
stands : (js room out : List ℕ) (fs : List _) (xs : List ℕ) → fills itself js room fs ≡ xs → length xs ≤ length out → take (length xs) (written itself js room 0 fs out) ≡ xs
unfolding written
stands js room out fs xs e l = ap (λ (ys : List ℕ). take (length xs) (sets out 0 ys)) e ∙ part_same 0 out 0 xs (omega arith)

answered : {s s' : State} {c : Call} {r : Served} {a : Answer} → Called s c r s' → r.answer ≡ a → (outcome s c).answer ≡ a
answered p e = ap (λ (x : Served). x.answer) (sym (called_served p)) ∙ e

-- a send writes from its output's start on
planned-at : (t : Table) (j : ℕ) (x : Slot) (l : ℕ) (q : Result Framed Refusal) → (planned t j x l q).at ≡ 0
unfolding planned
planned-at t j x l (Err r) = if_cases (λ (o : Outcome). o.at ≡ 0) (blocks r) (λ _. refl) (λ _. refl)
planned-at t j x l (Ok framed) = refl

sends_at : (s : State) (j : ℕ) (sdu : List ℕ) (w : Window) → (outcome s (sends j sdu w)).at ≡ 0
unfolding decide bare jobs send
sends_at s j sdu w = gate_cases P s.table _ _ _ _ (λ r. refl) λ _. if_cases P _ (λ _. refl) λ _. if_cases P _ (λ _. refl) λ _. planned-at s.table j _ _ _
  where
    P : Outcome → Type 0
    P o = o.at ≡ 0

-- ---- a send that is answered 0 leaves the frames of the SDU, for the peer's MPS, at the start of its output

pub code_sends : {s s' : State} {r : Served} (j : ℕ) (sdu : List ℕ) (w : Window) (link n : ℕ) → Called s (sends j sdu w) r s' → r.answer ≡ Frames link n
    → let frames = frames_of (slot_at s.table j).peer.cid (slot_at s.table j).peer.mps sdu in take (length frames) (lent w s'.memory) ≡ frames
unfolding jobs
code_sends {s} j sdu w link n p e =
    let f = sends_frames s j sdu w link n (answered p e) in
    let x = slot_at s.table j in
    let o = outcome s (sends j sdu w) in
    let n = length (frames_of x.peer.cid x.peer.mps sdu) in
    ap (take n) (called-out p ∙ (called-written p).0) ∙ ap (λ (at : ℕ). take n (written itself sdu s.room at o.out (lent w s.memory))) (sends_at s j sdu w)
    ∙ stands sdu s.room (lent w s.memory) o.out (frames_of x.peer.cid x.peer.mps sdu) f.octets f.fits

code_arrives : {i link : ℕ} {ps : List (List ℕ)} {s s' : State} → CodeArrives i link ps s s' → Arrives i link ps s s'
code_arrives all = Rejoin.all
code_arrives {i} {link} {ps} {s} {s'} (between {c = c} p f u q) =
    Rejoin.between c f (subst (λ (v : State). Unchanged s v i) (called-after p) u) (subst (λ (v : State). Arrives i link ps v s') (called-after p) (code_arrives q))
code_arrives {i} {link} {s = s} {s'} (comes {ps = ps} {p = p} d q) = Rejoin.comes p (subst (λ (v : State). Arrives i link ps v s') (called-after d) (code_arrives q))

-- ---- THE THEOREM

-- A send of the code was answered 0 with n frames, anywhere; the receiver is as documents 01 and 02 ask it, in a run of the code; the payloads come.
-- Then the job waits there, whole, behind those that waited before, which are unchanged.
pub code_exact_rejoining : {sender sender' : State} {r : Served} (j : ℕ) (sdu : List ℕ) (w : Window) (link' n : ℕ) → Called sender (sends j sdu w) r sender' → r.answer ≡ Frames link' n
    → {s s' : State} (i link : ℕ) → link ≤ handle_most → CodeReached s → Receiver s i link n → (slot_at s.table i).assembly.want ≡ 0 → length sdu ≤ (slot_at s.table i).mtu
    → AllWithin (slot_at s.table i).mps (payloads (slot_at sender.table j).peer.mps sdu)
    → CodeArrives i link (payloads (slot_at sender.table j).peer.mps sdu) s s'
    → Rejoined s' i sdu (slot_at s.table i).queue.count (job_at s i)
code_exact_rejoining {sender} j sdu w link' n p e i link handle g v z m b a =
    exact_rejoining sender j sdu w link' n (answered p e) i link handle (code-reached g) v z m b (code_arrives a)

-- Where no job waited before it, the next take whose buffer holds it leaves the SDU at the start of that buffer, and reports its length.
pub code_exact_taking : {s s' : State} {r : Served} → CodeReached s → (i : ℕ) (sdu : List ℕ) (others : ℕ → List ℕ) → Rejoined s i sdu 0 others
    → (w v : Window) → signal_most ≤ w.size → length sdu ≤ v.size → Called s (taking i w v) r s'
    → (take (length sdu) (lent v s'.memory) ≡ sdu) × (r.answer ≡ Job (slot_at s.table i).link (length sdu))
unfolding jobs
code_exact_taking {s} g i sdu others q w v l big p =
    let a = window-size w s p.lends.out in
    let b = window-size v s p.lends.tray in
    let z = exact_taking (code-reached g) i sdu others q w v (omega arith) (omega arith) in (
      ap (take (length sdu)) (called-tray p ∙ (called-written p).1)
          ∙ stands [] s.room (lent v s.memory) (outcome s (taking i w v)).job sdu z.0 (omega arith),
      ap (λ (x : Served). x.answer) (called_served p) ∙ z.1,
    )

-- ---- THE LAW OF A TAKE: one that answers a job leaves the whole job at the start of its buffer, and the others one nearer

pub code_takes_whole : {s s' : State} {r : Served} → CodeReached s → (i link n : ℕ) (w v : Window) → Called s (taking i w v) r s' → r.answer ≡ Job link n
    → (take (length (job_at s i 0)) (lent v s'.memory) ≡ job_at s i 0) × (n ≡ length (job_at s i 0))
    × ((slot_at s'.table i).queue.count ≡ (slot_at s.table i).queue.count - 1) × ((k : ℕ) → suc k < (slot_at s.table i).queue.count → job_at s' i k ≡ job_at s i (suc k))
unfolding jobs
code_takes_whole {s} {r = r} g i link n w v p e =
    let a = answered p e in
    let z = takes_whole (code-reached g) i link n w v a in (
      ap (take (length (job_at s i 0))) (called-tray p ∙ (called-written p).1)
          ∙ stands [] s.room (lent v s.memory) (outcome s (taking i w v)).job (job_at s i 0) z.octets z.fits,
      (let f : Job link n ≡ Job (slot_at s.table i).link (length (job_at s i 0)) = sym a ∙ z.answer in cc),
      ap (λ (x : State). (slot_at x.table i).queue.count) (called-after p) ∙ z.count,
      (λ k l. ap (λ (x : State). job_at x i k) (called-after p) ∙ z.others k l),
    )

-- Into a buffer that is too short nothing is taken, and the call leaves everything as it was. It is refused so nowhere else, and a buffer of the slot's MTU never is too short.
pub code_short_refused : {s s' : State} {r : Served} → CodeReached s → (i : ℕ) → i < s.table.n → begun (slot_at s.table i).state ≡ true → 0 < (slot_at s.table i).queue.count
    → (w v : Window) → signal_most ≤ w.size → v.size < length (job_at s i 0) → Called s (taking i w v) r s' → (r.answer ≡ Refused InsufficientSpace) × (s' ≡ s)
code_short_refused {s} g i h b c w v l f p =
    let a = window-size w s p.lends.out in
    let e = window-size v s p.lends.tray in
    let z = short-refused (code-reached g) i h b c w v (omega arith) (omega arith) in
    (ap (λ (x : Served). x.answer) (called_served p) ∙ z.0, called-after p ∙ z.1)

pub code_short_only : {s s' : State} {r : Served} → CodeReached s → (i : ℕ) (w v : Window) → Called s (taking i w v) r s' → r.answer ≡ Refused InsufficientSpace
    → (i < s.table.n) × (0 < (slot_at s.table i).queue.count) × (v.size < length (job_at s i 0))
code_short_only {s} g i w v p e =
    let b = window-size v s p.lends.tray in
    let z = short-only (code-reached g) i w v (ap answer_number (answered p e)) in
    (z.0, z.1, omega (arith, z.2))

pub code_mtu_suffices : {s s' : State} {r : Served} → CodeReached s → (i : ℕ) (w v : Window) → (slot_at s.table i).mtu ≤ v.size → Called s (taking i w v) r s'
    → r.answer ≡ Refused InsufficientSpace → ⊥
code_mtu_suffices {s} g i w v m p e =
    let b = window-size v s p.lends.tray in
    mtu_suffices (code-reached g) i w v (omega arith) (ap answer_number (answered p e))

answered_0 : {s s' : State} {c : Call} {r : Served} → Called s c r s' → answer_number r.answer ≡ 0 → answer_number (outcome s c).answer ≡ 0
answered_0 p e = ap answer_number (answered p refl) ∙ e

code_hands_out : {i n : ℕ} {s s' : State} → CodeHandsOut i n s s' → HandsOut i n s s'
code_hands_out all = Taking.all
code_hands_out {i} {n} {s} {s'} (between {c = c} p f u q) =
    Taking.between c f (subst (λ (v : State). (slot_at s.table i).queue.count ≤ (slot_at v.table i).queue.count) (called-after p) u) (subst (λ (v : State). HandsOut i n v s') (called-after p) (code_hands_out q))
code_hands_out {i} {s' = s'} (handed {n} w v p e q) = Taking.handed w v (answered_0 p e) (subst (λ (x : State). HandsOut i n x s') (called-after p) (code_hands_out q))

-- A send of the code was answered 0, its frames came to a receiver, as above, the jobs that waited there before it are taken, and by no other call do fewer jobs wait there.
-- Then a take that is not refused leaves the SDU at the start of its buffer, and reports its length.
pub code_sent_comes_out : {sender sender' : State} {r : Served} (j : ℕ) (sdu : List ℕ) (x : Window) (link' n : ℕ) → Called sender (sends j sdu x) r sender' → r.answer ≡ Frames link' n
    → {s s' s'' t : State} {q : Served} (i link : ℕ) → link ≤ handle_most → CodeReached s → Receiver s i link n → (slot_at s.table i).assembly.want ≡ 0 → length sdu ≤ (slot_at s.table i).mtu
    → AllWithin (slot_at s.table i).mps (payloads (slot_at sender.table j).peer.mps sdu)
    → CodeArrives i link (payloads (slot_at sender.table j).peer.mps sdu) s s'
    → CodeHandsOut i (slot_at s.table i).queue.count s' s''
    → (w v : Window) → Called s'' (taking i w v) q t → answer_number q.answer ≡ 0
    → (take (length sdu) (lent v t.memory) ≡ sdu) × (q.answer ≡ Job (slot_at s''.table i).link (length sdu))
unfolding jobs
code_sent_comes_out {sender} j sdu x link' n p e {s} {s'' = s''} i link handle g k z m b a o w v d f =
    let y = sent_comes_out sender j sdu x link' n (answered p e) i link handle (code-reached g) k z m b (code_arrives a) (code_hands_out o) w v (answered_0 d f) in (
      ap (take (length sdu)) (called-tray d ∙ (called-written d).1)
          ∙ stands [] s''.room (lent v s''.memory) (outcome s'' (taking i w v)).job sdu y.0 y.2,
      ap (λ (x : Served). x.answer) (called_served d) ∙ y.1,
    )
