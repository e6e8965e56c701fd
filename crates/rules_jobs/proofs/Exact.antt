-- Exact rejoining at the table (F): what a send that is answered 0 writes, and that its frames, as they come to the receiver, are that SDU again, waiting there.
use Rattle.std.specs.Prelude.{◌≡◌, List, [], ◌∷◌, ◌++◌, ℕ, zero, suc, ◌-◌, ◌≤◌, ◌<◌, length, take, drop}
use Rattle.std.proofs.Common.{sym, ap, ◌∙◌, subst, arith, length-drop, take-append-drop, take_all}
use Rattle.lists.specs.Choose.{if_cases}
use Rattle.codes.specs.declared.Refusal.{Refusal}
use Rattle.octets.specs.Octets.{le16}
use Rattle.sar_cut.specs.Cutting.{stream, pieces, payloads, AllWithin}
use Rattle.sar_cut.proofs.CutLaws.{split}
use Rattle.sar_frames.specs.FrameLaws.{pieces_nil, pieces_more}
use Rattle.sar_frames.specs.Theorems.{cut}
use Rattle.channel.specs.Limits.{handle_most}
use Rattle.channel.specs.declared.Answer.TheVariants.{Frames}
use Rattle.definition.specs.Mem.{fills}
use Rattle.definition.specs.Table.{slot_at}
use Rattle.definition.specs.Outcome.{Outcome, refuse}
use Rattle.definition.specs.Frames.{send}
use Rattle.definition.specs.Calls.{Window, sends, jobs, bare, decide}
use Rattle.definition.specs.Run.{State, outcome}
use Rattle.rules.specs.Run.{Reached}
use Rattle.rules.proofs.Forms.{gate_cases}
use Rattle.rules.proofs.Join.{planned-frames}
use Rattle.rules_portions.proofs.Sent.{frames_octets}
use Rattle.rules_jobs.specs.Rejoin.{Rest, last, more, Arrives, Receiver, Rejoined, job_at}
use Rattle.rules_jobs.proofs.Rejoin.{rejoins}
use Rattle.rules_jobs.specs.Taking.{sized}
use Rattle.rules_jobs.specs.Sending.{Sends}

-- ---- the payloads of a job carry it, and only the last completes it

-- the first k octets, and the pieces of what follows
cut_rest : (k m : ℕ) (xs : List ℕ) → 0 < m → (0 < length (drop k xs) → Rest (drop k xs) (pieces m (drop k xs))) → Rest xs (take k xs ∷ pieces m (drop k xs))
cut_rest k m xs some f =
    split (length xs) k
    (λ l.
    let e : pieces m (drop k xs) ≡ [] = pieces_nil m (drop k xs) some (rw length-drop (omega arith)) in
    rw (e, take_all k xs l) (last xs))
    (λ l.
    let q : 0 < length (drop k xs) = rw length-drop (omega arith) in
    subst (λ (r : List ℕ). Rest r (take k xs ∷ pieces m (drop k xs))) (take-append-drop k xs) (more (take k xs) q (f q)))

pieces_rest : (f m : ℕ) (xs : List ℕ) → 0 < m → length xs ≤ f → 0 < length xs → Rest xs (pieces m xs)
pieces_rest zero m xs some h l = absurd (omega arith)
pieces_rest (suc f) m xs some h l =
    subst (λ (ps : List (List ℕ)). Rest xs ps) (sym (pieces_more m xs some l))
    (cut_rest m m xs some (λ q. pieces_rest f m (drop m xs) some (rw length-drop (omega arith)) q))

-- the first payload begins with the SDU's length
payloads-is : (m : ℕ) (sdu : List ℕ) → 2 ≤ m → payloads m sdu ≡ (le16 (length sdu) ++ take (m - 2) sdu) ∷ pieces m (drop (m - 2) sdu)
unfolding payloads stream
payloads-is m sdu h =
    let e : m ≡ suc (suc (m - 2)) = omega arith in
    pieces_more m (le16 (length sdu) ++ sdu) (omega arith) (omega arith) ∙ ap (λ (k : ℕ). take k (le16 (length sdu) ++ sdu) ∷ pieces m (drop k (le16 (length sdu) ++ sdu))) e

pub sends_frames : (s : State) (j : ℕ) (sdu : List ℕ) (w : Window) (link n : ℕ) → (outcome s (sends j sdu w)).answer ≡ Frames link n
    → Sends (slot_at s.table j) sdu s.room (sized w s) n (outcome s (sends j sdu w))
unfolding decide bare jobs send
sends_frames s j sdu w link n =
    gate_cases P s.table _ _ _ _ (λ r. never)
    (λ _. if_cases P _ (λ _. never)
    (λ _. if_cases P _ (λ _. never)
    (λ _ e.
    let x = slot_at s.table j in
    let z = planned-frames s.table j x (length sdu) (sized w s) link n e in
    let wide : 2 ≤ x.peer.mps = (let y = z.wide in omega arith) in
    record {
      octets = ap (fills (λ x. x) sdu s.room) z.out ∙ frames_octets x.peer.cid x.peer.mps sdu s.room wide n z.count;
      count = (cut x.peer.mps x.peer.cid sdu (omega arith)).count ∙ sym z.count;
      wide = wide;
      fits = rw (cut x.peer.mps x.peer.cid sdu (omega arith)).octets z.holds;
    })))
  where
    P : Outcome → Type 0
    P o = o.answer ≡ Frames link n → Sends (slot_at s.table j) sdu s.room (sized w s) n o

    never : {r : Refusal} → P (refuse s.table r)
    never e = let z : ◌≡◌ {A = ℕ} 0 1 = cc in absurd (omega arith)

-- ---- THE THEOREM

-- A send was answered 0 with n frames, anywhere. The receiver, in a run of its own, is Connected and idle with n credits, a free queue place,
-- MTU ≥ L and an MPS that no frame's payload passes; the frames' payloads come in order on their own link, and other calls between them leave that slot
-- unchanged, but for its tallies. Then the job waits there, whole, behind those that waited before, which are unchanged.
pub exact_rejoining : (sender : State) (j : ℕ) (sdu : List ℕ) (w : Window) (link' n : ℕ) → (outcome sender (sends j sdu w)).answer ≡ Frames link' n
    → {s s' : State} (i link : ℕ) → link ≤ handle_most → Reached s → Receiver s i link n → (slot_at s.table i).assembly.want ≡ 0 → length sdu ≤ (slot_at s.table i).mtu
    → AllWithin (slot_at s.table i).mps (payloads (slot_at sender.table j).peer.mps sdu)
    → Arrives i link (payloads (slot_at sender.table j).peer.mps sdu) s s'
    → Rejoined s' i sdu (slot_at s.table i).queue.count (job_at s i)
exact_rejoining sender j sdu w link' n answered {s} {s'} i link handle r v z m b a =
    let f = sends_frames sender j sdu w link' n answered in
    let mps = (slot_at sender.table j).peer.mps in
    let e = payloads-is mps sdu f.wide in
    let wide : 0 < mps = (let y = f.wide in omega arith) in
    rejoins i link handle (subst (λ (ps : List (List ℕ)). Arrives i link ps s s') e a)
    (cut_rest (mps - 2) mps sdu wide (λ q. pieces_rest (length (drop (mps - 2) sdu)) mps (drop (mps - 2) sdu) wide (omega arith) q)) r
    (subst (λ (k : ℕ). Receiver s i link k) (sym f.count ∙ ap length e) v) (subst (λ (ps : List (List ℕ)). AllWithin (slot_at s.table i).mps ps) e b) z m
