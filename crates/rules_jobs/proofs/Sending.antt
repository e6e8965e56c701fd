-- Exact rejoining at the table (F), from the sender's SDU to the job taken: what a send that is answered 0 writes, and that its frames, as they come to
-- the receiver, are that SDU again. Rests on the frames of a job (crate sar_cut) and on the receiving side (Rejoin.antt, Taking.antt).
use Rattle.std.specs.Prelude.{◌≡◌, List, [], ℕ, ◌-◌, ◌≤◌, length}
use Rattle.std.proofs.Common.{ap, ◌∙◌, subst, arith}
use Rattle.sar_cut.specs.Cutting.{payloads, AllWithin}
use Rattle.sar_cut.proofs.CutLaws.{payloads-within}
use Rattle.channel.specs.Limits.{handle_most, signal_most}
use Rattle.channel.specs.declared.Answer.TheVariants.{Frames, Job}
use Rattle.definition.specs.Mem.{fills}
use Rattle.definition.specs.Table.{slot_at}
use Rattle.definition.specs.Calls.{Window, sends, jobs}
use Rattle.definition.specs.Run.{State, outcome}
use Rattle.definition.specs.Numbers.{answer_number}
use Rattle.rules.specs.Run.{Reached, next}
use Rattle.rules_jobs.specs.Rejoin.{framing, Arrives, all, between, comes, Receiver, Rejoined, job_at}
use Rattle.rules_jobs.specs.Taking.{taking, sized, HandsOut}
use Rattle.rules_jobs.proofs.Taking.{takes_waiting, handed_out, rejoined_taken}
use Rattle.rules_jobs.proofs.Exact.{exact_rejoining}

-- So it is, whatever the job, where the sender was told an MPS of at most ours.
pub exact_rejoining_told : (sender : State) (j : ℕ) (sdu : List ℕ) (w : Window) (link' n : ℕ) → (outcome sender (sends j sdu w)).answer ≡ Frames link' n
    → {s s' : State} (i link : ℕ) → link ≤ handle_most → Reached s → Receiver s i link n → (slot_at s.table i).assembly.want ≡ 0 → length sdu ≤ (slot_at s.table i).mtu
    → (slot_at sender.table j).peer.mps ≤ (slot_at s.table i).mps
    → Arrives i link (payloads (slot_at sender.table j).peer.mps sdu) s s'
    → Rejoined s' i sdu (slot_at s.table i).queue.count (job_at s i)
exact_rejoining_told sender j sdu w link' n answered {s} i link handle r v z m b a =
    exact_rejoining sender j sdu w link' n answered i link handle r v z m (payloads-within (slot_at sender.table j).peer.mps (slot_at s.table i).mps sdu b) a

-- Where no job waited before it, the next take whose buffer holds it hands out the SDU and reports its length.
pub exact_taking : {s : State} → Reached s → (i : ℕ) (sdu : List ℕ) (others : ℕ → List ℕ) → Rejoined s i sdu 0 others → (w v : Window) → signal_most ≤ sized w s → length sdu ≤ sized v s
    → (fills (λ x. x) [] s.room (outcome s (taking i w v)).job ≡ sdu)
    × ((outcome s (taking i w v)).answer ≡ Job (slot_at s.table i).link (length sdu))
unfolding jobs
exact_taking r i sdu others j w v l big = rejoined_taken r i sdu others j w v l big

-- ---- WHAT WAS SENT IS WHAT COMES OUT

-- the run goes on
arrived : {i link : ℕ} {ps : List (List ℕ)} {s s' : State} → Arrives i link ps s s' → Reached s → Reached s'
arrived all r = r
arrived (between a f u v) r = arrived v (next a r f)
arrived {i} {link} (comes p v) r = arrived v (next (framing link i p) r tt)

-- A send was answered 0, and its frames came to a receiver, as above. The jobs that waited there before it are taken, however many, and by no other call do fewer jobs
-- wait there: it is not freed. Then a take that is not refused hands out the SDU, octet for octet, whatever buffer is lent, and reports its length.
pub sent_comes_out : (sender : State) (j : ℕ) (sdu : List ℕ) (x : Window) (link' n : ℕ) → (outcome sender (sends j sdu x)).answer ≡ Frames link' n
    → {s s' s'' : State} (i link : ℕ) → link ≤ handle_most → Reached s → Receiver s i link n → (slot_at s.table i).assembly.want ≡ 0
    → length sdu ≤ (slot_at s.table i).mtu → AllWithin (slot_at s.table i).mps (payloads (slot_at sender.table j).peer.mps sdu)
    → Arrives i link (payloads (slot_at sender.table j).peer.mps sdu) s s'
    → HandsOut i (slot_at s.table i).queue.count s' s''
    → (w v : Window) → answer_number (outcome s'' (taking i w v)).answer ≡ 0
    → (fills (λ x. x) [] s''.room (outcome s'' (taking i w v)).job ≡ sdu)
    × ((outcome s'' (taking i w v)).answer ≡ Job (slot_at s''.table i).link (length sdu))
    × (length sdu ≤ sized v s'')
unfolding jobs
sent_comes_out sender j sdu x link' n answered {s} {s'} {s''} i link handle r k z m b a o w v e =
    let y = exact_rejoining sender j sdu x link' n answered i link handle r k z m b a in
    let c = y.count in
    let f = handed_out o (arrived a r) y.used (omega arith) in
    let q = takes_waiting f.reached i w v f.some e in
    let is = f.is ∙ y.whole in
    (q.octets ∙ is, q.answer ∙ ap (λ (xs : List ℕ). Job (slot_at s''.table i).link (length xs)) is, subst (λ (xs : List ℕ). length xs ≤ sized v s'') is q.fits)
