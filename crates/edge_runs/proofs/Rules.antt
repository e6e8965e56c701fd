-- The rules of every run, at the octets: what a run of entries from a making that returns 0 reaches is a state that a run of the definition reaches, spelled
-- (`reached`); so the room rule, the fresh-slot rule, exact rejoining and the law of a take hold of its octets. `state_of` reads the table from its octets.
use Rattle.std.specs.Prelude.{◌≡◌, refl, true, false, List, ℕ, suc, ◌+◌, ◌-◌, ◌*◌, ◌≤◌, ◌<◌, length, take, get_or, Result, Ok, Err}
use Rattle.std.proofs.Common.{sym, ap, ◌∙◌, subst, inl, arith, take_all}
use Rattle.std.proofs.lemmas.List.Edits.{sets}
use Rattle.std.proofs.lemmas.Bool.{eqb-false}
use Rattle.lists.specs.Choose.{if_cases}
use Rattle.codes.specs.declared.Refusal.{Refusal}
use Rattle.sar_cut.specs.declared.Framed.{Framed}
use Rattle.sar_cut.specs.Cutting.{payloads, AllWithin, frames_of}
use Rattle.credit.specs.Account.{credit_sum}
use Rattle.channel.specs.Limits.{handle_most, signal_most, identifier_most, credits_most, size_least}
use Rattle.channel.specs.declared.Answer.TheVariants.{Refused}
use Rattle.channel.specs.declared.Slot.{Slot}
use Rattle.channel.specs.declared.Table.{Table}
use Rattle.definition.specs.Mem.{fills}
use Rattle.definition.specs.Table.{place_of, width, fresh, slot_at, is_disconnected, next_id, well_formed, blocks}
use Rattle.definition.specs.Outcome.{Outcome, refuse}
use Rattle.definition.specs.Calls.{Window, sends, jobs, bare, decide}
use Rattle.definition.specs.Ending.{itself, served_of}
use Rattle.definition.specs.Frames.{planned, send}
use Rattle.definition.specs.Numbers.{answer_number}
use Rattle.definition.proofs.Numbers.{refused_not_0}
use Rattle.definition.specs.Run.{State, lent, out_window, job_window, outcome, after, made}
use Rattle.edge_layout.specs.Back.{Sized}
use Rattle.edge_answer.specs.Answers.{answer_octets}
use Rattle.rules.specs.Run.{Reached}
use Rattle.rules.specs.Run as Run
use Rattle.rules.proofs.Forms.{gate_cases}
use Rattle.rules.specs.Places.{job_in}
use Rattle.rules.specs.RoomRule.{Empty}
use Rattle.rules.proofs.RoomRule.{room_rule}
use Rattle.rules.proofs.Fresh.{unbegun_empty, free-fresh, new_connection, connection_begins}
use Rattle.rules.proofs.Rules.{well_formed_lem, identifiers, credit_sum_lem, peer_least, never_20, within-mtu}
use Rattle.rules.specs.Sound.{Within}
use Rattle.rules.specs.Tests.{begun, offered}
use Rattle.rules_jobs.specs.Rejoin.{job_at, Receiver, Rejoined, Unchanged, Arrives}
use Rattle.rules_jobs.specs.Rejoin as Rejoin
use Rattle.rules_jobs.specs.Taking.{HandsOut}
use Rattle.rules_jobs.proofs.Taking.{takes_waiting, short-refused, short-only, mtu_suffices}
use Rattle.rules_jobs.specs.Taking as Taking
use Rattle.rules_jobs.proofs.Exact.{sends_frames, exact_rejoining}
use Rattle.rules_jobs.proofs.Sending.{exact_taking, sent_comes_out}
use Rattle.edge_sized.proofs.Sized.{after-sized}
use Rattle.edge_runs.specs.Run.{EdgeState, state_of, Asked, call_in, edge_of, entered, Apart, InOctets}
use Rattle.edge_runs.specs.Lift.{spelled}
use Rattle.edge_runs.proofs.Lift.{number_is, answer-is, out-is, job_is, entered-spelled}
use Rattle.edge_runs.proofs.Start.{starting}
use Rattle.edge_runs.proofs.Telling.{over_take, out_written, job-written}
use Rattle.edge_runs.proofs.Isolation.{state_back, entry_fits}
use Rattle.edge_runs.specs.Rules.{Answered, ArrivesAt, Handing, HandsOutAt, ReachedAt, Spells, all, between, comes, framing, handed, next, sending, slot_in, start, taking}

spells : {s : EdgeState} → ReachedAt s → Spells s
spells (start table answer room n d m memory h) =
    let a = starting table answer room n d m memory h in
    record { state = made n d m room memory; is = a.is; sized = a.sized; reached = Run.start n d m room memory a.answer }
spells (next a r apart o) =
    let p = spells r in
    record {
      state = after p.state (call_in a);
      is = ap (λ (x : EdgeState). entered x a) p.is ∙ entered-spelled p.state p.sized a apart;
      sized = after-sized p.state (call_in a) p.sized;
      reached = Run.next (call_in a) p.reached (entry_fits a.entry o);
    }

said : {s : EdgeState} (p : Spells s) → state_of s ≡ p.state
said p = ap state_of p.is ∙ state_back p.state p.sized

pub reached : {s : EdgeState} → ReachedAt s → Reached (state_of s)
reached r = let p = spells r in subst Reached (sym (said p)) p.reached

-- the octets are the spelling of the table that they say, and it is one that they give back
pub spelling : {s : EdgeState} → ReachedAt s → s ≡ spelled (state_of s)
spelling r = let p = spells r in p.is ∙ ap spelled (sym (said p))

pub sized-at : {s : EdgeState} → ReachedAt s → Sized (state_of s).table
sized-at r = let p = spells r in subst (λ (x : State). Sized x.table) (sym (said p)) p.sized

-- an entry makes the step of its call
pub entered-state : {s : EdgeState} → ReachedAt s → (a : Asked) → Apart (out_window (call_in a)) (job_window (call_in a)) → InOctets a.entry → state_of (entered s a) ≡ after (state_of s) (call_in a)
unfolding spells
entered-state r a apart o = let p = spells r in said (spells (next a r apart o)) ∙ ap (λ (x : State). after x (call_in a)) (sym (said p))

-- ---- the table that the octets spell is never one that 1 refuses; identifiers are 1 to 255; credits held plus received never pass 65,535; a PeerConnecting or
-- Connected slot's peer MTU and MPS are at least 23; what waits in a slot, and what arrives there, is no longer than its MTU

pub well_formed_at : {s : EdgeState} → ReachedAt s → well_formed (state_of s).table ≡ true
well_formed_at r = well_formed_lem (reached r)

pub identifiers_at : {s : EdgeState} → ReachedAt s → (1 ≤ next_id (state_of s).table) × (next_id (state_of s).table ≤ identifier_most)
identifiers_at r = identifiers (reached r)

pub credit_sum_at : {s : EdgeState} → ReachedAt s → (i : ℕ) → i < (state_of s).table.n → credit_sum (slot_at (state_of s).table i).account ≤ credits_most
credit_sum_at r = credit_sum_lem (reached r)

pub peer_least_at : {s : EdgeState} → ReachedAt s → (i : ℕ) → i < (state_of s).table.n → offered (slot_at (state_of s).table i).state ≡ true
    → (size_least ≤ (slot_at (state_of s).table i).peer.mtu) × (size_least ≤ (slot_at (state_of s).table i).peer.mps)
peer_least_at r = peer_least (reached r)

pub within_mtu_at : {s : EdgeState} → ReachedAt s → (i : ℕ) → i < (state_of s).table.n
    → Within (slot_at (state_of s).table i).mtu (slot_at (state_of s).table i).assembly (slot_at (state_of s).table i).queue
within_mtu_at r = within-mtu (reached r)

-- ---- "Every octet of room that holds no octet of a live job is zero": octet j of place k of slot i

pub room_rule_at : {s : EdgeState} → ReachedAt s → (i k j : ℕ) → i < (state_of s).table.n → k ≤ (state_of s).table.d → j < place_of (state_of s).table
    → job_in (slot_at (state_of s).table i).assembly (slot_at (state_of s).table i).queue k ≤ j → get_or s.room (i * width (state_of s).table + (k * place_of (state_of s).table + j)) 0 ≡ 0
room_rule_at r = room_rule (reached r)

-- ---- a slot whose connection has not begun holds no job, and its whole part of the room is zero; a Disconnected slot is as it was made, but for its holds

pub unbegun_empty_at : {s : EdgeState} → ReachedAt s → (i : ℕ) → i < (state_of s).table.n → begun (slot_at (state_of s).table i).state ≡ false → Empty (state_of s) i
unbegun_empty_at r = unbegun_empty (reached r)

pub free_fresh_at : {s : EdgeState} → ReachedAt s → (i : ℕ) → i < (state_of s).table.n → is_disconnected (slot_at (state_of s).table i).state ≡ true
    → slot_at (state_of s).table i ≡ fresh (slot_at (state_of s).table i).hold
free_fresh_at r = free-fresh (reached r)

-- ---- a slot that is given to a new connection was as it was made, and starts empty

module _ {s : EdgeState} (r : ReachedAt s) (a : Asked) (apart : Apart (out_window (call_in a)) (job_window (call_in a))) (o : InOctets a.entry) (i : ℕ) (h : i < (state_of s).table.n) where
  pub new_connection_at : is_disconnected (slot_at (state_of s).table i).state ≡ true → is_disconnected (slot_at (state_of (entered s a)).table i).state ≡ false
      → (slot_at (state_of s).table i ≡ fresh 0) × Empty (state_of (entered s a)) i
  new_connection_at e =
      subst (λ (x : State). is_disconnected (slot_at x.table i).state ≡ false → (slot_at (state_of s).table i ≡ fresh 0) × Empty x i) (sym (entered-state r a apart o))
      (new_connection (reached r) (call_in a) (entry_fits a.entry o) i h e)

  pub connection_begins_at : begun (slot_at (state_of s).table i).state ≡ false → begun (slot_at (state_of (entered s a)).table i).state ≡ true → Empty (state_of (entered s a)) i
  connection_begins_at e =
      subst (λ (x : State). begun (slot_at x.table i).state ≡ true → Empty x i) (sym (entered-state r a apart o)) (connection_begins (reached r) (call_in a) (entry_fits a.entry o) i h e)

plans : (t : Table) (j : ℕ) (x : Slot) (l : ℕ) (p : Result Framed Refusal) → answer_number (planned t j x l p).answer ≡ 0 → Answered (planned t j x l p)
unfolding planned
plans t j x l (Err r) e = if_cases (λ (o : Outcome). answer_number o.answer ≡ 0 → Answered o) (blocks r) (λ _ q. none q) (λ _ q. none q) e
  where
    none : {o : Outcome} → answer_number (Refused r) ≡ 0 → Answered o
    none q = absurd (eqb-false _ 0 (refused_not_0 r) q)
plans t j x l (Ok framed) e = record { link = x.link; count = framed.n; is = refl; first = refl }

pub send-answered : (s : State) (j : ℕ) (sdu : List ℕ) (w : Window) → answer_number (outcome s (sends j sdu w)).answer ≡ 0 → Answered (outcome s (sends j sdu w))
unfolding decide bare jobs send
send-answered s j sdu w = gate_cases P s.table _ _ _ _ (λ r. refused r) (λ _. if_cases P _ (λ _. refused _) (λ _. if_cases P _ (λ _. refused _) (λ _. plans s.table j (slot_at s.table j) _ _)))
  where
    P : Outcome → Type 0
    P o = answer_number o.answer ≡ 0 → Answered o

    refused : (r : Refusal) → P (refuse s.table r)
    refused r e = absurd (eqb-false _ 0 (refused_not_0 r) e)

-- from the table that its octets say
pub number_at : {s : EdgeState} → ReachedAt s → (a : Asked) → (edge_of s a).number ≡ answer_number (outcome (state_of s) (call_in a)).answer
number_at {s} r a = ap (λ (x : EdgeState). (edge_of x a).number) (spelling r) ∙ number_is (state_of s) (sized-at r) a

pub answer_at : {s : EdgeState} → ReachedAt s → (a : Asked) → (edge_of s a).answer ≡ sets a.answer 0 (answer_octets (served_of (outcome (state_of s) (call_in a))))
answer_at {s} r a = ap (λ (x : EdgeState). (edge_of x a).answer) (spelling r) ∙ answer-is (state_of s) (sized-at r) a

out_at : {s : EdgeState} → ReachedAt s → (a : Asked) → (edge_of s a).out ≡ sets (lent (out_window (call_in a)) s.memory) (outcome (state_of s) (call_in a)).at (fills itself (jobs (state_of s).table (call_in a)) s.room (outcome (state_of s) (call_in a)).out)
out_at {s} r a = ap (λ (x : EdgeState). (edge_of x a).out) (spelling r) ∙ out-is (state_of s) (sized-at r) a ∙ out_written (state_of s) (call_in a)

job-at : {s : EdgeState} → ReachedAt s → (a : Asked) → (edge_of s a).job ≡ sets (lent (job_window (call_in a)) s.memory) 0 (fills itself (jobs (state_of s).table (call_in a)) s.room (outcome (state_of s) (call_in a)).job)
job-at {s} r a = ap (λ (x : EdgeState). (edge_of x a).job) (spelling r) ∙ job_is (state_of s) (sized-at r) a ∙ job-written (state_of s) (call_in a)

-- so no entry returns 20
pub never_20_at : {s : EdgeState} → ReachedAt s → (a : Asked) → InOctets a.entry → (edge_of s a).number ≡ 20 → ⊥
never_20_at r a o e = never_20 (reached r) (call_in a) (entry_fits a.entry o) (sym (number_at r a) ∙ e)

pub send-writes : {s : EdgeState} → ReachedAt s → (w : Window) (j : ℕ) (sdu answer : List ℕ) → (edge_of s (sending w j sdu answer)).number ≡ 0
    → (edge_of s (sending w j sdu answer)).out ≡ sets (lent w s.memory) 0 (frames_of (slot_in s j).peer.cid (slot_in s j).peer.mps sdu)
unfolding jobs
send-writes {s} r w j sdu answer e =
    let a = send-answered (state_of s) j sdu w (sym (number_at r (sending w j sdu answer)) ∙ e) in
    out_at r (sending w j sdu answer) ∙ ap (λ (k : ℕ). sets (lent w s.memory) k (fills itself sdu s.room (outcome (state_of s) (sends j sdu w)).out)) a.first ∙ ap (sets (lent w s.memory) 0) (sends_frames (state_of s) j sdu w a.link a.count a.is).octets

arrives : {i link : ℕ} {ps : List (List ℕ)} {s s' : EdgeState} → ArrivesAt i link ps s s' → ReachedAt s → Arrives i link ps (state_of s) (state_of s')
arrives all r = Rejoin.all
arrives {i} {link} {ps} {s} {s'} (between a h o u v) r =
    let e = entered-state r a h o in
    Rejoin.between (call_in a) (entry_fits a.entry o) (subst (λ (x : State). Unchanged (state_of s) x i) e u) (subst (λ (x : State). Arrives i link ps x (state_of s')) e (arrives v (next a r h o)))
arrives {i} {link} {s' = s'} (comes {ps = ps} p answer v) r =
    let h : Apart (out_window (call_in (framing link i p answer))) (job_window (call_in (framing link i p answer))) = inl (omega arith) in
    Rejoin.comes p (subst (λ (x : State). Arrives i link ps x (state_of s')) (entered-state r (framing link i p answer) h tt) (arrives v (next (framing link i p answer) r h tt)))

-- An l2cap_send returned 0, in any run. The receiver, in a run of its own, is Connected and idle with a credit for each frame, a free queue place, MTU ≥ L and an MPS
-- that no frame's payload passes; the frames' payloads come in order on their own link. Then the job waits there, whole, behind those that waited before, which are unchanged.
pub exact_rejoining_at : {sender : EdgeState} → ReachedAt sender → (w : Window) (j : ℕ) (sdu answer : List ℕ) → (edge_of sender (sending w j sdu answer)).number ≡ 0
    → {s s' : EdgeState} → ReachedAt s → (i link : ℕ) → link ≤ handle_most → Receiver (state_of s) i link (length (payloads (slot_in sender j).peer.mps sdu))
    → (slot_in s i).assembly.want ≡ 0 → length sdu ≤ (slot_in s i).mtu → AllWithin (slot_in s i).mps (payloads (slot_in sender j).peer.mps sdu) → ArrivesAt i link (payloads (slot_in sender j).peer.mps sdu) s s'
    → Rejoined (state_of s') i sdu (slot_in s i).queue.count (job_at (state_of s) i)
exact_rejoining_at {sender} q w j sdu answer e {s} r i link handle v z m b arrived =
    let a = send-answered (state_of sender) j sdu w (sym (number_at q (sending w j sdu answer)) ∙ e) in
    let f = sends_frames (state_of sender) j sdu w a.link a.count a.is in
    exact_rejoining (state_of sender) j sdu w a.link a.count a.is i link handle (reached r) (subst (λ (n : ℕ). Receiver (state_of s) i link n) f.count v) z m b (arrives arrived r)

-- what is handed out stands at the start of the buffer that holds it
stands : (buffer xs : List ℕ) → length xs ≤ length buffer → take (length xs) (sets buffer 0 xs) ≡ xs
stands buffer xs big = over_take (length xs) buffer xs (omega arith) ∙ ap (take (length xs)) (take_all (length buffer) xs big) ∙ take_all (length xs) xs (omega arith)

pub exact_taking_at : {s : EdgeState} → ReachedAt s → (i : ℕ) (sdu : List ℕ) (others : ℕ → List ℕ) → Rejoined (state_of s) i sdu 0 others → (w v : Window) (answer : List ℕ)
    → signal_most ≤ length (lent w s.memory) → length sdu ≤ length (lent v s.memory)
    → ((edge_of s (taking w v i answer)).number ≡ 0) × (take (length sdu) (edge_of s (taking w v i answer)).job ≡ sdu)
unfolding jobs
exact_taking_at {s} r i sdu others h w v answer l big =
    let a = taking w v i answer in
    let t = exact_taking (reached r) i sdu others h w v l big in
    (number_at r a ∙ ap answer_number t.1, ap (take (length sdu)) (job-at r a ∙ ap (sets (lent v s.memory) 0) t.0) ∙ stands (lent v s.memory) sdu big)

-- ---- the law of a take: an l2cap_receive that returns 0 where a job waits leaves the whole job at the start of its buffer, and the others one nearer

pub takes_whole_at : {s : EdgeState} → ReachedAt s → (i : ℕ) (w v : Window) (answer : List ℕ) → Apart w v → 0 < (slot_in s i).queue.count → (edge_of s (taking w v i answer)).number ≡ 0
    → (take (length (job_at (state_of s) i 0)) (edge_of s (taking w v i answer)).job ≡ job_at (state_of s) i 0)
    × ((slot_in (entered s (taking w v i answer)) i).queue.count ≡ (slot_in s i).queue.count - 1)
    × ((k : ℕ) → suc k < (slot_in s i).queue.count → job_at (state_of (entered s (taking w v i answer))) i k ≡ job_at (state_of s) i (suc k))
unfolding jobs
takes_whole_at {s} r i w v answer apart c e =
    let a = taking w v i answer in
    let t = takes_waiting (reached r) i w v c (sym (number_at r a) ∙ e) in
    let z = entered-state r a apart tt in (
      ap (take (length (job_at (state_of s) i 0))) (job-at r a ∙ ap (sets (lent v s.memory) 0) t.octets) ∙ stands (lent v s.memory) (job_at (state_of s) i 0) t.fits,
      ap (λ (x : State). (slot_at x.table i).queue.count) z ∙ t.count,
      (λ k l. ap (λ (x : State). job_at x i k) z ∙ t.others k l),
    )

-- Into a buffer that is too short nothing is taken: it returns 12, and table, room and memory are the octets that they were. It returns 12 nowhere else, and a buffer of the
-- slot's MTU never is too short.
pub short_refused_at : {s : EdgeState} → ReachedAt s → (i : ℕ) → i < (state_of s).table.n → begun (slot_in s i).state ≡ true → 0 < (slot_in s i).queue.count
    → (w v : Window) (answer : List ℕ) → Apart w v → signal_most ≤ length (lent w s.memory) → length (lent v s.memory) < length (job_at (state_of s) i 0)
    → ((edge_of s (taking w v i answer)).number ≡ 12) × (entered s (taking w v i answer) ≡ s)
short_refused_at {s} r i h b c w v answer apart l f =
    let a = taking w v i answer in
    let t = short-refused (reached r) i h b c w v l f in
    (number_at r a ∙ ap answer_number t.0, spelling (next a r apart tt) ∙ ap spelled (entered-state r a apart tt ∙ t.1) ∙ sym (spelling r))

pub short_only_at : {s : EdgeState} → ReachedAt s → (i : ℕ) (w v : Window) (answer : List ℕ) → (edge_of s (taking w v i answer)).number ≡ 12
    → (i < (state_of s).table.n) × (0 < (slot_in s i).queue.count) × (length (lent v s.memory) < length (job_at (state_of s) i 0))
short_only_at r i w v answer e = short-only (reached r) i w v (sym (number_at r (taking w v i answer)) ∙ e)

pub mtu_suffices_at : {s : EdgeState} → ReachedAt s → (i : ℕ) (w v : Window) (answer : List ℕ) → (slot_in s i).mtu ≤ length (lent v s.memory) → (edge_of s (taking w v i answer)).number ≡ 12 → ⊥
mtu_suffices_at r i w v answer m e = mtu_suffices (reached r) i w v m (sym (number_at r (taking w v i answer)) ∙ e)

hands_out : {i n : ℕ} {s s' : EdgeState} → HandsOutAt i n s s' → ReachedAt s → Handing i n s s'
hands_out all r = record { out = Taking.all; reached = r }
hands_out {i} {n} {s} {s'} (between a h o u v) r =
    let e = entered-state r a h o in
    let z = hands_out v (next a r h o) in
    record {
      out = Taking.between (call_in a) (entry_fits a.entry o) (subst (λ (x : State). (slot_in s i).queue.count ≤ (slot_at x.table i).queue.count) e u) (subst (λ (x : State). HandsOut i n x (state_of s')) e z.out);
      reached = z.reached;
    }
hands_out {i} {s = s} {s'} (handed {n} w v answer h e q) r =
    let a = taking w v i answer in
    let z = hands_out q (next a r h tt) in
    record { out = Taking.handed w v (sym (number_at r a) ∙ e) (subst (λ (x : State). HandsOut i n x (state_of s')) (entered-state r a h tt) z.out); reached = z.reached }

arrived : {i link : ℕ} {ps : List (List ℕ)} {s s' : EdgeState} → ArrivesAt i link ps s s' → ReachedAt s → ReachedAt s'
arrived all r = r
arrived (between a h o u v) r = arrived v (next a r h o)
arrived {i} {link} (comes p answer v) r = arrived v (next (framing link i p answer) r (inl (omega arith)) tt)

-- An l2cap_send returned 0, its frames came to a receiver, as above, the jobs that waited there before it are taken, and by no other entry do fewer jobs wait there. Then an
-- l2cap_receive that returns 0 leaves the SDU at the start of its buffer.
pub sent_comes_out_at : {sender : EdgeState} → ReachedAt sender → (x : Window) (j : ℕ) (sdu answer : List ℕ) → (edge_of sender (sending x j sdu answer)).number ≡ 0
    → {s s' s'' : EdgeState} → ReachedAt s → (i link : ℕ) → link ≤ handle_most → Receiver (state_of s) i link (length (payloads (slot_in sender j).peer.mps sdu))
    → (slot_in s i).assembly.want ≡ 0 → length sdu ≤ (slot_in s i).mtu → AllWithin (slot_in s i).mps (payloads (slot_in sender j).peer.mps sdu) → ArrivesAt i link (payloads (slot_in sender j).peer.mps sdu) s s'
    → HandsOutAt i (slot_in s i).queue.count s' s''
    → (w v : Window) (answer' : List ℕ) → (edge_of s'' (taking w v i answer')).number ≡ 0 → take (length sdu) (edge_of s'' (taking w v i answer')).job ≡ sdu
unfolding jobs
sent_comes_out_at {sender} q x j sdu answer e {s} {s'' = s''} r i link handle k z m b came out w v answer' f =
    let a = send-answered (state_of sender) j sdu x (sym (number_at q (sending x j sdu answer)) ∙ e) in
    let n = (sends_frames (state_of sender) j sdu x a.link a.count a.is).count in
    let o = hands_out out (arrived came r) in
    let c = taking w v i answer' in
    let y = sent_comes_out (state_of sender) j sdu x a.link a.count a.is i link handle (reached r) (subst (λ (n : ℕ). Receiver (state_of s) i link n) n k) z m b (arrives came r)
    o.out w v (sym (number_at o.reached c) ∙ f) in
    ap (take (length sdu)) (job-at o.reached c ∙ ap (sets (lent v s''.memory) 0) y.0) ∙ stands (lent v s''.memory) sdu y.2
