-- A run of the entries is the definition's run, spelled. On octets that spell a table (Sized), an entry leaves what its call leaves: one law, `spelled-edge`,
-- cited once for each entry. From it, that after each entry table, room and memory are those of the definition's run (`entered-spelled`, `entries-spelled`),
-- and that what is told is what the outcomes say (`told-spelled`).
use Rattle.std.specs.Prelude.{◌≡◌, Bool, length, take, drop, get_or}
use Rattle.std.proofs.Math.Path.{refl, ap}
use Rattle.std.proofs.Common.{sym, ◌∙◌, inl, inr, arith, le-ltb, length-drop, get_or-take, get_or-drop, ext_get_or}
use Rattle.std.proofs.Math.Bool.{true, false}
use mathlib.Core.List.{List, [], ◌∷◌, map}
use Prim.Native.Nat.{ℕ, ◌+◌, ◌≤◌, ◌<◌, min}
use Rattle.std.proofs.Math.ListN.{length-take}
use Rattle.std.proofs.lemmas.List.Edits.{sets}
use Rattle.std.proofs.Math.Seq.{length-sets}
use Rattle.lists.specs.Choose.{choose, choose_false}
use Rattle.octets.specs.Sets.{sets-out, sets-before, sets-after, sets-whole}
use Rattle.channel.specs.declared.Answer.TheVariants as Answer
use Rattle.channel.specs.declared.Table.{Table}
use Rattle.definition.specs.Mem.{fills, written}
use Rattle.definition.specs.Outcome.{Outcome}
use Rattle.definition.specs.Calls.{Window, Call, plain, Request, register, pends, holds, attends, asks, jobs, bare, serve, decide}
use Rattle.definition.specs.Ending.{itself, served_of, End, end, end_of}
use Rattle.definition.specs.Numbers.{answer_number}
use Rattle.definition.specs.Run.{State, lent, nowhere, out_window, job_window, outcome, after, run}
use Rattle.definition.specs.Roomless.{roomless_request, roomless, Roomless}
use Rattle.definition.proofs.Roomless.{roomless_call}
use Rattle.definition.proofs.Lift.{call_after, roomless-end}
use Rattle.edge_layout.specs.declared.Decoded.{Decoded}
use Rattle.edge_layout.specs.Layout.{spell, table_octets}
use Rattle.edge_layout.specs.Layout as Layout
use Rattle.edge_layout.proofs.Columns.{spell-length}
use Rattle.edge_layout.specs.Back.{Sized}
use Rattle.edge_layout.proofs.Back.{read_back}
use Rattle.edge_answer.specs.Answers.{answer_octets}
use Rattle.edge.specs.Edge.{Edge, edge, on_table, lifted, alone, flag}
use Rattle.edge_sized.proofs.Sized.{after-sized}
use Rattle.edge_runs.specs.Entries.{Entry, register_spsm, spsm, mtu, mps, peer_mtu, peer_mps, tally_sent, tally_received, tally_blocked_sends, tally_blocked_receives, attention, send_conn_param_update_req, send_conn_param_update_res, next_pending, accept_pending, reject_pending, reject_all_pending, drop_pending, create, opened, give_up, inc_ref, dec_ref, disconnect, disconnect_by_cid, disconnected, next_disconnect, signal, dispatch, send, start_job, give_portion, cancel_job, receive, own, leaves, call_of}
use Rattle.edge_runs.specs.Run.{EdgeState, Asked, call_in, edge_of, entered, Apart, BuffersApart, entries}
use Rattle.edge_runs.specs.Lift.{end_in, spelled}

module _ {t : Table} (w : Sized t) (a : List ℕ) where
  on_spelled : (f : Table → End) → on_table (spell t) a f ≡ lifted true (spell t) a (f t)
  unfolding on_table
  on_spelled f = ap (λ (d : Decoded). lifted d.ok (spell t) a (f d.table)) (read_back t w)

  -- a call that is lent nothing else
  alone-end : (o : Outcome) → Roomless t o → alone (served_of o) ≡ end_of t [] [] [] [] o
  unfolding end_of written
  alone-end o p = rw (p.room [] [], sets-out {A = ℕ} [] o.at (fills itself [] [] o.out) (omega arith), sets-out {A = ℕ} [] 0 (fills itself [] [] o.job) (omega arith)) refl

  on_alone : (r : Request) → roomless_request r ≡ true → on_table (spell t) a (λ x. alone (served_of (serve x r 0 0 0))) ≡ lifted true (spell t) a (end_of t [] [] [] [] (serve t r 0 0 0))
  unfolding decide bare
  on_alone r e = on_spelled (λ x. alone (served_of (serve x r 0 0 0))) ∙ ap (lifted true (spell t) a) (alone-end (serve t r 0 0 0) (roomless_call t (plain r nowhere nowhere) e 0 0 0 0))

module _ (s : State) (w : Sized s.table) (a : List ℕ) where
  pub spelled-edge : (e : Entry) → leaves (spell s.table) a s.room s.memory e ≡ lifted true (spell s.table) a (end_in s (call_of e))
  unfolding leaves decide bare serve jobs choose
  spelled-edge (register_spsm number) = on_alone w a (register number) refl
  spelled-edge (spsm slot) = on_alone w a (asks (λ x. x.spsm) slot) refl
  spelled-edge (mtu slot) = on_alone w a (asks (λ x. x.mtu) slot) refl
  spelled-edge (mps slot) = on_alone w a (asks (λ x. x.mps) slot) refl
  spelled-edge (peer_mtu slot) = on_alone w a (asks (λ x. x.peer.mtu) slot) refl
  spelled-edge (peer_mps slot) = on_alone w a (asks (λ x. x.peer.mps) slot) refl
  spelled-edge (tally_sent slot) = on_alone w a (asks (λ x. x.tallies.sends.frames) slot) refl
  spelled-edge (tally_received slot) = on_alone w a (asks (λ x. x.tallies.receives.frames) slot) refl
  spelled-edge (tally_blocked_sends slot) = on_alone w a (asks (λ x. x.tallies.sends.blocked) slot) refl
  spelled-edge (tally_blocked_receives slot) = on_alone w a (asks (λ x. x.tallies.receives.blocked) slot) refl
  spelled-edge attention = on_alone w a attends refl
  spelled-edge (send_conn_param_update_req v link min max latency timeout) = on_spelled w a _
  spelled-edge (send_conn_param_update_res v link result) = on_spelled w a _
  spelled-edge (next_pending link up) = on_alone w a (pends link (flag up)) refl
  spelled-edge (accept_pending v slot ourMtu ourMps kind value credits) = on_spelled w a _
  spelled-edge (reject_pending v slot result) = on_spelled w a _
  spelled-edge (reject_all_pending v link) = on_spelled w a _
  spelled-edge (drop_pending slot) = on_spelled w a _
  spelled-edge (create v link number ourMtu ourMps kind value credits) = on_spelled w a _
  spelled-edge (opened slot link up) = on_spelled w a _
  spelled-edge (give_up slot) = on_spelled w a _
  spelled-edge (inc_ref slot) = on_alone w a (holds slot) refl
  spelled-edge (dec_ref slot) = on_spelled w a _
  spelled-edge (disconnect slot) = on_spelled w a _
  spelled-edge (disconnect_by_cid cid) = on_spelled w a _
  spelled-edge (disconnected link) = on_spelled w a _
  spelled-edge (next_disconnect v) = on_spelled w a _
  spelled-edge (signal v link listening central pdu) = on_spelled w a _
  spelled-edge (dispatch link cid payload) = on_spelled w a _
  spelled-edge (send v slot sdu) = on_spelled w a _
  spelled-edge (start_job v slot length) = on_spelled w a _
  spelled-edge (give_portion v slot octets) = on_spelled w a _
  spelled-edge (cancel_job slot) = on_spelled w a _
  spelled-edge (receive v u slot) = on_spelled w a _
  spelled-edge (own v octets) = on_spelled w a _

-- ---- buffers that are apart

-- what is written to one part of the memory leaves a part that is apart from it
lent-apart : (v w : Window) → Apart v w → (memory xs : List ℕ) → length xs ≤ w.size → lent v (sets memory w.from xs) ≡ lent v memory
lent-apart v w h memory xs l =
    let n : ℕ = v.size in
    let f : ℕ = v.from in
    let m : List ℕ = sets memory w.from xs in
    let e : length (take n (drop f m)) ≡ length (take n (drop f memory)) =
    length-take n (drop f m) ∙ omega (arith, length-drop f m, length-drop f memory, length-sets memory w.from xs, length-take n (drop f memory)) in
    ext_get_or 0 (take n (drop f m)) (take n (drop f memory)) e
    (λ i k. let lt : i < n = omega (arith, length-take n (drop f m)) in
    get_or-take n (drop f m) i 0 lt ∙ get_or-drop f m i 0 ∙ elsewhere h i lt ∙ sym (get_or-take n (drop f memory) i 0 lt ∙ get_or-drop f memory i 0))
  where
    elsewhere : Apart v w → (i : ℕ) → i < v.size → get_or (sets memory w.from xs) (v.from + i) 0 ≡ get_or memory (v.from + i) 0
    elsewhere (inl a) i lt = sets-before 0 memory w.from xs (v.from + i) (omega arith)
    elsewhere (inr b) i lt = sets-after 0 memory w.from xs (v.from + i) (omega arith)

-- ---- a table's octets, written over

pub written-full : (o : List ℕ) (u : Table) → length o ≡ table_octets → Sized u → Layout.written o u ≡ spell u
unfolding Layout.written
written-full o u e w = choose_false _ _ _ (le-ltb (length o) table_octets (omega arith)) ∙ sets-whole o (spell u) (e ∙ sym (spell-length u ∙ omega (arith, w.spsms)))

written-spelled : (t u : Table) → Sized t → Sized u → Layout.written (spell t) u ≡ spell u
written-spelled t u w x = written-full (spell t) u (spell-length t ∙ omega (arith, w.spsms)) x

-- ---- the end that a contract names, with the room that a run has

module _ (s : State) (c : Call) where
  abbrev pub ends : (room : List ℕ) → End
  ends room = end_of s.table (jobs s.table c) room (lent (out_window c) s.memory) (lent (job_window c) s.memory) (outcome s c)

  whole_by : (b : Bool) → roomless c ≡ b
      → end (served_of (outcome s c)) (choose b s.room (ends (choose b [] s.room)).room) (ends (choose b [] s.room)).out (ends (choose b [] s.room)).job ≡ ends s.room
  unfolding choose end_of
  whole_by false e = refl
  whole_by true e =
      let p : Roomless s.table (outcome s c) = roomless_call s.table c e _ _ _ _ in
      roomless-end s.table (outcome s c) p (jobs s.table c) s.room (lent (out_window c) s.memory) (lent (job_window c) s.memory) (served_of (outcome s c)) _ _
      (ap (λ (r : List ℕ). end (served_of (outcome s c)) r (ends []).out (ends []).job) (sym (p.room (jobs s.table c) [])))

  pub whole : end (served_of (outcome s c)) (choose (roomless c) s.room (end_in s c).room) (end_in s c).out (end_in s c).job ≡ ends s.room
  whole = whole_by (roomless c) refl

-- ---- one entry

module _ (s : State) (w : Sized s.table) (a : Asked) where
  abbrev pub c : Call
  c = call_in a

  abbrev pub o : Outcome
  o = outcome s c

  pub edge-is : edge_of (spelled s) a ≡ lifted true (spell s.table) a.answer (end_in s c)
  edge-is = spelled-edge s w a.answer a.entry

  tray-length : length (end_in s c).job ≤ (job_window c).size
  unfolding end_of written
  tray-length =
      omega (arith, length-sets (lent (job_window c) s.memory) 0 (fills itself (jobs s.table c) (choose (roomless c) [] s.room) o.job), length-take (job_window c).size (drop (job_window c).from s.memory))

  after_is : Sized o.table
  unfolding after
  after_is = after-sized s c w

  -- what it gives back, from its outcome
  pub number_is : (edge_of (spelled s) a).number ≡ answer_number o.answer
  unfolding lifted end_of
  number_is = ap (λ (x : Edge). x.number) edge-is

  pub answer-is : (edge_of (spelled s) a).answer ≡ sets a.answer 0 (answer_octets (served_of o))
  unfolding lifted end_of
  answer-is = ap (λ (x : Edge). x.answer) edge-is

  pub table_is : (edge_of (spelled s) a).table ≡ spell o.table
  unfolding lifted end_of choose
  table_is = ap (λ (x : Edge). x.table) edge-is ∙ written-spelled s.table o.table w after_is

  pub out-is : (edge_of (spelled s) a).out ≡ (end_in s c).out
  unfolding lifted
  out-is = ap (λ (x : Edge). x.out) edge-is

  pub job_is : (edge_of (spelled s) a).job ≡ (end_in s c).job
  unfolding lifted
  job_is = ap (λ (x : Edge). x.job) edge-is

  room-is : (edge_of (spelled s) a).room ≡ (end_in s c).room
  unfolding lifted
  room-is = ap (λ (x : Edge). x.room) edge-is

  -- It leaves the octets of what the call leaves.
  pub entered-spelled : Apart (out_window c) (job_window c) → entered (spelled s) a ≡ spelled (after s c)
  unfolding entered
  entered-spelled apart =
      let e = end_in s c in
      let next = call_after s c (served_of o) (choose (roomless c) s.room e.room) e.out e.job (whole s c)
      (lent-apart (out_window c) (job_window c) apart s.memory e.job tray-length) in
      rw (table_is, out-is, job_is, room-is, next) refl

-- What an entry's `ensures` says of the octets that it left (crate entries) is what stands next in a run of entries.
pub ensured : (s : EdgeState) (a : Asked) (number : ℕ) (table answer room out tray : List ℕ) → edge number table answer room out tray ≡ edge_of s a
    → entered s a
    ≡ record { table = table; room = choose (roomless (call_in a)) s.room room; memory = sets (sets s.memory (job_window (call_in a)).from tray) (out_window (call_in a)).from out }
unfolding entered
ensured s a number table answer room out tray h =
    ap (λ (x : Edge). record { table = x.table; room = choose (roomless (call_in a)) s.room x.room; memory = sets (sets s.memory (job_window (call_in a)).from x.job) (out_window (call_in a)).from x.out })
    (sym h)

-- ---- a run

-- After any number of entries, table, room and memory are those of the definition's run.
pub entries-spelled : (s : State) → Sized s.table → (es : List Asked) → BuffersApart es → entries (spelled s) es ≡ spelled (run s (map call_in es))
unfolding entries run
entries-spelled s w [] h = refl
entries-spelled s w (a ∷ es) h = ap (λ (x : EdgeState). entries x es) (entered-spelled s w a h.0) ∙ entries-spelled (after s (call_in a)) (after-sized s (call_in a) w) es h.1
