-- What the statement gives for the worked run (Example.antt), read off octet by octet: from the statement itself, whatever its proof. What the first run's
-- entries leave is computed; of the second run only the statement speaks. So a statement that says less of these runs is refused here.
use Rattle.signal_write.specs.Writer.{encode_of}
use Rattle.std.specs.Prelude.{◌≡◌, refl, false, List, [], ◌∷◌, map, ℕ, zero, suc, ◌<◌, replicate, take, get_or}
use Rattle.std.proofs.Math.Path.{sym, ap}
use Rattle.std.proofs.Common.{◌∙◌, subst}
use native.Mathlib.Omega.{arith}
use Rattle.lists.specs.Choose.{choose}
use Rattle.lists.specs.First.{first}
use Rattle.lists.specs.Every.{every}
use Rattle.lists.specs.Fuel.{whole}
use Rattle.credit.specs.Account.{due, grant_of}
use Rattle.sar_cut.specs.Cutting.{ceil, frame_count, frames_length, plan_send}
use Rattle.sar_join.specs.Joining.{reached, first_step, assembled, join_step}
use Rattle.signal_headers.specs.Headers.{headers_of}
use Rattle.signal_bodies.specs.LeCreditBodies.{le_credit_conn_req}
use Rattle.definition.specs.Mem.{fill, size, sizes, move, moves, parts, fills, written}
use Rattle.definition.specs.Table.{slot_fits, well_formed}
use Rattle.definition.specs.Outcome.{only, verdict}
use Rattle.definition.specs.Pending.{next_pending, accept_pending}
use Rattle.definition.specs.Closing.{dec_ref, disconnecting, disconnect, disconnected, next_disconnect}
use Rattle.definition.specs.Signals.{on_conn_req, handled, checked, signalled}
use Rattle.definition.specs.Frames.{joined, dispatch, later_frames, frames, planned, send, grant_in, taken, receive}
use Rattle.definition.specs.Asking.{make, register_spsm}
use Rattle.definition.specs.Calls.{Call, frame, sends, portions, down, plain, bare, serve, decide}
use Rattle.definition.specs.Calls as Calls
use Rattle.definition.specs.Run.{State, after, run, outcomes}
use Rattle.definition.specs.Example.{start}
use Rattle.edge_answer.specs.Answers.{answer_octets}
use Rattle.isolation.specs.Statement.{over_after, marked, marks_from, marks_of, handed}
use Rattle.edge.specs.Edge.{Edge, setting_of, policy_by}
use Rattle.edge_sized.specs.Said.{is_send}
use Rattle.edge_runs.specs.Run.{EdgeState, state_of, Asked, call_in, edge_of, entered, entries, Told, signal_in, told_by, told}
use Rattle.edge_runs.specs.Lift.{spelled}
use Rattle.edge_runs.proofs.Lift.{entries-spelled}
use Rattle.edge_runs.specs.Start.{Start}
use Rattle.edge_runs.proofs.Start.{starting}
use Rattle.edge_runs.specs.Telling.{tellings}
use Rattle.edge_runs.proofs.Telling.{told-spelled}
use Rattle.edge_runs.specs.Statement.{IsolatedAt, Never1Nor2, Undistinguished, Demand3AtEntries}
use Rattle.edge_runs.proofs.Isolation.{state_back, apart-take}
use Rattle.edge_runs.specs.Example.{channel, begun}
use Rattle.edge_runs.proofs.Example.{apart, octets, made_well, both_alike}
use Rattle.edge_runs.specs.Reading.{answer, each, number, signal, table}

each-told : {A : Type 0} (g : Told → A) (f : Asked → Edge → A) → ((a : Asked) (x : Edge) → g (told_by a x) ≡ f a x) → (s : EdgeState) (es : List Asked) → map g (told s es) ≡ each f s es
unfolding told each
each-told g f h s [] = refl
each-told g f h s (a ∷ es) = rw (h a (edge_of s a), each-told g f h (entered s a) es) refl

signal-told : (c : Call) (xs : List ℕ) → signal_in c xs ≡ choose (is_send c) [] xs
unfolding choose
signal-told (frame link cid payload) xs = refl
signal-told (sends slot sdu out) xs = refl
signal-told (portions slot octets out) xs = refl
signal-told (down link) xs = refl
signal-told (plain r out job) xs = refl

-- no entry's number is 1 or 2, whichever entry it is
never_at : (s : EdgeState) (es : List Asked) → Never1Nor2 (told s es) → (i : ℕ) → (get_or (each number s es) i 0 ≡ 1 → ⊥) × (get_or (each number s es) i 0 ≡ 2 → ⊥)
unfolding told each
never_at s [] h i = ((λ e. omega arith), (λ e. omega arith))
never_at s (a ∷ es) h zero = h.0
never_at s (a ∷ es) h (suc i) = never_at (entered s a) es h.1 i

-- ---- the two runs: link 1's octets are a to e in the one, a' to e' in the other

module _ (demand : Demand3AtEntries) (id a b c x y e a' b' c' x' y' e' : ℕ) where
  abbrev es : List Asked
  es = channel id a b c x y e

  abbrev fs : List Asked
  fs = channel id a' b' c' x' y' e'

  abbrev one : ℕ → EdgeState
  one i = entries (begun 5) (take i es)

  abbrev two : ℕ → EdgeState
  two i = entries (begun 6) (take i fs)

  both : Undistinguished 1 0 (begun 5) (begun 6) es fs
  both =
      demand 1 0 2 1 29 (replicate 1312 5) (replicate 1312 6) [] [] (replicate 92 5) (replicate 92 6) (replicate 30 9) es fs (made_well 5) (made_well 6) (apart id a b c x y e)
      (both_alike id a b c x y e a' b' c' x' y' e')

  -- what the entries leave is equal, by any word for it that what is told bears out; and it is what the definition's run says of the first run
  equal : {A : Type 0} (g : Told → A) (f : Asked → Edge → A) → ((a : Asked) (x : Edge) → g (told_by a x) ≡ f a x) → each f (begun 5) es ≡ each f (begun 6) fs
  equal g f h = sym (each-told g f h (begun 5) es) ∙ ap (map g) both.tells ∙ each-told g f h (begun 6) fs

  begins : Start 2 1 29 (replicate 92 5) (replicate 30 9) (begun 5)
  begins = starting (replicate 1312 5) [] (replicate 92 5) 2 1 29 (replicate 30 9) (made_well 5)

  second : {A : Type 0} (g : Told → A) (f : Asked → Edge → A) → ((a : Asked) (x : Edge) → g (told_by a x) ≡ f a x)
      → each f (begun 6) fs ≡ map g (tellings (replicate 30 9) es (outcomes start (map call_in es)) (handed 1 start (map call_in es)))
  second g f h =
      sym (each-told g f h (begun 6) fs)
      ∙ ap (map g) (sym both.tells ∙ ap (λ (s : EdgeState). told s es) begins.is ∙ told-spelled 1 start begins.sized es (apart id a b c x y e) (replicate 30 9) refl)

  record Heard : Type 0 where
    numbers : each number (begun 6) fs ≡ replicate 13 0
    answers : each answer (begun 5) es ≡ each answer (begun 6) fs
    tables : each table (begun 5) es ≡ each table (begun 6) fs
    -- our response, the grant that the take writes, and our disconnect request
    signals : each signal (begun 6) fs
        ≡ [] ∷ [] ∷ []
        ∷ (14 ∷ 0 ∷ 5 ∷ 0 ∷ 0x15 ∷ id ∷ 10 ∷ 0 ∷ 0x40 ∷ 0 ∷ 23 ∷ 0 ∷ 25 ∷ 0 ∷ 5 ∷ 0 ∷ 0 ∷ 0 ∷ [])
        ∷ [] ∷ []
        ∷ (8 ∷ 0 ∷ 5 ∷ 0 ∷ 0x16 ∷ 1 ∷ 4 ∷ 0 ∷ 0x40 ∷ 0 ∷ 2 ∷ 0 ∷ [])
        ∷ [] ∷ [] ∷ []
        ∷ (8 ∷ 0 ∷ 5 ∷ 0 ∷ 0x06 ∷ 2 ∷ 4 ∷ 0 ∷ 0x50 ∷ 0 ∷ 0x40 ∷ 0 ∷ [])
        ∷ [] ∷ [] ∷ []
    never : id < 256 → (i : ℕ) → (get_or (each number (begun 5) es) i 0 ≡ 1 → ⊥) × (get_or (each number (begun 5) es) i 0 ≡ 2 → ⊥)

  heard : Heard
  unfolding tellings outcomes handed size sizes answer_octets setting_of policy_by encode_of after decide serve register_spsm signalled checked headers_of whole handled on_conn_req le_credit_conn_req next_pending accept_pending dispatch joined join_step first_step reached assembled receive taken grant_in grant_of due send planned plan_send frame_count ceil frames_length frames later_frames disconnect disconnecting next_disconnect disconnected dec_ref Calls.jobs bare verdict well_formed slot_fits every first only choose make parts moves move fill fills written
  heard =
      record {
        numbers = second (λ x. x.number) number (λ a x. refl);
        answers = equal (λ x. x.answer) answer (λ a x. refl);
        tables = equal (λ x. x.table) table (λ a x. refl);
        signals = second (λ x. x.signal) signal (λ a x. signal-told (call_in a) _);
        never = λ h. never_at (begun 5) es (both.never (octets id a b c x y e h));
      }

  -- what stands after i entries: its marks are those of the definition's run, and so is the first run
  stands_at : (i : ℕ) → IsolatedAt 1 0 (marks_of 1 0 start (map call_in (take i es))) (one i) (two i)
  stands_at i =
      subst (λ (s : State). IsolatedAt 1 0 (marks_of 1 0 s (map call_in (take i es))) (one i) (two i)) (ap state_of begins.is ∙ state_back start begins.sized) (both.leaves i)

  first-at : (i : ℕ) → one i ≡ spelled (run start (map call_in (take i es)))
  first-at i = ap (λ (s : EdgeState). entries s (take i es)) begins.is ∙ entries-spelled start begins.sized (take i es) (apart-take i es (apart id a b c x y e))

  room_at : (i n : ℕ) → get_or (marks_of 1 0 start (map call_in (take i es))).room n false ≡ false → get_or (two i).room n 0 ≡ get_or (run start (map call_in (take i es))).room n 0
  room_at i n e = sym ((stands_at i).isolated.places n e) ∙ ap (λ (s : EdgeState). get_or s.room n 0) (first-at i)

  memory_at : (i n : ℕ) → get_or (marks_of 1 0 start (map call_in (take i es))).memory n false ≡ false → get_or (two i).memory n 0 ≡ get_or (run start (map call_in (take i es))).memory n 0
  memory_at i n e = sym ((stands_at i).isolated.memory n e) ∙ ap (λ (s : EdgeState). get_or s.memory n 0) (first-at i)

  record Stands : Type 0 where
    table-after : (i : ℕ) → (one i).table ≡ (two i).table
    -- before link 1's first frame: an octet of its assembly place, and one of the buffer that its job will be taken to
    fresh : get_or (two 4).room 0 0 ≡ 0
    unused : get_or (two 4).memory 18 0 ≡ 9
    -- behind its half job; slot 1; the octet behind the job that was taken, and the credits that are granted; the length in the frame that was sent
    half : get_or (two 5).room 2 0 ≡ 0
    slot_1 : get_or (two 6).room 46 0 ≡ 0
    beside : get_or (two 7).memory 21 0 ≡ 9
    grant : get_or (two 7).memory 10 0 ≡ 2
    header : get_or (two 8).memory 26 0 ≡ 2
    -- the whole room, at once when its link-down has answered
    room : (two 12).room ≡ replicate 92 0

  stands : Stands
  unfolding run marks_from marked over_after setting_of policy_by encode_of after decide serve register_spsm signalled checked headers_of whole handled on_conn_req le_credit_conn_req next_pending accept_pending dispatch joined join_step first_step reached assembled receive taken grant_in grant_of due send planned plan_send frame_count ceil frames_length frames later_frames disconnect disconnecting next_disconnect disconnected dec_ref Calls.jobs bare verdict well_formed slot_fits every first only choose make parts moves move fill fills written
  stands =
      record {
        table-after = λ i. (stands_at i).table;
        fresh = room_at 4 0 refl;
        unused = memory_at 4 18 refl;
        half = room_at 5 2 refl;
        slot_1 = room_at 6 46 refl;
        beside = memory_at 7 21 refl;
        grant = memory_at 7 10 refl;
        header = memory_at 8 26 refl;
        room = sym ((stands_at 12).isolated.down (let lt : 0 < 1 = omega arith in lt)) ∙ ap (λ (s : EdgeState). s.room) (first-at 12);
      }
