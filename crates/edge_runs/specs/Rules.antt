-- The rules of every run, at the octets: what a run of entries from a making that returns 0 reaches is a state that a run of the definition reaches, spelled
-- (`reached`); so the room rule, the fresh-slot rule, exact rejoining and the law of a take hold of its octets. `state_of` reads the table from its octets.
use Rattle.std.specs.Prelude.{◌≡◌, List, [], ◌∷◌, ℕ, suc, ◌≤◌}
use Rattle.channel.specs.declared.Answer.TheVariants.{Frames}
use Rattle.channel.specs.declared.Slot.{Slot}
use Rattle.definition.specs.Table.{slot_at, cid_of}
use Rattle.definition.specs.Outcome.{Outcome}
use Rattle.definition.specs.Calls.{Window}
use Rattle.definition.specs.Frames.{send}
use Rattle.definition.specs.Run.{State, out_window, job_window}
use Rattle.edge_layout.specs.Back.{Sized}
use Rattle.rules.specs.Run.{Reached}
use Rattle.rules_jobs.specs.Rejoin.{Unchanged}
use Rattle.rules_jobs.specs.Taking.{HandsOut}
use Rattle.edge_asking.specs.Asking.{make_edge}
use Rattle.edge_runs.specs.Entries as Entries
use Rattle.edge_runs.specs.Run.{EdgeState, state_of, Asked, call_in, edge_of, entered, Apart, InOctets, started}
use Rattle.edge_runs.specs.Lift.{spelled}

-- ---- what runs of entries reach

pub data ReachedAt : EdgeState → Type 0 where
  start : (table answer room : List ℕ) (n d m : ℕ) (memory : List ℕ) → (make_edge table answer room n d m).number ≡ 0 → ReachedAt (started table answer room n d m memory)
  next : {s : EdgeState} (a : Asked) → ReachedAt s → Apart (out_window (call_in a)) (job_window (call_in a)) → InOctets a.entry → ReachedAt (entered s a)

pub record Spells (s : EdgeState) : Type 0 where
  pub state : State
  pub is : s ≡ spelled state
  pub sized : Sized state.table
  pub reached : Reached state

-- ---- exact rejoining, the sending side: an l2cap_send that returns 0 writes the frames of its SDU, for the peer's MPS, to the start of its output

-- what a send answers that is not refused
pub record Answered (o : Outcome) : Type 0 where
  pub link : ℕ
  pub count : ℕ
  pub is : o.answer ≡ Frames link count
  pub first : o.at ≡ 0

abbrev pub slot_in : EdgeState → ℕ → Slot
slot_in s i = slot_at (state_of s).table i

abbrev pub sending : (w : Window) (slot : ℕ) (sdu answer : List ℕ) → Asked
sending w slot sdu answer = record { entry = Entries.send w slot sdu; answer = answer }

-- ---- the receiving side

abbrev pub framing : (link i : ℕ) (payload answer : List ℕ) → Asked
framing link i payload answer = record { entry = Entries.dispatch link (cid_of i) payload; answer = answer }

-- From s to s' these payloads come, in this order, to slot i on its link, each by an l2cap_dispatch; and other entries, that leave the slot and its part
-- of the room unchanged.
pub data ArrivesAt (i link : ℕ) : List (List ℕ) → EdgeState → EdgeState → Type 0 where
  all : {s : EdgeState} → ArrivesAt i link [] s s
  between : {ps : List (List ℕ)} {s s' : EdgeState} (a : Asked) → Apart (out_window (call_in a)) (job_window (call_in a)) → InOctets a.entry → Unchanged (state_of s) (state_of (entered s a)) i → ArrivesAt i link ps (entered s a) s'
      → ArrivesAt i link ps s s'
  comes : {ps : List (List ℕ)} {s s' : EdgeState} (p answer : List ℕ) → ArrivesAt i link ps (entered s (framing link i p answer)) s' → ArrivesAt i link (p ∷ ps) s s'

-- Where no job waited before it, the next l2cap_receive whose buffer holds it returns 0 and hands out the SDU: it stands at the start of the job buffer.
abbrev pub taking : (w v : Window) (slot : ℕ) (answer : List ℕ) → Asked
taking w v slot answer = record { entry = Entries.receive w v slot; answer = answer }

-- ---- what was sent is what comes out

-- From s to s' there are n calls of l2cap_receive on slot i that return 0; and other entries, whatever they do, after which no fewer jobs wait there.
pub data HandsOutAt (i : ℕ) : ℕ → EdgeState → EdgeState → Type 0 where
  all : {s : EdgeState} → HandsOutAt i 0 s s
  between : {n : ℕ} {s s' : EdgeState} (a : Asked) → Apart (out_window (call_in a)) (job_window (call_in a)) → InOctets a.entry → (slot_in s i).queue.count ≤ (slot_in (entered s a) i).queue.count → HandsOutAt i n (entered s a) s'
      → HandsOutAt i n s s'
  handed : {n : ℕ} {s s' : EdgeState} (w v : Window) (answer : List ℕ) → Apart w v → (edge_of s (taking w v i answer)).number ≡ 0 → HandsOutAt i n (entered s (taking w v i answer)) s' → HandsOutAt i (suc n) s s'

-- (the run goes on)
pub record Handing (i n : ℕ) (s s' : EdgeState) : Type 0 where
  pub out : HandsOut i n (state_of s) (state_of s')
  pub reached : ReachedAt s'
