-- Runs of the entries: one after the other on the same octets of table and room, each with parts of the caller's memory as its buffers, and an answer
-- of its own. Table, room, memory and answers are lists apart, since what is lent to one call does not overlap; of a take's two buffers `Apart` says it.
use Rattle.std.specs.Prelude.{List, [], ◌∷◌, ℕ, ◌+◌, ◌*◌, ◌≤◌, ◌⊎◌, take}
use Rattle.std.proofs.lemmas.List.Edits.{sets}
use Rattle.lists.specs.Choose.{choose}
use Rattle.octets.specs.Octets.{u16_at}
use Rattle.definition.specs.Calls.{Window, Call, frame, sends, portions, down, plain}
use Rattle.definition.specs.Run.{State, out_window, job_window}
use Rattle.definition.specs.Roomless.{roomless}
use Rattle.edge_layout.specs.Layout.{read}
use Rattle.edge.specs.Edge.{Edge}
use Rattle.edge_asking.specs.Asking.{make_edge}
use Rattle.rules.specs.Run.{Octets}
use Rattle.edge_runs.specs.Entries.{Entry, register_spsm, spsm, mtu, mps, peer_mtu, peer_mps, tally_sent, tally_received, tally_blocked_sends, tally_blocked_receives, attention, send_conn_param_update_req, send_conn_param_update_res, next_pending, accept_pending, reject_pending, reject_all_pending, drop_pending, create, opened, give_up, inc_ref, dec_ref, disconnect, disconnect_by_cid, disconnected, next_disconnect, signal, dispatch, send, start_job, give_portion, cancel_job, receive, own, leaves, call_of}

-- What stands between two calls.
pub record EdgeState : Type 0 where
  pub table : List ℕ  -- its octets
  pub room : List ℕ
  pub memory : List ℕ  -- the caller's memory beside them

-- The same with the table that its octets spell, as the definition's runs have it.
abbrev pub state_of : EdgeState → State
state_of s = record { table = (read s.table).table; room = s.room; memory = s.memory }

-- An entry, and the answer's octets as they are lent to it. (A caller that uses that memory for something else later writes there itself: `own`.)
pub record Asked : Type 0 where
  pub entry : Entry
  pub answer : List ℕ

abbrev pub call_in : Asked → Call
call_in a = call_of a.entry

-- ---- one entry

abbrev pub edge_of : EdgeState → Asked → Edge
edge_of s a = leaves s.table a.answer s.room s.memory a.entry

-- What it leaves: a room that it was not lent stays; its buffers go back to where they were lent from.
unfoldable pub entered : EdgeState → Asked → EdgeState
entered s a =
    record {
      table = (edge_of s a).table;
      room = choose (roomless (call_in a)) s.room (edge_of s a).room;
      memory = sets (sets s.memory (job_window (call_in a)).from (edge_of s a).job) (out_window (call_in a)).from (edge_of s a).out;
    }

-- Two parts of the memory do not overlap.
abbrev pub Apart : Window → Window → Type 0
Apart v w = (v.from + v.size ≤ w.from) ⊎ (w.from + w.size ≤ v.from)

-- A take's signal buffer and job buffer. (No other entry is lent two, so that of any other this is true.)
abbrev pub BuffersApart : List Asked → Type 0
BuffersApart [] = Unit {0}
BuffersApart (a ∷ es) = Apart (out_window (call_in a)) (job_window (call_in a)) × BuffersApart es

-- A PDU that an entry is given is octets, as C's are. (Of all else that is given no such word is needed.)
abbrev pub InOctets : Entry → Type 0
InOctets (register_spsm number) = Unit {0}
InOctets (spsm slot) = Unit {0}
InOctets (mtu slot) = Unit {0}
InOctets (mps slot) = Unit {0}
InOctets (peer_mtu slot) = Unit {0}
InOctets (peer_mps slot) = Unit {0}
InOctets (tally_sent slot) = Unit {0}
InOctets (tally_received slot) = Unit {0}
InOctets (tally_blocked_sends slot) = Unit {0}
InOctets (tally_blocked_receives slot) = Unit {0}
InOctets attention = Unit {0}
InOctets (send_conn_param_update_req w link min max latency timeout) = Unit {0}
InOctets (send_conn_param_update_res w link result) = Unit {0}
InOctets (next_pending link up) = Unit {0}
InOctets (accept_pending w slot ourMtu ourMps kind value credits) = Unit {0}
InOctets (reject_pending w slot result) = Unit {0}
InOctets (reject_all_pending w link) = Unit {0}
InOctets (drop_pending slot) = Unit {0}
InOctets (create w link number ourMtu ourMps kind value credits) = Unit {0}
InOctets (opened slot link up) = Unit {0}
InOctets (give_up slot) = Unit {0}
InOctets (inc_ref slot) = Unit {0}
InOctets (dec_ref slot) = Unit {0}
InOctets (disconnect slot) = Unit {0}
InOctets (disconnect_by_cid cid) = Unit {0}
InOctets (disconnected link) = Unit {0}
InOctets (next_disconnect w) = Unit {0}
InOctets (signal w link listening central pdu) = Octets pdu
InOctets (dispatch link cid payload) = Unit {0}
InOctets (send w slot sdu) = Unit {0}
InOctets (start_job w slot length) = Unit {0}
InOctets (give_portion w slot octets) = Unit {0}
InOctets (cancel_job slot) = Unit {0}
InOctets (receive w v slot) = Unit {0}
InOctets (own w octets) = Unit {0}

abbrev pub AllInOctets : List Asked → Type 0
AllInOctets [] = Unit {0}
AllInOctets (a ∷ es) = InOctets a.entry × AllInOctets es

-- ---- a run

unfoldable pub entries : EdgeState → List Asked → EdgeState
entries s [] = s
entries s (a ∷ es) = entries (entered s a) es

-- It starts where a making ends.
abbrev pub started : (table answer room : List ℕ) (n d m : ℕ) → (memory : List ℕ) → EdgeState
started table answer room n d m memory = record { table = (make_edge table answer room n d m).table; room = (make_edge table answer room n d m).room; memory = memory }

-- ---- what the caller is told, call by call

pub record Told : Type 0 where
  pub number : ℕ  -- what the entry returns
  pub answer : List ℕ  -- the answer's octets after it
  pub table : List ℕ  -- the table's octets after it
  pub signal : List ℕ  -- the octets of the signal that it wrote

-- how many octets were written, as the answer tells: octets 2 to 5
abbrev pub count_in : List ℕ → ℕ
count_in answer = u16_at answer 2 + 65536 * u16_at answer 4

-- What a send and a portion write are frames, and no signal.
abbrev pub signal_in : Call → List ℕ → List ℕ
signal_in (frame link cid payload) xs = xs
signal_in (sends s sdu out) xs = []
signal_in (portions s octets out) xs = []
signal_in (down link) xs = xs
signal_in (plain r out job) xs = xs

abbrev pub told_by : Asked → Edge → Told
told_by a x = record { number = x.number; answer = x.answer; table = x.table; signal = signal_in (call_in a) (take (count_in x.answer) x.out) }

unfoldable pub told : EdgeState → List Asked → List Told
told s [] = []
told s (a ∷ es) = told_by a (edge_of s a) ∷ told (entered s a) es
