-- Making and registering, the attention set, the five queries and those of the tallies, the two parameter senders. Document 01, 'The job and its edge',
-- rows 1, 2 and 5, and 'Slots'; the senders and queries as S has them (READINGS L3).
use Rattle.std.specs.Prelude.{◌&&◌, not, List, [], ◌∷◌, map, ℕ, eqb, leb, ltb, length, replicate, None, Some}
use Rattle.lists.specs.First.{first}
use Rattle.lists.specs.Bits.{bitset, count}
use Rattle.codes.specs.declared.Refusal.{Refusal}
use Rattle.codes.specs.declared.Refusal.TheVariants.{BadTable, BadRoom, BadSpsm}
use Rattle.signal_write.specs.Writer.{encode_of}
use Rattle.signal_forms.specs.declared.Signal.{Signal}
use Rattle.signal_forms.specs.declared.Signal.TheVariants.{ConnParamUpdateReq, ConnParamUpdateRes}
use Rattle.channel.specs.Limits.{slots_most, spsm_most}
use Rattle.channel.specs.declared.Answer.{Answer}
use Rattle.channel.specs.declared.Answer.TheVariants.{Done, Refused, Attention, Number}
use Rattle.channel.specs.declared.Slot.{Slot}
use Rattle.channel.specs.declared.Table.{Table}
use Rattle.definition.specs.Mem.{given}
use Rattle.definition.specs.Table.{when◌then◌else◌, sizes_fit, fresh, live, slot_at, is_free, calls, room_size, registered, next_id, spent}
use Rattle.definition.specs.Outcome.{Outcome, still, refuse, gate}

-- ---- making

-- A table of these sizes in which nothing has happened yet.
abbrev pub blank : (n d m : ℕ) → Table
blank n d m = record { slots = replicate slots_most (fresh 0); n = n; d = d; m = m; identifier = 1; spsms = replicate 32 0 }

-- "a refused making gives a table of no slots"
abbrev pub no_slots : Table
no_slots = blank 0 0 0

pub record Made : Type 0 where
  pub answer : Answer
  pub table : Table
  pub room : List ℕ

-- .. and leaves the room.
abbrev pub not_made : Refusal → (room : List ℕ) → Made
not_made r room = record { answer = Refused r; table = no_slots; room = room }

-- Row 1: "sizes outside the limits"; row 2: "room length wrong". "making a table zeroes the room"
unfoldable pub make : (n d m : ℕ) (room : List ℕ) → Made
make n d m room =
    when not (sizes_fit n d m) then not_made BadTable room
    else when not (eqb (length room) (room_size (blank n d m))) then not_made BadRoom room
    else record { answer = Done; table = blank n d m; room = map (λ _. 0) room }

-- ---- row 5: "registering outside 1..=255"

unfoldable pub register_spsm : Table → (spsm : ℕ) → Outcome
register_spsm t spsm =
    gate t None None None None
    (when not (leb 1 spsm && leb spsm spsm_most) then refuse t BadSpsm
    else still (registered t spsm) Done [])

-- ---- "The attention set has one bit per slot, set exactly when a job waits, a disconnect is due or ConnectFailed stands; the number
-- of slots calling and the lowest of them are given (N when none calls)."

unfoldable pub attention : Table → Outcome
attention t =
    gate t None None None None
    (still t (Attention (bitset calls (live t)) (count calls (live t)) (first calls (live t))) [])

-- ---- "Finding the lowest free slot is also offered over a run of slot records lent by the caller": the lowest Disconnected one without
-- holds, and the run's length where there is none. The table's own search is this one over the slots in use.

abbrev pub lowest_free : List Slot → ℕ
lowest_free = first is_free

-- "answers slot or none", in whatever words a caller has for these two.
abbrev pub free_among : {A : Type 0} → (slot : ℕ → A) (none : A) → List Slot → A
free_among slot none l = when ltb (lowest_free l) (length l) then slot (lowest_free l) else none

-- ---- the five queries of a slot, in any state

unfoldable pub query : (Slot → ℕ) → Table → (slot : ℕ) → Outcome
query of t s = gate t None None None (Some s) (still t (Number (of (slot_at t s))) [])

abbrev pub spsm : Table → ℕ → Outcome
spsm = query (λ x. x.spsm)

abbrev pub mtu : Table → ℕ → Outcome
mtu = query (λ x. x.mtu)

abbrev pub mps : Table → ℕ → Outcome
mps = query (λ x. x.mps)

abbrev pub peer_mtu : Table → ℕ → Outcome
peer_mtu = query (λ x. x.peer.mtu)

abbrev pub peer_mps : Table → ℕ → Outcome
peer_mps = query (λ x. x.peer.mps)

-- ---- the four tallies, asked for in the same way (document 02)

abbrev pub tally_sent : Table → ℕ → Outcome
tally_sent = query (λ x. x.tallies.sends.frames)

abbrev pub tally_received : Table → ℕ → Outcome
tally_received = query (λ x. x.tallies.receives.frames)

abbrev pub tally_blocked_sends : Table → ℕ → Outcome
tally_blocked_sends = query (λ x. x.tallies.sends.blocked)

abbrev pub tally_blocked_receives : Table → ℕ → Outcome
tally_blocked_receives = query (λ x. x.tallies.receives.blocked)

-- ---- a parameter request or response of ours, with the next identifier

unfoldable pub send_signal : Table → (signal link : ℕ) → Signal → Outcome
send_signal t signal link s =
    gate t None (Some signal) (Some link) None
    (still (spent t) Done (given (encode_of (next_id t) s) ∷ []))

abbrev pub send_conn_param_update_req : Table → (signal link min max latency timeout : ℕ) → Outcome
send_conn_param_update_req t signal link min max latency timeout = send_signal t signal link (ConnParamUpdateReq (record { min = min; max = max; latency = latency; timeout = timeout }))

abbrev pub send_conn_param_update_res : Table → (signal link result : ℕ) → Outcome
send_conn_param_update_res t signal link result = send_signal t signal link (ConnParamUpdateRes (record { result = result }))
