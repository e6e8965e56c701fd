-- Runs: calls one after the other, each on the table and room that the last one left. Every buffer that the caller lends is a part of
-- its memory, named by a window: so a buffer may be lent again, and two may overlap.
use Rattle.std.specs.Prelude.{Bool, List, [], ◌∷◌, map, ℕ, length, take, drop}
use Rattle.std.proofs.lemmas.List.Edits.{sets}
use Rattle.signal_headers.specs.Headers.{feeds_of}
use Rattle.channel.specs.declared.Table.{Table}
use Rattle.definition.specs.Mem.{parts, written}
use Rattle.definition.specs.Table.{width}
use Rattle.definition.specs.Outcome.{Outcome}
use Rattle.definition.specs.Asking.{make}
use Rattle.definition.specs.Calls.{Window, Call, frame, sends, portions, down, plain, signals, jobs, bare, decide}
use Rattle.definition.specs.Ending.{itself}

pub record State : Type 0 where
  pub table : Table
  pub room : List ℕ
  pub memory : List ℕ  -- the caller's memory beside the room

-- ---- what a call is lent

abbrev pub lent : {A : Type 0} → Window → List A → List A
lent w memory = take w.size (drop w.from memory)

abbrev pub nowhere : Window
nowhere = record { from = 0; size = 0 }

-- the signal buffer, a send's output or a job's frame buffer
abbrev pub out_window : Call → Window
out_window (frame link cid payload) = nowhere
out_window (sends s sdu out) = out
out_window (portions s octets out) = out
out_window (down link) = nowhere
out_window (plain r out job) = out

-- a take's job buffer
abbrev pub job_window : Call → Window
job_window (frame link cid payload) = nowhere
job_window (sends s sdu out) = nowhere
job_window (portions s octets out) = nowhere
job_window (down link) = nowhere
job_window (plain r out job) = job

-- ---- one call

-- What it comes to. It sees the call without its job octets, and lengths.
abbrev pub outcome : State → Call → Outcome
outcome s c =
    decide s.table (bare s.table c) (length (jobs s.table c)) (length s.room)
    (length (lent (out_window c) s.memory)) (length (lent (job_window c) s.memory))

-- What it leaves of room and memory, for octets of any kind (Mem.antt): `js` are its job octets.
module _ {A : Type 0} (octet : ℕ → A) (js : List A) where
  abbrev pub room_left : Table → Outcome → List A → List A
  room_left t o room = parts octet js (width t) o.parts room

  -- the job buffer is written first, then the signal buffer or frame output
  abbrev pub memory_left : Outcome → (out job : Window) → (room memory : List A) → List A
  memory_left o out job room memory =
      let m = sets memory job.from (written octet js room 0 o.job (lent job memory)) in
      sets m out.from (written octet js room o.at o.out (lent out m))

unfoldable pub after : State → Call → State
after s c =
    record {
      table = (outcome s c).table;
      room = room_left itself (jobs s.table c) s.table (outcome s c) s.room;
      memory = memory_left itself (jobs s.table c) (outcome s c) (out_window c) (job_window c) s.room s.memory;
    }

-- ---- a run

-- The state that a making leaves.
abbrev pub made : (n d m : ℕ) (room memory : List ℕ) → State
made n d m room memory = record { table = (make n d m room).table; room = (make n d m room).room; memory = memory }

-- A whole PDU: one call for each of its signals, with what the call before gave back (crate signal_headers, `feeds_of`).
abbrev pub signal_calls : (link : ℕ) (listening central : Bool) (pdu : List ℕ) (out : Window) → List Call
signal_calls link listening central pdu out = map (λ rest. plain (signals link listening central rest) out nowhere) (feeds_of pdu)

unfoldable pub run : State → List Call → State
run s [] = s
run s (c ∷ cs) = run (after s c) cs

-- What the calls come to, one after the other: answers, tables, signals, and what is written where.
unfoldable pub outcomes : State → List Call → List Outcome
outcomes s [] = []
outcomes s (c ∷ cs) = outcome s c ∷ outcomes (after s c) cs
