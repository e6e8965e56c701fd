-- A call of a public function, as its contract has it: what it gave back, and what state it leaves to the caller. ONE law for all calls: that
-- state is the next one of a run (definition, Run.antt). Rests on Lift.antt and Roomless.antt of the definition.
use Rattle.std.specs.Prelude.{◌≡◌, true, List, [], ℕ, ◌+◌, ◌≤◌, length}
use Rattle.std.proofs.lemmas.List.Edits.{sets}
use Rattle.channel.specs.declared.Served.{Served}
use Rattle.definition.specs.Calls.{Window, Call, jobs}
use Rattle.definition.specs.Ending.{end, end_of}
use Rattle.definition.specs.Run.{State, lent, out_window, job_window, outcome}
use Rattle.definition.specs.Roomless.{roomless}

-- ---- what is lent: two buffers that lie in the caller's memory and apart, as safe code lends them

abbrev pub Within : Window → List ℕ → Type 0
Within w memory = w.from + w.size ≤ length memory

pub data Apart (w v : Window) : Type 0 where
  before : w.from + w.size ≤ v.from → Apart w v
  behind : v.from + v.size ≤ w.from → Apart w v

pub record Lends (s : State) (c : Call) : Type 0 where
  pub out : Within (out_window c) s.memory
  pub tray : Within (job_window c) s.memory
  pub apart : Apart (out_window c) (job_window c)

-- ---- what the contract says: r is given back, and so much stands in room and buffers

pub data Ends (s : State) (c : Call) (r : Served) (out tray : List ℕ) : List ℕ → Type 0 where
  -- the room is lent too
  with-room : {room : List ℕ}
      → end r room out tray ≡ end_of s.table (jobs s.table c) s.room (lent (out_window c) s.memory) (lent (job_window c) s.memory) (outcome s c)
      → Ends s c r out tray room
  -- it is not: the contract does not name it, and it stays as it was
  without_room : roomless c ≡ true
      → end r [] out tray ≡ end_of s.table (jobs s.table c) [] (lent (out_window c) s.memory) (lent (job_window c) s.memory) (outcome s c)
      → Ends s c r out tray s.room

-- Called in state s as call c, the function gives back r and leaves s': the table that it gave back, the room, and the memory with the two
-- buffers put back.
pub record Called (s : State) (c : Call) (r : Served) (s' : State) : Type 0 where
  pub lends : Lends s c
  pub out : List ℕ
  pub tray : List ℕ
  pub ends : Ends s c r out tray s'.room
  pub table : s'.table ≡ r.table
  pub memory : s'.memory ≡ sets (sets s.memory (job_window c).from tray) (out_window c).from out
