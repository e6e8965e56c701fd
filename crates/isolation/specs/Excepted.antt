-- How far the exception of memory goes, in any run: an octet is marked only in a window that was lent to a send on, a portion on, or a take from,
-- a slot that was link k's. A law of the marks alone, whatever the calls come to.
use Rattle.std.specs.Prelude.{◌≡◌, Bool, true, false, List, ◌∷◌, ℕ, ◌+◌, ◌≤◌, ◌<◌, length, get_or}
use Rattle.channel.specs.declared.Table.{Table}
use Rattle.definition.specs.Calls.{Window, Call}
use Rattle.definition.specs.Run.{State, out_window, job_window, after}
use Rattle.isolation.specs.Statement.{frames_out, job_out, Marks}

-- ---- where a mark comes from: it stood there, or it is one of those that are put

pub data Came (l : List Bool) (from : ℕ) (vs : List Bool) (i : ℕ) : Type 0 where
  stood : get_or l i false ≡ true → Came l from vs i
  put : (n : ℕ) → i ≡ from + n → n < length vs → get_or vs n false ≡ true → Came l from vs i

-- ---- one buffer

-- Octet i lies in the window.
pub record Within (w : Window) (i : ℕ) : Type 0 where
  pub low : w.from ≤ i
  pub high : i < w.from + w.size

pub data Wrote (own : Bool) (w : Window) (memory : List Bool) (i : ℕ) : Type 0 where
  before : get_or memory i false ≡ true → Wrote own w memory i
  here : own ≡ true → Within w i → Wrote own w memory i

-- ---- one call, and a run

-- The call hands link k's frames, or its job, out into octet i.
pub data HandsOut (k : ℕ) (t : Table) (c : Call) (i : ℕ) : Type 0 where
  frames : frames_out k t c ≡ true → Within (out_window c) i → HandsOut k t c i
  job : job_out k t c ≡ true → Within (job_window c) i → HandsOut k t c i

-- One of the calls of a run does. s is the state in which it starts.
pub data HandedOut (k i : ℕ) : State → List Call → Type 0 where
  now : {s : State} {c : Call} {cs : List Call} → HandsOut k s.table c i → HandedOut k i s (c ∷ cs)
  later : {s : State} {c : Call} {cs : List Call} → HandedOut k i (after s c) cs → HandedOut k i s (c ∷ cs)

pub data Step (k : ℕ) (t : Table) (c : Call) (m : Marks) (i : ℕ) : Type 0 where
  old : get_or m.memory i false ≡ true → Step k t c m i
  new : HandsOut k t c i → Step k t c m i
