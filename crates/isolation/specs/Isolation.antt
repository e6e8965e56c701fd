-- Demand 3, proved in proofs/Isolation.antt: by induction on the calls, from `rel_parts` and `rel_memory` (Same), `contained_step` (Contained), `memory_masked`
-- (Masked), and `safe`, `down_clears` and `hands` (crate definition).
use Rattle.std.specs.Prelude.{◌≡◌, false, ◌&&◌, ℕ, ◌≤◌, eqb, length}
use Rattle.std.proofs.Math.Bool.{Bool}
use mathlib.Core.List.{List, map}
use Rattle.channel.specs.Limits.{slots_most}
use Rattle.channel.specs.declared.Table.{Table}
use Rattle.definition.specs.Table.{room_size}
use Rattle.definition.specs.Asking.{Made, blank}
use Rattle.definition.specs.Calls.{Call, jobs, bare, carrier, frames_out, job_out, is_by}
use Rattle.definition.specs.Run.{State, out_window, job_window, made}
use Rattle.isolation.specs.Statement.{Handed}
use Rattle.isolation.specs.Statement as Statement

-- Two octets and a mark: equal unless marked.
abbrev pub Agree : ℕ → ℕ → Bool → Type 0
Agree a b m = m ≡ false → a ≡ b

abbrev pub out_and_job : List ℕ → List ℕ → Handed
out_and_job x y = record { out = x; job = y }

abbrev pub state : Table → List ℕ → List ℕ → State
state t r m = record { table = t; room = r; memory = m }

-- ---- what alike calls have in common

pub record Common (k : ℕ) (t : Table) (c d : Call) : Type 0 where
  pub bare : bare t c ≡ bare t d
  pub count : length (jobs t c) ≡ length (jobs t d)
  pub out : out_window c ≡ out_window d
  pub job : job_window c ≡ job_window d
  pub frames : Statement.frames_out k t c ≡ Statement.frames_out k t d
  pub tray : Statement.job_out k t c ≡ Statement.job_out k t d

-- does the call carry job octets of that life?
abbrev pub hot : (k j over : ℕ) → Table → Call → Bool
hot k j over t c = eqb over j && is_by k (carrier t c)

-- ---- from tables that were made

-- what a making that answers 0 leaves
pub record Start (n d m : ℕ) (before : List ℕ) (made : Made) : Type 0 where
  pub table : made.table ≡ blank n d m
  pub room : made.room ≡ map (λ _. 0) before
  pub size : length before ≡ room_size (blank n d m)
  pub fits : n ≤ slots_most
