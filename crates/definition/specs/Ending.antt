-- What stands when a call has ended: what it gave back, and every lent memory. A call's contract is one equation with `end_of` of its
-- outcome. The laws by which a call's proof reads `end_of`, one for each form that an outcome has, stand in proofs/Ending.antt.
use Rattle.std.specs.Prelude.{◌≡◌, List, [], ℕ}
use Rattle.channel.specs.declared.Answer.{Answer}
use Rattle.channel.specs.declared.Served.{Served}
use Rattle.channel.specs.declared.Table.{Table}
use Rattle.definition.specs.Mem.{written, parts}
use Rattle.definition.specs.Table.{width}
use Rattle.definition.specs.Outcome.{Outcome}
use Rattle.definition.specs.Asking.{Made}

abbrev pub gave : Answer → Table → (octets : ℕ) → Served
gave a t n = record { answer = a; table = t; octets = n }

abbrev pub served_of : Outcome → Served
served_of o = gave o.answer o.table o.octets

pub record End : Type 0 where
  pub served : Served
  pub room : List ℕ
  pub out : List ℕ  -- the signal buffer, the frame output or a job's frame buffer
  pub job : List ℕ  -- a take's job buffer

abbrev pub end : Served → (room out job : List ℕ) → End
end r room out job = record { served = r; room = room; out = out; job = job }

-- An octet of memory is itself. (Crate isolation runs the same on marks.)
abbrev pub itself : ℕ → ℕ
itself x = x

abbrev pub room_after : Table → (jobs room : List ℕ) → Outcome → List ℕ
room_after t jobs room o = parts itself jobs (width t) o.parts room

unfoldable pub end_of : Table → (jobs room out job : List ℕ) → Outcome → End
end_of t jobs room out job o =
    record {
      served = served_of o;
      room = room_after t jobs room o;
      out = written itself jobs room o.at o.out out;
      job = written itself jobs room 0 o.job job;
    }

-- ---- what stands when a making has ended: no signal buffer and no job buffer is lent, and no octet is written but in the room

abbrev pub served_made : Made → Served
served_made x = gave x.answer x.table 0

abbrev pub end_made : Made → End
end_made x = end (served_made x) x.room [] []

-- ---- "that two results meeting it coincide is proved": what ends as one contract says is the same, answer, table and every lent memory

pub record Coincide (r₁ r₂ : Served) (room₁ room₂ out₁ out₂ job₁ job₂ : List ℕ) : Type 0 where
  pub served : r₁ ≡ r₂
  pub room : room₁ ≡ room₂
  pub out : out₁ ≡ out₂
  pub job : job₁ ≡ job₂
