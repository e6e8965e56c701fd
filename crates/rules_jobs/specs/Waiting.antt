-- The jobs that wait in a slot's part of the room, octet for octet: a job that becomes whole, an assembly that grows, a job that is taken. Rests
-- on the laws of `sets` and `part`.
use Rattle.std.specs.Prelude.{get_or}
use mathlib.Core.List.{List}
use Prim.Native.Nat.{ℕ, suc, ◌*◌}
use Rattle.octets.specs.Octets.{part}
use Rattle.channel.specs.declared.Queue.{Queue}

-- ---- the jobs that wait in a slot

-- Job k, the oldest first: as many octets of place k + 1 as its length says. p is the size of a place.
abbrev pub job_of : ℕ → Queue → List ℕ → ℕ → List ℕ
job_of p q part' k = part part' (suc k * p) (get_or q.lens k 0)
