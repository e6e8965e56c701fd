-- The octets of one slot's part of the room, place by place: what each kind of step leaves there. The laws of `sets` carry it; the
-- rest is arithmetic on where a place begins.
use Rattle.std.specs.Prelude.{◌≡◌, ℕ, zero, suc, ◌+◌, ◌*◌, ◌≤◌, ◌<◌, ltb, get_or}
use mathlib.Core.List.{List}
use Rattle.lists.specs.Choose.{choose}
use Rattle.sar_join.specs.declared.Assembly.{Assembly}
use Rattle.channel.specs.declared.Queue.{Queue}

-- How many octets of a live job stand in place k, from its start on: place 0 has the assembly, the places behind it the waiting jobs.
abbrev pub job_in : Assembly → Queue → ℕ → ℕ
job_in a q zero = a.have
job_in a q (suc k) = choose (ltb k q.count) (get_or q.lens k 0) 0

-- Octet j of place k is zero where it is no octet of a live job. (Places have p octets; past the part's end there is nothing.)
abbrev pub Clean : ℕ → Assembly → Queue → List ℕ → Type 0
Clean p a q part = (k j : ℕ) → j < p → job_in a q k ≤ j → get_or part (k * p + j) 0 ≡ 0
