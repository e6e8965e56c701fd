-- How the payloads of K-frames become a job again (document 01, 'Cutting, joining, credits'; Core Vol 3 Part A 3.4, 10.1): the step that a payload makes, decided
-- from numbers, and which of its octets are the job's.
use Rattle.std.specs.Prelude.{Bool, List, ℕ, suc, ◌+◌, ◌-◌, ◌*◌, drop, eqb, leb, ltb, Result, Ok, Err}
use Rattle.lists.specs.Choose.{choose}
use Rattle.codes.specs.declared.Refusal.TheVariants as Refusal
use Rattle.codes.specs.Codes.{refusal_number}
use Rattle.sar_join.specs.declared.Assembly.{Assembly}
use Rattle.sar_join.specs.declared.Joined.{Joined}
use Rattle.sar_join.specs.declared.Joined.TheVariants.{Dropped, Finished, Assembling}
use Rattle.codes.specs.declared.Refusal.{Refusal}

-- no assembly is open. (A job of 0 octets is finished at once, so that a wanted length of 0 says so.)
abbrev pub is_idle : Assembly → Bool
is_idle a = eqb a.want 0

abbrev pub idle : Assembly
idle = record { have = 0; want = 0 }

-- ---- the step

-- `have` octets of a job of `want` are there, with `queued` of d places taken: "overrun 9; exact: finished", and with no place free, 21
unfoldable pub reached : ℕ → ℕ → ℕ → ℕ → Result Joined Refusal
reached d queued want have =
    choose (ltb want have) (Err Refusal.InvalidValue)
    (choose (ltb have want) (Ok (Assembling (record { have = have; want = want })))
    (choose (leb d queued) (Ok Dropped) (Ok (Finished want))))

-- a payload of n octets, of which the first two say `said`, where no assembly is open
unfoldable pub first_step : ℕ → ℕ → ℕ → ℕ → ℕ → Result Joined Refusal
first_step mtu d queued n said =
    choose (ltb n 2) (Err Refusal.ShortFrame)
    (choose (ltb mtu said) (Err Refusal.InvalidValue)
    (reached d queued said (n - 2)))

-- a payload of n octets, its length octets counted, for a channel of that MTU and MPS with `queued` of d places taken: one longer than the MPS, be it a job's first or
-- a joining one, is refused before anything else (document 02)
unfoldable pub join_step : ℕ → ℕ → ℕ → Assembly → ℕ → ℕ → ℕ → Result Joined Refusal
join_step mtu mps d a queued n said =
    choose (ltb mps n) (Err Refusal.InvalidValue)
    (choose (is_idle a) (first_step mtu d queued n said)
    (reached d queued a.want (a.have + n)))

-- Where place k of a slot's part of the room begins, of places of that size: place 0 is the one for assembly, place 1 the oldest job's.
abbrev pub place : (size k : ℕ) → ℕ
place size k = k * size

-- where the next finished job goes: behind the place for assembly and the jobs that wait
abbrev pub queue_at : (size queued : ℕ) → ℕ
queue_at size queued = place size (suc queued)

-- the paper's number for the answer: 0, or the refusal's
unfoldable pub joined_number : Result Joined Refusal → ℕ
joined_number (Err r) = refusal_number r
joined_number (Ok Dropped) = 21
joined_number (Ok (Finished n)) = 0
joined_number (Ok (Assembling a)) = 0

-- the payload's octets that belong to the job, and how many octets stand assembled before them
unfoldable pub job_octets : Assembly → List ℕ → List ℕ
job_octets a p = choose (is_idle a) (drop 2 p) p

unfoldable pub assembled : Assembly → ℕ
assembled a = choose (is_idle a) 0 a.have
