-- What a joined payload leaves in the slot's part of the room (document 01, 'Cutting, joining, credits'; Core Vol 3 Part A 3.4), of places of
-- that size: the place for assembly, then the places of the finished jobs.
use Rattle.std.specs.Prelude.{List, ℕ, replicate, Result, Ok, Err}
use Rattle.std.proofs.lemmas.List.Edits.{sets}
use Rattle.sar_join.specs.declared.Assembly.{Assembly}
use Rattle.sar_join.specs.declared.Joined.{Joined}
use Rattle.sar_join.specs.declared.Joined.TheVariants.{Dropped, Finished, Assembling}
use Rattle.sar_join.specs.Joining.{assembled, queue_at, job_octets}
use Rattle.sar_join_room.specs.SarPlaces.{finish}
use Rattle.codes.specs.declared.Refusal.{Refusal}

-- a refusal leaves the part to the caller, who leaves Connected
unfoldable pub join_part : ℕ → Assembly → ℕ → Result Joined Refusal → List ℕ → List ℕ → List ℕ
join_part place a queued (Err r) xs p = xs
join_part place a queued (Ok Dropped) xs p = sets xs 0 (replicate place 0)
join_part place a queued (Ok (Finished n)) xs p = finish place a (queue_at place queued) xs p
join_part place a queued (Ok (Assembling b)) xs p = sets xs (assembled a) (job_octets a p)
