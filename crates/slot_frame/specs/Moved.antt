-- A payload joined in its slot's part of the room: what crate sar_join leaves there is what the definition's moves make of it, case by case.
use Rattle.std.specs.Prelude.{◌≡◌, Bool, true, false, List, [], ◌∷◌, ℕ, length, drop, replicate, Result, Ok, Err}
use Rattle.std.proofs.Math.Path.{refl}
use Rattle.std.proofs.lemmas.List.Edits.{sets}
use Rattle.std.proofs.Math.Seq.{take-length}
use Rattle.lists.specs.Choose.{choose}
use Rattle.codes.specs.declared.Refusal.{Refusal}
use Rattle.sar_join.specs.declared.Assembly.{Assembly}
use Rattle.sar_join.specs.declared.Joined.{Joined}
use Rattle.sar_join.specs.declared.Joined.TheVariants as Joined
use Rattle.sar_join.specs.Joining.{is_idle, assembled, queue_at, job_octets}
use Rattle.sar_join_room.specs.SarPlaces.{finish}
use Rattle.sar_join_room.specs.SarRoom.{join_part}
use Rattle.definition.specs.Mem.{job, put, fill, move, moves}
use Rattle.definition.specs.Outcome.{unassembled}
use Rattle.definition.specs.Frames.{finish_moves, join_moves}
use Rattle.definition.specs.Ending.{itself}

module _ (place : ℕ) (a : Assembly) (queued : ℕ) (xs p : List ℕ) where
  -- the frame's job octets, all of them
  abbrev js : List ℕ
  js = job_octets a p

  grown : sets xs (assembled a) js ≡ moves itself js xs (put (assembled a) (job 0 (length js)) ∷ [])
  unfolding moves move fill
  grown = rw (take-length js)

  -- a job that this frame carries whole
  alone : is_idle a ≡ true → finish place a (queue_at place queued) xs p ≡ moves itself js xs (finish_moves place a queued (length js))
  unfolding moves move fill finish job_octets choose
  alone e = rw (e, take-length (drop 2 p))

  -- a job that was assembled, and this frame's octets behind it
  assembling : is_idle a ≡ false → finish place a (queue_at place queued) xs p ≡ moves itself js xs (finish_moves place a queued (length js))
  unfolding moves move fill finish job_octets choose
  assembling e = rw (e, take-length p)

  finished : (b : Bool) → is_idle a ≡ b → finish place a (queue_at place queued) xs p ≡ moves itself js xs (finish_moves place a queued (length js))
  finished true e = alone e
  finished false e = assembling e

  pub join_moves_lem : (j : Result Joined Refusal) → join_part place a queued j xs p ≡ moves itself js xs (join_moves place a queued (length js) j)
  unfolding join_part moves move fill
  join_moves_lem (Err r) = refl
  join_moves_lem (Ok Joined.Dropped) = refl
  join_moves_lem (Ok (Joined.Finished len)) = finished (is_idle a) refl
  join_moves_lem (Ok (Joined.Assembling b)) = grown

  -- a refusal by which the channel is left: nothing is joined, and the place for assembly is zeroed
  pub refused-moves : (r : Refusal) {ys zs : List ℕ} → ys ≡ join_part place a queued (Err r) xs p → zs ≡ sets ys 0 (replicate place 0) → zs ≡ moves itself js xs (unassembled place ∷ [])
  unfolding join_part moves move fill
  refused-moves r e f = rw e at f
