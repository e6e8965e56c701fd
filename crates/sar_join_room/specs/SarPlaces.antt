-- What a finished job leaves in the slot's part of the room (document 01, 'Cutting, joining, credits'; Core Vol 3 Part A 3.4), of places of that
-- size: the place for assembly, then the places of the finished jobs.
use Rattle.std.specs.Prelude.{List, ℕ, ◌+◌, drop, replicate}
use Rattle.std.proofs.lemmas.List.Edits.{sets}
use Rattle.lists.specs.Choose.{choose}
use Rattle.octets.specs.Octets.{part}
use Rattle.sar_join.specs.declared.Assembly.{Assembly}
use Rattle.sar_join.specs.Joining.{is_idle}

-- a job that one frame carries goes straight to its place at `at`; one that was assembled goes there, and the place for assembly is zeroed
unfoldable pub finish : ℕ → Assembly → ℕ → List ℕ → List ℕ → List ℕ
finish place a at xs p =
    choose (is_idle a) (sets xs at (drop 2 p))
    (sets (sets (sets xs at (part xs 0 a.have)) (at + a.have) p) 0 (replicate place 0))
