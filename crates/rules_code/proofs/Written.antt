-- What a call of a public function left in its two buffers is what the definition has written there.
use Rattle.std.specs.Prelude.{◌≡◌, List, ℕ}
use Rattle.std.proofs.Math.Path.{ap}
use Rattle.channel.specs.declared.Served.{Served}
use Rattle.definition.specs.Mem.{written}
use Rattle.definition.specs.Calls.{Call, jobs}
use Rattle.definition.specs.Ending.{itself, End, end, end_of}
use Rattle.definition.specs.Run.{State, lent, out_window, job_window, outcome}
use Rattle.definition.proofs.Roomless.{roomless_call}
use Rattle.definition.proofs.Lift.{roomless-end}
use Rattle.rules_code.specs.Called.{Called, Ends, with-room, without_room}

-- ---- the end of the call in a run, with the run's room

pub ended : {s : State} {c : Call} {r : Served} {out tray room : List ℕ} → Ends s c r out tray room
    → end r room out tray ≡ end_of s.table (jobs s.table c) s.room (lent (out_window c) s.memory) (lent (job_window c) s.memory) (outcome s c)
ended (with-room h) = h
ended {s} {c} {r} {out} {tray} (without_room e h) =
    roomless-end s.table (outcome s c) (roomless_call s.table c e _ _ _ _) (jobs s.table c) s.room (lent (out_window c) s.memory) (lent (job_window c) s.memory) r out tray h

module _ {s s' : State} {c : Call} {r : Served} (p : Called s c r s') where
  -- what the function left in its two buffers, and that they keep their sizes
  pub called-written : (p.out ≡ written itself (jobs s.table c) s.room (outcome s c).at (outcome s c).out (lent (out_window c) s.memory))
      × (p.tray ≡ written itself (jobs s.table c) s.room 0 (outcome s c).job (lent (job_window c) s.memory))
  unfolding end_of
  called-written = (ap (λ (x : End). x.out) (ended p.ends), ap (λ (x : End). x.job) (ended p.ends))
