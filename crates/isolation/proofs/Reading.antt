-- What the statement gives for the worked run (Lives.antt), read off octet by octet: from the statement itself, whatever its proof. So a
-- statement that says less of these runs is refused here.
use Rattle.signal_write.specs.Writer.{encode_of}
use Rattle.std.specs.Prelude.{◌≡◌, refl, ℕ, ◌<◌, replicate, take, get_or}
use native.Mathlib.Omega.{arith}
use Rattle.lists.specs.Choose.{choose}
use Rattle.lists.specs.First.{first}
use Rattle.lists.specs.Every.{every}
use Rattle.lists.specs.Fuel.{whole}
use Rattle.credit.specs.Account.{due, grant_of}
use Rattle.sar_cut.specs.Cutting.{ceil, frame_count, frames_length, plan_send}
use Rattle.sar_join.specs.Joining.{reached, first_step, assembled, join_step}
use Rattle.signal_headers.specs.Headers.{headers_of}
use Rattle.signal_bodies.specs.LeCreditBodies.{le_credit_conn_req}
use Rattle.definition.specs.Mem.{fill, move, moves, parts, fills, written}
use Rattle.definition.specs.Table.{slot_fits, well_formed}
use Rattle.definition.specs.Outcome.{only, verdict}
use Rattle.definition.specs.Pending.{next_pending, accept_pending}
use Rattle.definition.specs.Closing.{dec_ref, disconnected}
use Rattle.definition.specs.Signals.{on_conn_req, handled, checked, signalled}
use Rattle.definition.specs.Frames.{joined, dispatch, later_frames, frames, planned, send, grant_in, taken, receive}
use Rattle.definition.specs.Asking.{make, register_spsm}
use Rattle.definition.specs.Calls.{bare, serve, decide}
use Rattle.definition.specs.Calls as Calls
use Rattle.definition.specs.Numbers.{answer_number}
use Rattle.definition.specs.Run.{State, after, run, outcomes}
use Rattle.isolation.specs.Statement.{over_after, marked, marks_from, slot_room, handed, Demand3}
use Rattle.isolation.specs.Lives.{start, calls}
use Rattle.isolation.proofs.Lives.{alike}

made_well : (z : ℕ) → answer_number (make 2 1 29 (replicate 92 z)).answer ≡ 0
unfolding make choose
made_well z = refl

-- Two runs over rooms of any contents, z and z'. In the one link 1's octets are a to p in its life 0 and e in its life 1, in the other a' to
-- p' and e, or a to p and e'. Link 2's octets are u, v, w in all.
module _ (demand : Demand3) (z z' a b c x y p e u v w a' b' c' x' y' p' e' : ℕ) where
  abbrev one : ℕ → State
  one i = run (start z) (take i (calls a b c x y p e u v w))

  abbrev two : ℕ → State
  two i = run (start z') (take i (calls a' b' c' x' y' p' e u v w))

  abbrev three : ℕ → State
  three i = run (start z') (take i (calls a b c x y p e' u v w))

  record FirstLife : Type 0 where
    every_call : outcomes (start z) (calls a b c x y p e u v w) ≡ outcomes (start z') (calls a' b' c' x' y' p' e u v w)
    given : handed 1 (start z) (calls a b c x y p e u v w) ≡ handed 1 (start z') (calls a' b' c' x' y' p' e u v w)
    -- the grant that is written over link 1's job
    grant : get_or (one 12).memory 10 0 ≡ get_or (two 12).memory 10 0
    -- link 2's job, where link 1's stood
    job : get_or (one 13).memory 12 0 ≡ get_or (two 13).memory 12 0
    -- the header of link 1's own frame; link 2's frame, where link 1's stood
    header : get_or (one 14).memory 27 0 ≡ get_or (two 14).memory 27 0
    frame : get_or (one 15).memory 28 0 ≡ get_or (two 15).memory 28 0
    -- link 2's slot, where a job waits; link 1's slot, behind its half job; link 1's slot before it was link 1's
    slot_1 : slot_room (one 11).table 1 (one 11).room ≡ slot_room (one 11).table 1 (two 11).room
    slot_0 : get_or (one 8).room 2 0 ≡ get_or (two 8).room 2 0
    fresh : slot_room (one 1).table 0 (one 1).room ≡ slot_room (one 1).table 0 (two 1).room
    -- the whole room, at once when link 1's link-down has answered
    room : (one 18).room ≡ (two 18).room

  first_life : FirstLife
  unfolding encode_of marked marks_from run over_after after decide serve register_spsm signalled checked headers_of whole handled on_conn_req le_credit_conn_req next_pending accept_pending dispatch joined join_step first_step reached assembled receive taken grant_in grant_of due send planned plan_send frame_count ceil frames_length frames later_frames disconnected dec_ref Calls.jobs bare verdict well_formed slot_fits every first only choose make parts moves move fill fills written
  first_life =
      let d = demand 1 0 2 1 29 (replicate 92 z) (replicate 92 z') (replicate 30 9) (calls a b c x y p e u v w) (calls a' b' c' x' y' p' e u v w)
      (made_well z) (made_well z') (alike z a b c x y p e u v w a' b' c' x' y' p' e u v w).first_life in
      record {
        every_call = d.0;
        given = d.1;
        grant = (d.2 12).memory 10 refl;
        job = (d.2 13).memory 12 refl;
        header = (d.2 14).memory 27 refl;
        frame = (d.2 15).memory 28 refl;
        slot_1 = (d.2 11).room 1 (let lt : 1 < 2 = omega arith in lt) refl;
        slot_0 = (d.2 8).places 2 refl;
        fresh = (d.2 1).room 0 (let lt : 0 < 2 = omega arith in lt) refl;
        room = (d.2 18).down (let lt : 0 < 1 = omega arith in lt);
      }

  record SecondLife : Type 0 where
    -- before link 1's link-down nothing at all differs
    before : one 17 ≡ three 17
    -- in the life: the first octet after the job that is taken, and the signal
    beside : get_or (one 24).memory 29 0 ≡ get_or (three 24).memory 29 0
    grant : get_or (one 24).memory 8 0 ≡ get_or (three 24).memory 8 0
    room : (one 25).room ≡ (three 25).room

  second_life : SecondLife
  unfolding encode_of marked marks_from run over_after after decide serve register_spsm signalled checked headers_of whole handled on_conn_req le_credit_conn_req next_pending accept_pending dispatch joined join_step first_step reached assembled receive taken grant_in grant_of due send planned plan_send frame_count ceil frames_length frames later_frames disconnected dec_ref Calls.jobs bare verdict well_formed slot_fits every first only choose make parts moves move fill fills written
  second_life =
      let d = demand 1 1 2 1 29 (replicate 92 z) (replicate 92 z') (replicate 30 9) (calls a b c x y p e u v w) (calls a b c x y p e' u v w)
      (made_well z) (made_well z') (alike z a b c x y p e u v w a b c x y p e' u v w).second_life in
      record {
        before = (d.2 17).before (let lt : 0 < 1 = omega arith in lt);
        beside = (d.2 24).memory 29 refl;
        grant = (d.2 24).memory 8 refl;
        room = (d.2 25).down (let lt : 1 < 2 = omega arith in lt);
      }
