-- A worked run with jobs that are handed over in portions, and where its marks stand: two open jobs at once, of two links; a frame that fills in
-- two portions; a refused portion; link 2's next job in the buffer that link 1's job had; a cancel; a second life of link 1. And what the statement
-- gives for it, read off octet by octet, as Reading.antt does. So a statement that excepted more than a portion's octets, or less, is refused here.
use Rattle.signal_write.specs.Writer.{encode_of}
use Rattle.std.specs.Prelude.{◌≡◌, Bool, true, false, List, [], ◌∷◌, ◌++◌, map, ℕ, replicate, take, drop, get_or}
use Rattle.std.proofs.Math.Path.{refl}
use Rattle.lists.specs.Choose.{choose}
use Rattle.lists.specs.First.{first}
use Rattle.lists.specs.Every.{every}
use Rattle.lists.specs.Fuel.{whole}
use Rattle.sar_cut.specs.Cutting.{ceil, frame_count, frames_length, plan_send}
use Rattle.codes.specs.declared.Refusal.TheVariants as Refusal
use Rattle.signal_headers.specs.Headers.{headers_of}
use Rattle.signal_bodies.specs.LeCreditBodies.{le_credit_conn_req}
use Rattle.channel.specs.declared.Answer.TheVariants.{Done, Refused, At, Link, Frames, Portion}
use Rattle.channel.specs.declared.Table.{Table}
use Rattle.definition.specs.Mem.{fill, move, moves, parts, fills, written}
use Rattle.definition.specs.Table.{index, slot_fits, well_formed}
use Rattle.definition.specs.Outcome.{only, verdict}
use Rattle.definition.specs.Pending.{next_pending, accept_pending}
use Rattle.definition.specs.Closing.{dec_ref, disconnected}
use Rattle.definition.specs.Signals.{on_conn_req, handled, checked, signalled}
use Rattle.definition.specs.Portions.{start_planned, start_job, give_portion, cancel_job}
use Rattle.definition.specs.Asking.{make, register_spsm}
use Rattle.definition.specs.Calls.{Call, bare, serve, decide}
use Rattle.definition.specs.Calls as Calls
use Rattle.definition.specs.Numbers.{answer_number}
use Rattle.definition.specs.Run.{State, after, run, outcomes}
use Rattle.isolation.specs.Statement.{jobs, carries, frames_out, job_out, over_after, portioned, same, exchanged, AlikeRuns, marked, marks_from, handed, Demand3}
use Rattle.isolation.specs.Lives.{row, standing, rows, trail, each}
use Rattle.isolation.specs.Portions.{calls, span, start}

-- ---- where marks stand, after each call. None stands in the room.

module _ (z a b c d e u v w : ℕ) where
  record Marked : Type 0 where
    -- link 1, life 0
    first_life : trail 1 0 (start z) (calls a b c d e u v w)
        ≡ replicate 9 (row 0 [] [])  -- two channels are opened, two jobs started: headers and SDU lengths are not marked
        ++ (row 0 [] (24 ∷ [])  -- a, behind the six octets of the start
        ∷ row 0 [] (24 ∷ [])  -- link 2's octet is not marked
        ∷ row 0 [] (span 24 21)  -- the frame is full
        ∷ row 0 [] (span 24 21)
        ∷ row 0 [] (span 24 21)  -- a refused portion writes nothing
        ∷ row 0 [] (22 ∷ span 24 21)  -- the last frame's header, and d; behind it the first frame still stands
        ∷ row 0 [] (span 24 21)  -- link 2's start writes six octets over it
        ∷ row 0 [] (span 25 20)  -- and its portion one
        ∷ row 0 [] (span 25 20)
        ∷ row 0 [] (span 25 20 ++ (51 ∷ []))
        ∷ row 0 [] (span 25 20 ++ (51 ∷ []))  -- a cancel writes nothing
        ∷ replicate 6 (row 1 [] (span 25 20 ++ (51 ∷ [])))  -- the life is over: what its portions left in memory is not
        ++ (row 1 [] (span 25 20) ∷ row 2 [] (span 25 20) ∷ []))
    -- link 1, life 1
    second_life : trail 1 1 (start z) (calls a b c d e u v w) ≡ replicate 20 (row 0 [] []) ++ (replicate 6 (row 1 [] []) ++ (row 1 [] (51 ∷ []) ∷ row 2 [] (51 ∷ []) ∷ []))
    -- link 2, life 0
    other_link : trail 2 0 (start z) (calls a b c d e u v w)
        ≡ replicate 10 (row 0 [] [])
        ++ (row 0 [] (51 ∷ [])
        ∷ row 0 [] (51 ∷ [])
        ∷ replicate 4 (row 0 [] (51 ∷ 52 ∷ []))
        ++ (row 0 [] (24 ∷ 51 ∷ 52 ∷ []) ∷ row 0 [] (24 ∷ 51 ∷ 52 ∷ []) ∷ replicate 10 (row 0 [] (24 ∷ 52 ∷ []))))

  marks : Marked
  unfolding encode_of span standing rows marked over_after after decide serve register_spsm signalled checked headers_of whole handled on_conn_req le_credit_conn_req next_pending accept_pending start_job start_planned give_portion cancel_job plan_send frame_count ceil frames_length disconnected dec_ref Calls.jobs bare verdict well_formed slot_fits every first only choose make parts moves move fill fills written
  marks = record { first_life = refl; second_life = refl; other_link = refl }

-- ---- whose is what, and what is handed out: of a portion, what it writes

module _ (z a b c d e u v w : ℕ) where
  abbrev when : (Table → Call → Bool) → List ℕ
  when f = standing 0 (each f (start z) (calls a b c d e u v w))

  record Told : Type 0 where
    answered : map (λ o. o.answer) (outcomes (start z) (calls a b c d e u v w))
        ≡ Done ∷ Done ∷ At (index 0) ∷ Link 1 ∷ Done ∷ At (index 1) ∷ Link 2 ∷ Frames 1 2 ∷ Frames 2 1 ∷ Portion 1 1 false ∷ Portion 2 1 false ∷ Portion 1 20 true ∷ Portion 2 1 true
        ∷ Refused Refusal.WrongLength ∷ Portion 1 1 true ∷ Frames 2 1 ∷ Portion 2 1 true ∷ Frames 1 1 ∷ Portion 1 1 false ∷ Done
        ∷ Done ∷ Done ∷ Done ∷ At (index 0) ∷ Link 1 ∷ Frames 1 1 ∷ Portion 1 1 true ∷ Done ∷ []
    -- the header that a start writes is in it, whosever the job is
    given : map (λ x. x.out) (handed 1 (start z) (take 20 (calls a b c d e u v w)))
        ≡ map (λ x. x.out) (handed 1 (start z) (take 7 (calls a b c d e u v w)))
        ++ ((23 ∷ 0 ∷ 0x50 ∷ 0 ∷ 22 ∷ 0 ∷ [])
        ∷ (4 ∷ 0 ∷ 0x50 ∷ 0 ∷ 2 ∷ 0 ∷ [])
        ∷ []
        ∷ (u ∷ [])
        ∷ []
        ∷ (v ∷ [])
        ∷ []
        ∷ []
        ∷ (3 ∷ 0 ∷ 0x50 ∷ 0 ∷ 1 ∷ 0 ∷ [])
        ∷ (w ∷ [])
        ∷ (4 ∷ 0 ∷ 0x50 ∷ 0 ∷ 2 ∷ 0 ∷ [])
        ∷ []
        ∷ []
        ∷ [])
    -- the octets that a portion does not take are job octets too
    octets : take 5 (each jobs (run (start z) (take 9 (calls a b c d e u v w))) (drop 9 (calls a b c d e u v w)))
        ≡ (a ∷ []) ∷ (u ∷ []) ∷ (b ∷ c ∷ replicate 18 b ++ (d ∷ [])) ∷ (v ∷ []) ∷ (a ∷ d ∷ []) ∷ []
    carried_1 : when (carries 1) ≡ 9 ∷ 11 ∷ 13 ∷ 14 ∷ 18 ∷ 26 ∷ []
    carried_2 : when (carries 2) ≡ 10 ∷ 12 ∷ 16 ∷ []
    frames_1 : when (frames_out 1) ≡ 9 ∷ 11 ∷ 13 ∷ 14 ∷ 18 ∷ 26 ∷ []
    frames_2 : when (frames_out 2) ≡ 10 ∷ 12 ∷ 16 ∷ []
    job_1 : when (job_out 1) ≡ []

  told : Told
  unfolding encode_of standing each run outcomes handed after decide serve register_spsm signalled checked headers_of whole handled on_conn_req le_credit_conn_req next_pending accept_pending start_job start_planned give_portion cancel_job plan_send frame_count ceil frames_length disconnected dec_ref Calls.jobs bare verdict well_formed slot_fits every first only choose make parts moves move fill fills written
  told = record { answered = refl; given = refl; octets = refl; carried_1 = refl; carried_2 = refl; frames_1 = refl; frames_2 = refl; job_1 = refl }

-- ---- such runs are alike, whatever their job octets

module _ (z a b c d e u v w a' b' c' d' e' u' v' w' : ℕ) where
  record AllAlike : Type 0 where
    first_life : AlikeRuns 1 0 0 (start z) (calls a b c d e u v w) (calls a' b' c' d' e u v w)
    second_life : AlikeRuns 1 1 0 (start z) (calls a b c d e u v w) (calls a b c d e' u v w)
    other_link : AlikeRuns 2 0 0 (start z) (calls a b c d e u v w) (calls a b c d e u' v' w')

  alike : AllAlike
  unfolding encode_of over_after after decide serve register_spsm signalled checked headers_of whole handled on_conn_req le_credit_conn_req next_pending accept_pending start_job start_planned give_portion cancel_job plan_send frame_count ceil frames_length disconnected dec_ref Calls.jobs bare verdict well_formed slot_fits every first only choose make parts moves move fill fills written
  alike =
      record {
        first_life = (same, (same, (same, (same, (same, (same, (same, (same, (same, (exchanged refl (portioned {s = 0} refl refl), (same, (exchanged refl (portioned {s = 0} refl refl), (same, (exchanged refl (portioned {s = 0} refl refl), (exchanged refl (portioned {s = 0} refl refl), (same, (same, (same, (exchanged refl (portioned {s = 0} refl refl), (same, (same, (same, (same, (same, (same, (same, (same, (same, tt))))))))))))))))))))))))))));
        second_life = (same, (same, (same, (same, (same, (same, (same, (same, (same, (same, (same, (same, (same, (same, (same, (same, (same, (same, (same, (same, (same, (same, (same, (same, (same, (same, (exchanged refl (portioned {s = 0} refl refl), (same, tt))))))))))))))))))))))))))));
        other_link = (same, (same, (same, (same, (same, (same, (same, (same, (same, (same, (exchanged refl (portioned {s = 1} refl refl), (same, (exchanged refl (portioned {s = 1} refl refl), (same, (same, (same, (exchanged refl (portioned {s = 1} refl refl), (same, (same, (same, (same, (same, (same, (same, (same, (same, (same, (same, tt))))))))))))))))))))))))))));
      }

-- ---- what the statement gives for them

made_well : (z : ℕ) → answer_number (make 2 1 29 (replicate 92 z)).answer ≡ 0
unfolding make choose
made_well z = refl

module _ (demand : Demand3) (z z' a b c d e u v w a' b' c' d' : ℕ) where
  abbrev one : ℕ → State
  one i = run (start z) (take i (calls a b c d e u v w))

  abbrev two : ℕ → State
  two i = run (start z') (take i (calls a' b' c' d' e u v w))

  record FirstLife : Type 0 where
    every_call : outcomes (start z) (calls a b c d e u v w) ≡ outcomes (start z') (calls a' b' c' d' e u v w)
    given : handed 1 (start z) (calls a b c d e u v w) ≡ handed 1 (start z') (calls a' b' c' d' e u v w)
    -- in link 1's frame buffer: the header and the SDU's length that stand before its octets, the header of its last frame
    header : get_or (one 12).memory 18 0 ≡ get_or (two 12).memory 18 0
    length : get_or (one 12).memory 22 0 ≡ get_or (two 12).memory 22 0
    last : get_or (one 15).memory 21 0 ≡ get_or (two 15).memory 21 0
    -- the octets behind a portion that fills no frame
    behind : get_or (one 10).memory 25 0 ≡ get_or (two 10).memory 25 0
    -- link 2's frame buffer
    other : get_or (one 13).memory 52 0 ≡ get_or (two 13).memory 52 0
    -- what link 2's start and portion write where link 1's job stood
    begun : get_or (one 16).memory 22 0 ≡ get_or (two 16).memory 22 0
    over : get_or (one 17).memory 24 0 ≡ get_or (two 17).memory 24 0
    -- link 1's part of the room, which no portion touches
    room : get_or (one 20).room 0 0 ≡ get_or (two 20).room 0 0

  first_life : FirstLife
  unfolding encode_of marked marks_from run over_after after decide serve register_spsm signalled checked headers_of whole handled on_conn_req le_credit_conn_req next_pending accept_pending start_job start_planned give_portion cancel_job plan_send frame_count ceil frames_length disconnected dec_ref Calls.jobs bare verdict well_formed slot_fits every first only choose make parts moves move fill fills written
  first_life =
      let f = demand 1 0 2 1 29 (replicate 92 z) (replicate 92 z') (replicate 53 9) (calls a b c d e u v w) (calls a' b' c' d' e u v w)
      (made_well z) (made_well z') (alike z a b c d e u v w a' b' c' d' e u v w).first_life in
      record {
        every_call = f.0;
        given = f.1;
        header = (f.2 12).memory 18 refl;
        length = (f.2 12).memory 22 refl;
        last = (f.2 15).memory 21 refl;
        behind = (f.2 10).memory 25 refl;
        other = (f.2 13).memory 52 refl;
        begun = (f.2 16).memory 22 refl;
        over = (f.2 17).memory 24 refl;
        room = (f.2 20).places 0 refl;
      }
