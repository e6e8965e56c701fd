-- A worked run with two links and two lives, and where its marks stand after every call: two links whose peers use the same CID, a second
-- life of link 1, buffers that overlap and buffers lent again to another link, a frame that names another link's slot, a refused
-- link-down. So a statement that excepted more than that link's octets, or any octet longer, is refused here.
use Rattle.signal_write.specs.Writer.{encode_of}
use Rattle.std.specs.Prelude.{◌≡◌, Bool, false, List, [], ◌∷◌, ◌++◌, map, ℕ, replicate, take}
use Rattle.std.proofs.Math.Path.{refl}
use Rattle.std.proofs.Common.{sym}
use Rattle.std.proofs.Math.Bool.{true}
use Rattle.std.proofs.lemmas.Bool.{false≢true}
use Rattle.lists.specs.Choose.{choose}
use Rattle.lists.specs.First.{first}
use Rattle.lists.specs.Every.{every}
use Rattle.lists.specs.Fuel.{whole}
use Rattle.credit.specs.Account.{due, grant_of}
use Rattle.sar_cut.specs.Cutting.{ceil, frame_count, frames_length, plan_send}
use Rattle.sar_join.specs.Joining.{reached, first_step, assembled, join_step}
use Rattle.codes.specs.declared.Refusal.TheVariants as Refusal
use Rattle.signal_headers.specs.Headers.{headers_of}
use Rattle.signal_bodies.specs.LeCreditBodies.{le_credit_conn_req}
use Rattle.channel.specs.declared.Answer.TheVariants.{Done, Refused, At, Link, Frames, Job}
use Rattle.channel.specs.declared.Table.{Table}
use Rattle.definition.specs.Mem.{Fill, held, fill, move, moves, parts, fills, written}
use Rattle.definition.specs.Table.{index, slot_fits, well_formed}
use Rattle.definition.specs.Outcome.{only, verdict}
use Rattle.definition.specs.Pending.{next_pending, accept_pending}
use Rattle.definition.specs.Closing.{dec_ref, disconnected}
use Rattle.definition.specs.Signals.{on_conn_req, handled, checked, signalled}
use Rattle.definition.specs.Frames.{joined, dispatch, later_frames, frames, planned, send, grant_in, taken, receive}
use Rattle.definition.specs.Asking.{make, register_spsm}
use Rattle.definition.specs.Calls.{Call, sends, portions, plain, releases, takes, starts, bare, serve, decide}
use Rattle.definition.specs.Calls as Calls
use Rattle.definition.specs.Run.{after, run, outcomes}
use Rattle.isolation.specs.Statement.{owns, assembling, jobs, carries, frames_out, job_out, over_after, sent, framed, same, exchanged, AlikeRuns, marked, handed}
use Rattle.isolation.specs.Lives.{buffer, calls, each, gives, grant, response, row, rows, standing, start, trail, unlent, window}

module _ (z a b c x y p e u v w : ℕ) where
  record Marked : Type 0 where
    -- link 1, life 0
    first_life : trail 1 0 (start z) (calls a b c x y p e u v w)
        ≡ replicate 7 (row 0 [] [])  -- two channels are opened
        ++ (row 0 (0 ∷ 1 ∷ []) []  -- a and b, in the assembly place
        ∷ row 0 (0 ∷ 1 ∷ []) []  -- link 2's job is not marked
        ∷ row 0 (0 ∷ 1 ∷ []) []
        ∷ row 0 (23 ∷ 24 ∷ 25 ∷ []) []  -- the job is finished
        ∷ row 0 [] (12 ∷ [])  -- and taken to octets 10 to 12; the grant is written over 10 and 11
        ∷ row 0 [] []  -- link 2's job is written over octet 12
        ∷ row 0 [] (28 ∷ 29 ∷ [])  -- the payload of the frame that is sent, not its header
        ∷ row 0 [] (29 ∷ [])  -- link 2's frame is written over the rest
        ∷ row 0 (0 ∷ []) (29 ∷ [])  -- half a job
        ∷ row 0 (0 ∷ []) (29 ∷ [])  -- a link-down that is refused ends no life
        ∷ replicate 7 (row 1 [] (29 ∷ []))  -- the life is over: later jobs are not marked
        ++ (row 2 [] (29 ∷ []) ∷ []))
    -- link 1, life 1
    second_life : trail 1 1 (start z) (calls a b c x y p e u v w)
        ≡ replicate 17 (row 0 [] []) ++ (replicate 5 (row 1 [] []) ++ (row 1 (23 ∷ []) [] ∷ row 1 [] (28 ∷ []) ∷ row 2 [] (28 ∷ []) ∷ []))
    -- link 2, life 0, which lasts: link 1's jobs are written over its octets in turn
    other_link : trail 2 0 (start z) (calls a b c x y p e u v w)
        ≡ replicate 8 (row 0 [] [])
        ++ (replicate 4 (row 0 (69 ∷ []) [])
        ++ (row 0 [] (12 ∷ [])
        ∷ row 0 [] (12 ∷ [])
        ∷ replicate 7 (row 0 [] (12 ∷ 27 ∷ 28 ∷ []))
        ++ (row 0 [] (27 ∷ 28 ∷ []) ∷ row 0 [] (27 ∷ 28 ∷ []) ∷ row 0 [] (27 ∷ []) ∷ row 0 [] (27 ∷ []) ∷ [])))
    -- no link: nothing is marked, and its refused link-down counts for nothing
    no-link : trail 0x0F00 0 (start z) (calls a b c x y p e u v w) ≡ replicate 25 (row 0 [] [])

  marks : Marked
  unfolding encode_of standing rows marked over_after after decide serve register_spsm signalled checked headers_of whole handled on_conn_req le_credit_conn_req next_pending accept_pending dispatch joined join_step first_step reached assembled receive taken grant_in grant_of due send planned plan_send frame_count ceil frames_length frames later_frames disconnected dec_ref Calls.jobs bare verdict well_formed slot_fits every first only choose make parts moves move fill fills written
  marks = record { first_life = refl; second_life = refl; other_link = refl; no-link = refl }

module _ (z a b c x y p e u v w : ℕ) where
  abbrev when : (Table → Call → Bool) → List ℕ
  when f = standing 0 (each f (start z) (calls a b c x y p e u v w))

  record Told : Type 0 where
    answered : map (λ o. o.answer) (outcomes (start z) (calls a b c x y p e u v w))
        ≡ Done ∷ Done ∷ At (index 0) ∷ Link 1 ∷ Done ∷ At (index 1) ∷ Link 2 ∷ Done ∷ Done ∷ Refused Refusal.NotFound ∷ Done ∷ Job 1 3 ∷ Job 2 1 ∷ Frames 1 1 ∷ Frames 2 1
        ∷ Done ∷ Refused Refusal.BadHandle ∷ Done ∷ Done ∷ Done ∷ At (index 0) ∷ Link 1 ∷ Done ∷ Job 1 1 ∷ Done ∷ []
    -- every signal, octet by octet, and link 2's job and frame; link 1's jobs and frames are not in it
    given : handed 1 (start z) (calls a b c x y p e u v w)
        ≡ replicate 3 (gives [] [])
        ++ (gives (response 0x40) []
        ∷ gives [] []
        ∷ gives [] []
        ∷ gives (response 0x41) []
        ∷ replicate 4 (gives [] [])
        ++ (gives (grant 1 0x40 2) []
        ∷ gives (grant 2 0x41 1) (u ∷ [])
        ∷ gives [] []
        ∷ gives (4 ∷ 0 ∷ 0x50 ∷ 0 ∷ 2 ∷ 0 ∷ v ∷ w ∷ []) []
        ∷ replicate 6 (gives [] [])
        ++ (gives (response 0x40) [] ∷ gives [] [] ∷ gives (grant 3 0x40 1) [] ∷ gives [] [] ∷ [])))
    -- job octets: not the length octets, where no assembly is open
    octets : each jobs (start z) (calls a b c x y p e u v w)
        ≡ [] ∷ [] ∷ [] ∷ [] ∷ [] ∷ [] ∷ [] ∷ (a ∷ b ∷ []) ∷ (u ∷ []) ∷ (0 ∷ []) ∷ (c ∷ []) ∷ [] ∷ [] ∷ (x ∷ y ∷ []) ∷ (v ∷ w ∷ [])
        ∷ (p ∷ []) ∷ [] ∷ [] ∷ [] ∷ [] ∷ [] ∷ [] ∷ (e ∷ []) ∷ [] ∷ [] ∷ []
    half : when (λ t _. assembling t 0x40) ≡ 8 ∷ 9 ∷ 10 ∷ 16 ∷ 17 ∷ []
    carried_1 : when (carries 1) ≡ 7 ∷ 10 ∷ 13 ∷ 15 ∷ 22 ∷ []
    carried_2 : when (carries 2) ≡ 8 ∷ 9 ∷ 14 ∷ []  -- and the frame that names link 1's slot
    frames_1 : when (frames_out 1) ≡ 13 ∷ []
    frames_2 : when (frames_out 2) ≡ 14 ∷ []
    job_1 : when (job_out 1) ≡ 11 ∷ 23 ∷ []
    job_2 : when (job_out 2) ≡ 12 ∷ []
    -- slot 0 is link 1's from its request to link-down, and again; before, between and after it is nobody's, not link 0's either
    slot_0 : when (λ t _. owns 1 t 0) ≡ 2 ∷ 3 ∷ 4 ∷ 5 ∷ 6 ∷ 7 ∷ 8 ∷ 9 ∷ 10 ∷ 11 ∷ 12 ∷ 13 ∷ 14 ∷ 15 ∷ 16 ∷ 17 ∷ 20 ∷ 21 ∷ 22 ∷ 23 ∷ 24 ∷ []
    nobodys : when (λ t _. owns 0 t 0) ≡ []
    others : when (λ t _. owns 2 t 0) ≡ []

  told : Told
  unfolding encode_of standing each outcomes handed after decide serve register_spsm signalled checked headers_of whole handled on_conn_req le_credit_conn_req next_pending accept_pending dispatch joined join_step first_step reached assembled receive taken grant_in grant_of due send planned plan_send frame_count ceil frames_length frames later_frames disconnected dec_ref Calls.jobs bare verdict well_formed slot_fits every first only choose make parts moves move fill fills written
  told =
      record {
        answered = refl;
        given = refl;
        octets = refl;
        half = refl;
        carried_1 = refl;
        carried_2 = refl;
        frames_1 = refl;
        frames_2 = refl;
        job_1 = refl;
        job_2 = refl;
        slot_0 = refl;
        nobodys = refl;
        others = refl;
      }

-- ---- outcomes that no call has, in the table after 11 calls, in which link 1's job waits in slot 0: what they tell of it is not excepted

module _ (z a b c x y p e u v w : ℕ) where
  abbrev waiting : Table
  waiting = (run (start z) (take 11 (calls a b c x y p e u v w))).table

  -- the marks in memory that a call would leave, were this what it writes to its two buffers
  abbrev left : (out job : List Fill) → Call → List ℕ
  left out job c =
      standing 0 (marked 1 0 waiting (record { answer = Done; table = waiting; parts = []; at = 0; out = out; octets = 0; job = job })
      (record { over = 0; room = replicate 23 false ++ (true ∷ true ∷ true ∷ replicate 66 false); memory = replicate 30 false }) c).memory

  record Unexcused : Type 0 where
    -- a take from link 1's slot hands its job out; the octet of it that is told in the signal buffer is not excepted
    signal : left (held 23 1 ∷ []) (held 23 3 ∷ []) (plain (takes 0) buffer (window 18 4)) ≡ 18 ∷ 19 ∷ 20 ∷ []
    -- a take from link 2's slot, and a send on it
    take_2 : left [] (held 23 3 ∷ []) (plain (takes 1) buffer (window 18 4)) ≡ []
    send_2 : left (held 23 3 ∷ []) [] (sends 1 (v ∷ w ∷ []) (window 20 8)) ≡ []
    -- a portion on link 2's slot, and a start on link 1's own
    portion_2 : left (held 23 3 ∷ []) [] (portions 1 (v ∷ w ∷ []) (window 20 8)) ≡ []
    start_1 : left (held 23 3 ∷ []) [] (plain (starts 0 2) (window 20 8) unlent) ≡ []
    -- a call of another kind, on link 1's slot
    other : left (held 23 3 ∷ []) (held 23 3 ∷ []) (plain (releases 0) buffer (window 18 4)) ≡ []

  unexcused : Unexcused
  unfolding encode_of standing run marked over_after after decide serve register_spsm signalled checked headers_of whole handled on_conn_req le_credit_conn_req next_pending accept_pending dispatch joined join_step first_step reached assembled receive taken grant_in grant_of due send planned plan_send frame_count ceil frames_length frames later_frames disconnected dec_ref Calls.jobs bare verdict well_formed slot_fits every first only choose make parts moves move fill fills written
  unexcused = record { signal = refl; take_2 = refl; send_2 = refl; portion_2 = refl; start_1 = refl; other = refl }

-- ---- such runs are alike, whatever their job octets

module _ (z a b c x y p e u v w a' b' c' x' y' p' e' u' v' w' : ℕ) where
  pub record AllAlike : Type 0 where
    pub first_life : AlikeRuns 1 0 0 (start z) (calls a b c x y p e u v w) (calls a' b' c' x' y' p' e u v w)
    pub second_life : AlikeRuns 1 1 0 (start z) (calls a b c x y p e u v w) (calls a b c x y p e' u v w)
    pub other_link : AlikeRuns 2 0 0 (start z) (calls a b c x y p e u v w) (calls a b c x y p e u' v' w')

  pub alike : AllAlike
  unfolding encode_of over_after after decide serve register_spsm signalled checked headers_of whole handled on_conn_req le_credit_conn_req next_pending accept_pending dispatch joined join_step first_step reached assembled receive taken grant_in grant_of due send planned plan_send frame_count ceil frames_length frames later_frames disconnected dec_ref Calls.jobs bare verdict well_formed slot_fits every first only choose make parts moves move fill fills written
  alike =
      record {
        first_life = (same, (same, (same, (same, (same, (same, (same, (exchanged refl (framed refl (λ _. refl)), (same, (same, (exchanged refl (framed refl (λ (f : true ≡ false). absurd (false≢true (sym f)))), (same, (same, (exchanged refl (sent {s = 0} refl refl), (same, (exchanged refl (framed refl (λ _. refl)), (same, (same, (same, (same, (same, (same, (same, (same, (same, tt)))))))))))))))))))))))));
        second_life = (same, (same, (same, (same, (same, (same, (same, (same, (same, (same, (same, (same, (same, (same, (same, (same, (same, (same, (same, (same, (same, (same, (exchanged refl (framed refl (λ _. refl)), (same, (same, tt)))))))))))))))))))))))));
        other_link = (same, (same, (same, (same, (same, (same, (same, (same, (exchanged refl (framed refl (λ _. refl)), (same, (same, (same, (same, (same, (exchanged refl (sent {s = 1} refl refl), (same, (same, (same, (same, (same, (same, (same, (same, (same, (same, tt)))))))))))))))))))))))));
      }
