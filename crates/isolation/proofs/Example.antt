-- The worked run of crate definition meets the premises of demand 3, whatever its job octets; and where its marks stand: on the job that
-- was taken and on the payload of the frame that was sent, on nothing else.
use Rattle.signal_write.specs.Writer.{encode_of}
use Rattle.std.specs.Prelude.{◌≡◌, true, false, [], ◌∷◌, ◌++◌, ℕ, replicate, take}
use Rattle.std.proofs.Math.Path.{refl}
use Rattle.std.proofs.Common.{sym}
use Rattle.std.proofs.lemmas.Bool.{false≢true}
use Rattle.lists.specs.Choose.{choose}
use Rattle.lists.specs.First.{first}
use Rattle.lists.specs.Every.{every}
use Rattle.lists.specs.Fuel.{whole}
use Rattle.credit.specs.Account.{due, grant_of}
use Rattle.sar_cut.specs.Cutting.{ceil, frame_count, frames_length, plan_send}
use Rattle.sar_join.specs.Joining.{reached, first_step, assembled, join_step}
use Rattle.signal_headers.specs.Headers.{headers_of}
use Rattle.signal_bodies.specs.LeCreditBodies.{le_credit_conn_req}
use Rattle.definition.specs.Mem.{fill, move, moves, parts, fills, written}
use Rattle.definition.specs.Table.{slot_fits, well_formed}
use Rattle.definition.specs.Outcome.{only, verdict}
use Rattle.definition.specs.Pending.{next_pending, accept_pending}
use Rattle.definition.specs.Closing.{dec_ref, disconnecting, disconnect, disconnected, next_disconnect}
use Rattle.definition.specs.Signals.{on_conn_req, handled, checked, signalled}
use Rattle.definition.specs.Frames.{joined, dispatch, later_frames, frames, planned, send, grant_in, taken, receive}
use Rattle.definition.specs.Asking.{make, register_spsm}
use Rattle.definition.specs.Calls as Calls
use Rattle.definition.specs.Calls.{bare, serve, decide}
use Rattle.definition.specs.Numbers.{answer_number}
use Rattle.definition.specs.Run.{after}
use Rattle.definition.specs.Example.{start, calls}
use Rattle.isolation.specs.Statement.{over_after, sent, framed, same, exchanged, AlikeRuns, marked, marks_from, marks_of}

made_well : answer_number (make 2 1 29 (replicate 92 5)).answer ≡ 0
unfolding make choose
made_well = refl

-- Two such runs with different job octets are alike: in life 0 of link 1.
pub alike : (id a b c x y e a' b' c' x' y' e' : ℕ) → AlikeRuns 1 0 0 start (calls id a b c x y e) (calls id a' b' c' x' y' e')
unfolding encode_of over_after after decide serve register_spsm signalled checked headers_of whole handled on_conn_req le_credit_conn_req next_pending accept_pending dispatch joined join_step first_step reached assembled receive taken grant_in grant_of due send planned plan_send frame_count ceil frames_length frames later_frames disconnect disconnecting next_disconnect disconnected dec_ref Calls.jobs bare verdict well_formed slot_fits every first only choose make parts moves move fill fills written
alike id a b c x y e a' b' c' x' y' e' = (
  same,
  (
    same,
    (
      same,
      (
        same,
        (
          exchanged refl (framed refl (λ _. refl)),
          (
            exchanged refl (framed refl (λ (e : true ≡ false). absurd (false≢true (sym e)))),
            (same, (exchanged refl (sent {s = 0} refl refl), (exchanged refl (framed refl (λ _. refl)), (same, (same, (same, (same, tt))))))),
          ),
        ),
      ),
    ),
  ),
)

module _ (id a b c x y e : ℕ) where
  record Marked : Type 0 where
    -- two octets in the assembly place
    half : (marks_of 1 0 start (take 5 (calls id a b c x y e))).room ≡ true ∷ true ∷ replicate 90 false
    -- the job at 18 to 20, the frame's payload at 28 and 29; the signals and the frame's header are not marked
    memory : (marks_of 1 0 start (calls id a b c x y e)).memory ≡ replicate 18 false ++ (true ∷ true ∷ true ∷ replicate 7 false ++ (true ∷ true ∷ []))
    room : (marks_of 1 0 start (calls id a b c x y e)).room ≡ replicate 92 false
    over : (marks_of 1 0 start (calls id a b c x y e)).over ≡ 1

  marks : Marked
  unfolding encode_of marks_from marked over_after after decide serve register_spsm signalled checked headers_of whole handled on_conn_req le_credit_conn_req next_pending accept_pending dispatch joined join_step first_step reached assembled receive taken grant_in grant_of due send planned plan_send frame_count ceil frames_length frames later_frames disconnect disconnecting next_disconnect disconnected dec_ref Calls.jobs bare verdict well_formed slot_fits every first only choose make parts moves move fill fills written
  marks = record { half = refl; memory = refl; room = refl; over = refl }
