-- Runs worked out, with job octets and identifiers that may be any: what the calls really do, and that demand 3 isn't empty. One channel
-- from request to link-down; the client's accident, which leaves nothing behind; two phones' signals.
use Rattle.signal_write.specs.Writer.{encode_of}
use Rattle.std.specs.Prelude.{◌≡◌, true, false, [], ◌∷◌, ◌++◌, ℕ, replicate, take, drop, set}
use Rattle.std.proofs.Math.Path.{refl}
use Rattle.lists.specs.Choose.{choose}
use Rattle.lists.specs.First.{first}
use Rattle.lists.specs.Every.{every}
use Rattle.lists.specs.Fuel.{whole}
use Rattle.credit.specs.declared.CreditFlowPolicy.TheVariants.{Every}
use Rattle.credit.specs.Account.{due, grant_of}
use Rattle.sar_cut.specs.Cutting.{ceil, frame_count, frames_length, plan_send}
use Rattle.sar_join.specs.Joining.{reached, first_step, assembled, join_step}
use Rattle.codes.specs.declared.Refusal.TheVariants as Refusal
use Rattle.codes.specs.Codes.{result_of}
use Rattle.signal_headers.specs.Headers.{headers_of, rest_of}
use Rattle.signal_bodies.specs.Bodies.{command_reject_res, disconnection_req, disconnection_res, conn_param_update_req, conn_param_update_res}
use Rattle.signal_bodies.specs.LeCreditBodies.{le_credit_conn_req, le_credit_conn_res, le_credit_flow_ind}
use Rattle.signal_parameter_rule.specs.Parameters.{parameters_valid}
use Rattle.channel.specs.declared.Answer.TheVariants.{Done, Refused, At, Link, Due, Frames, Job, Event}
use Rattle.channel.specs.declared.ChannelState.TheVariants.{Disconnected, Connecting, Connected, PeerDisconnecting, Disconnecting}
use Rattle.channel.specs.declared.Slot.{Slot}
use Rattle.definition.specs.Mem.{fill, move, moves, parts, fills, written}
use Rattle.definition.specs.Table.{fresh, slot_at, index, slot_fits, well_formed}
use Rattle.definition.specs.Outcome.{only, verdict}
use Rattle.definition.specs.Pending.{next_pending, accept_pending}
use Rattle.definition.specs.Opening.{create}
use Rattle.definition.specs.Closing.{dec_ref, disconnecting, disconnect, disconnected, next_disconnect}
use Rattle.definition.specs.Signals.{on_reject, on_disconnection_req, on_disconnection_res, on_parameters, on_parameter_response, on_conn_req, on_conn_res, on_credits, handled, checked, signalled}
use Rattle.definition.specs.Frames.{joined, dispatch, later_frames, frames, planned, send, grant_in, taken, receive}
use Rattle.definition.specs.Asking.{make, register_spsm}
use Rattle.definition.specs.Calls.{down, jobs, bare, serve, decide}
use Rattle.definition.specs.Run.{State, after, run, outcomes}
use Rattle.definition.specs.Example.{accident, answers, calls, credits, parameters, response, signalling, start, states}

module _ (id a b c x y e : ℕ) where
  abbrev at : ℕ → State
  at n = run start (take n (calls id a b c x y e))

  abbrev slot : ℕ → Slot
  slot n = slot_at (at n).table 0

  record Channel : Type 0 where
    answered : answers start (calls id a b c x y e)
        ≡ Done ∷ Done ∷ At (index 0) ∷ Link 1 ∷ Done ∷ Done ∷ Job 1 3 ∷ Frames 1 1 ∷ Done ∷ Done ∷ Due 1 (index 0) ∷ Done ∷ Done ∷ []
    -- our response: CID 0x40, MTU 23, MPS 25, 5 credits, result 0
    response : take 18 (at 4).memory ≡ 14 ∷ 0 ∷ 5 ∷ 0 ∷ 0x15 ∷ id ∷ 10 ∷ 0 ∷ 0x40 ∷ 0 ∷ 23 ∷ 0 ∷ 25 ∷ 0 ∷ 5 ∷ 0 ∷ 0 ∷ 0 ∷ []
    -- the first frame's octets stand in the assembly place, the finished job in the place behind it, and later none
    assembling : (at 5).room ≡ a ∷ b ∷ replicate 90 0
    finished : (at 6).room ≡ replicate 23 0 ++ (a ∷ b ∷ c ∷ replicate 66 0)
    emptied : (at 7).room ≡ replicate 92 0
    -- each frame uses a credit, and the take grants them again
    used : (slot 6).account ≡ record { policy = Every 1; credits = 3; received = 2 }
    granted : (slot 7).account ≡ record { policy = Every 1; credits = 5; received = 0 }
    -- the grant of 2 credits for CID 0x40; the job; the frame, to the peer's CID 0x50, which takes one of its credits
    memory : (at 8).memory
        ≡ 8 ∷ 0 ∷ 5 ∷ 0 ∷ 0x16 ∷ 1 ∷ 4 ∷ 0 ∷ 0x40 ∷ 0 ∷ 2 ∷ 0 ∷ 25 ∷ 0 ∷ 5 ∷ 0 ∷ 0 ∷ 0 ∷ a ∷ b ∷ c ∷ 9 ∷ 4 ∷ 0 ∷ 0x50 ∷ 0 ∷ 2 ∷ 0 ∷ x ∷ y ∷ []
    sent : (slot 8).peer.credits ≡ 4
    -- our disconnect request, announced once
    left : states (at 10) ≡ Disconnecting false ∷ Disconnected ∷ []
    announced : states (at 11) ≡ Disconnecting true ∷ Disconnected ∷ []
    request : take 12 (at 11).memory ≡ 8 ∷ 0 ∷ 5 ∷ 0 ∷ 0x06 ∷ 2 ∷ 4 ∷ 0 ∷ 0x50 ∷ 0 ∷ 0x40 ∷ 0 ∷ []
    -- the job that waits stays, until link down
    waiting : (at 11).room ≡ replicate 23 0 ++ (e ∷ replicate 68 0)
    clean : (at 12).room ≡ replicate 92 0
    -- link down frees the slot, all but its hold; released, it is as new
    down : (at 12).table.slots ≡ fresh 1 ∷ replicate 15 (fresh 0)
    over : (at 13).table ≡ record { slots = replicate 16 (fresh 0); n = 2; d = 1; m = 29; identifier = 3; spsms = set (replicate 32 0) 16 1 }

  channel : Channel
  unfolding encode_of run outcomes after decide serve register_spsm signalled checked headers_of whole handled on_conn_req le_credit_conn_req next_pending accept_pending dispatch joined join_step first_step reached assembled receive taken grant_in grant_of due send planned plan_send frame_count ceil frames_length frames later_frames disconnect disconnecting next_disconnect disconnected dec_ref jobs bare verdict well_formed slot_fits every first only choose make parts moves move fill fills written
  channel =
      record {
        answered = refl;
        response = refl;
        assembling = refl;
        finished = refl;
        emptied = refl;
        used = refl;
        granted = refl;
        memory = refl;
        sent = refl;
        left = refl;
        announced = refl;
        request = refl;
        waiting = refl;
        clean = refl;
        down = refl;
        over = refl;
      }

module _ (id a b e : ℕ) where
  abbrev later : ℕ → State
  later n = run start (take n (accident id a b e))

  record NextPhone : Type 0 where
    answered : answers start (accident id a b e)
        ≡ Done ∷ Done ∷ At (index 0) ∷ Link 1 ∷ Done ∷ Done ∷ Due 1 (index 0) ∷ Done ∷ Done ∷ At (index 0) ∷ Link 2 ∷ Done ∷ Job 2 1 ∷ []
    half : (later 5).room ≡ a ∷ b ∷ replicate 90 0
    closed : states (later 6) ≡ PeerDisconnecting id ∷ Disconnected ∷ []
    cleared : (later 6).room ≡ replicate 92 0
    response : take 12 (later 7).memory ≡ 8 ∷ 0 ∷ 5 ∷ 0 ∷ 0x07 ∷ id ∷ 4 ∷ 0 ∷ 0x40 ∷ 0 ∷ 0x50 ∷ 0 ∷ []
    alone : (later 12).room ≡ replicate 23 0 ++ (e ∷ replicate 68 0)
    job : take 4 (drop 18 (later 13).memory) ≡ e ∷ 9 ∷ 9 ∷ 9 ∷ []

  next_phone : NextPhone
  unfolding encode_of run outcomes after decide serve register_spsm signalled checked headers_of whole handled on_conn_req le_credit_conn_req on_disconnection_req disconnection_req next_pending accept_pending dispatch joined join_step first_step reached assembled receive taken grant_in grant_of due next_disconnect dec_ref jobs bare verdict well_formed slot_fits every first only choose make parts moves move fill fills written
  next_phone = record { answered = refl; half = refl; closed = refl; cleared = refl; response = refl; alone = refl; job = refl }

module _ (id : ℕ) where
  abbrev when : ℕ → State
  when n = run start (take n (signalling id))

  record Signalled : Type 0 where
    answered : answers start (signalling id)
        ≡ At (index 0) ∷ At (index 1) ∷ Refused Refusal.NotFound ∷ Done ∷ Done ∷ Event 6 8 0 10 ∷ Done ∷ Done ∷ Done ∷ Done ∷ Done ∷ Refused Refusal.NotSupported ∷ []
    asked : states (when 2) ≡ Connecting 1 ∷ Connecting 2 ∷ []
    -- our request: SPSM 0x81, CID 0x41, MTU 23, MPS 25, 5 credits
    request : take 18 (when 2).memory ≡ 14 ∷ 0 ∷ 5 ∷ 0 ∷ 0x14 ∷ 2 ∷ 10 ∷ 0 ∷ 0x81 ∷ 0 ∷ 0x41 ∷ 0 ∷ 23 ∷ 0 ∷ 25 ∷ 0 ∷ 5 ∷ 0 ∷ []
    unmatched : states (when 3) ≡ Disconnected ∷ Connecting 2 ∷ []
    matched : states (when 4) ≡ Disconnected ∷ Connected ∷ []
    first : (slot_at (when 5).table 1).peer ≡ record { cid = 0x60; mps = 23; mtu = 64; credits = 8 }
    rest : rest_of (credits ++ parameters) ≡ parameters
    -- only the link whose channel it is ends it
    others : states (when 8) ≡ Disconnected ∷ Disconnecting false ∷ []
    own : states (when 9) ≡ Disconnected ∷ Disconnected ∷ []
    -- a reject reply to a code that is not known
    reply : take 10 (when 12).memory ≡ 6 ∷ 0 ∷ 5 ∷ 0 ∷ 0x01 ∷ id ∷ 2 ∷ 0 ∷ 0 ∷ 0 ∷ []

  signalled_so : Signalled
  unfolding encode_of run outcomes after decide serve create signalled checked headers_of whole handled on_conn_res le_credit_conn_res result_of on_credits le_credit_flow_ind on_parameters conn_param_update_req parameters_valid on_disconnection_res disconnection_res on_reject command_reject_res on_parameter_response conn_param_update_res disconnect disconnecting jobs bare verdict well_formed slot_fits every Rattle.lists.specs.First.first only choose make parts moves move fill fills written
  signalled_so =
      record { answered = refl; asked = refl; request = refl; unmatched = refl; matched = refl; first = refl; rest = refl; others = refl; own = refl; reply = refl }
