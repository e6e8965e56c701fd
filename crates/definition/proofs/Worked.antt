-- A worked run, and worked lines in which every test of every call decides: drop a test, or swap it with the next, and a line breaks. Two
-- slots, two links whose peers both use CID 0x40, D 2. Each line stands by itself (Line.antt) and is computed; its note says which test
-- decides ("a before b": both hold). At the end, test by test, the lines that break, and what no line can tell.
use Rattle.std.specs.Prelude.{◌≡◌, refl, List, [], ◌∷◌, ◌++◌, map, ℕ, replicate, take, drop}
use Rattle.lists.specs.Bits.{bitset, count}
use Rattle.lists.specs.Choose.{choose}
use Rattle.lists.specs.Every as Each
use Rattle.lists.specs.First.{first}
use Rattle.lists.specs.Fuel.{whole}
use Rattle.codes.specs.Codes.{result_of}
use Rattle.credit.specs.Account.{due, grant_of}
use Rattle.sar_join.specs.Joining.{reached, first_step, assembled, join_step}
use Rattle.sar_cut.specs.Cutting.{ceil, frame_count, frames_length, plan_send}
use Rattle.signal_headers.specs.Headers.{headers_of}
use Rattle.signal_bodies.specs.Bodies.{command_reject_res, disconnection_req, disconnection_res, conn_param_update_req, conn_param_update_res}
use Rattle.signal_bodies.specs.LeCreditBodies.{le_credit_conn_req, le_credit_conn_res, le_credit_flow_ind}
use Rattle.signal_parameter_rule.specs.Parameters.{parameters_valid}
use Rattle.signal_write.specs.Writer.{encode_of}
use Rattle.channel.specs.declared.Answer.TheVariants.{Done, At, Link, Due, Frames, Job}
use Rattle.channel.specs.declared.ChannelState.{ChannelState}
use Rattle.channel.specs.declared.ChannelState.TheVariants.{Disconnected, PeerConnecting, Connected, PeerDisconnecting}
use Rattle.channel.specs.declared.Slot.{Slot}
use Rattle.definition.specs.Mem.{fill, move, moves, parts, fills, written}
use Rattle.definition.specs.Table.{index, slot_fits, well_formed}
use Rattle.definition.specs.Outcome.{only, verdict}
use Rattle.definition.specs.Pending.{next_pending, reject_all_pending, accept_pending, reject_pending, not_code, drop_pending}
use Rattle.definition.specs.Opening.{create, opened, give_up}
use Rattle.definition.specs.Closing.{inc_ref, dec_ref, disconnecting, disconnect, disconnect_by_cid, disconnected, next_disconnect}
use Rattle.definition.specs.Signals.{on_reject, on_disconnection_req, on_disconnection_res, on_parameters, on_parameter_response, on_conn_req, on_conn_res, on_credits, handled, checked, signalled}
use Rattle.definition.specs.Frames.{joined, dispatch, later_frames, frames, planned, send, grant_in, taken, receive}
use Rattle.definition.specs.Asking.{make, register_spsm, attention, query, send_signal}
use Rattle.definition.specs.Calls.{jobs, bare, serve, decide}
use Rattle.definition.specs.Run.{State, after, run, outcomes}
use Rattle.definition.specs.Line.{refused, answered, told, place, begins, slots, peer, every, tallied, untold, credits, reject}
use Rattle.definition.specs.Worked.{Asking_lines, Closing_lines, Frame_lines, Gate_lines, Making_lines, Opening_lines, Pending_lines, Send_lines, Signal_lines, State_lines, Take_lines, begin, story}

module _ (a b c d e x y : ℕ) where
  abbrev when : ℕ → State
  when n = run begin (take n (story a b c d e x y))

  -- slots 0 and 1: state, hold, credits held and received, peer credits
  abbrev numbers : Slot → List ℕ
  numbers s = s.hold ∷ s.account.credits ∷ s.account.received ∷ s.peer.credits ∷ []

  abbrev seen : ℕ → List (ChannelState × List ℕ)
  seen n = map (λ s. (s.state, numbers s)) (take 2 (when n).table.slots)

  record Story : Type 0 where
    answers : map (λ o. told o.answer) (outcomes begin (story a b c d e x y))
        ≡ answered Done ∷ answered Done ∷ answered Done ∷ answered (At (index 0)) ∷ answered (At (index 1)) ∷ answered (Link 1) ∷ answered (Link 2)
        ∷ answered Done ∷ answered Done ∷ answered Done ∷ answered Done ∷ refused 10 ∷ answered (Job 1 5) ∷ answered (Job 2 1)
        ∷ answered (Frames 1 3) ∷ refused 14 ∷ answered Done ∷ answered Done ∷ answered Done ∷ answered (Due 2 (index 1)) ∷ answered Done ∷ answered Done ∷ []
    -- the request of the second phone is no second use of the CID
    pendings : seen 3 ≡ (PeerConnecting 7, 0 ∷ 0 ∷ 0 ∷ 3 ∷ []) ∷ (PeerConnecting 7, 0 ∷ 0 ∷ 0 ∷ 3 ∷ []) ∷ []
    channels : seen 7 ≡ (Connected, 1 ∷ 3 ∷ 0 ∷ 3 ∷ []) ∷ (Connected, 1 ∷ 3 ∷ 0 ∷ 3 ∷ []) ∷ []
    -- after the second frame of the first phone: its half, and the other's job; then the whole, and no octet of the half
    half_way : (when 10).room ≡ begins (a ∷ b ∷ c ∷ d ∷ []) 0 ++ place 0 ++ place 0 ++ place 0 ++ begins (x ∷ []) 0 ++ place 0
    whole-job : (when 11).room ≡ place 0 ++ begins (a ∷ b ∷ c ∷ d ∷ e ∷ []) 0 ++ place 0 ++ place 0 ++ begins (x ∷ []) 0 ++ place 0
    -- three credits used, and none left: the fourth frame is refused and changes a tally alone
    used : seen 12 ≡ (Connected, 1 ∷ 0 ∷ 3 ∷ 3 ∷ []) ∷ (Connected, 1 ∷ 2 ∷ 1 ∷ 3 ∷ []) ∷ []
    -- the take copies the job and grants the three
    taken-job : take 23 (when 13).memory ≡ 8 ∷ 0 ∷ 5 ∷ 0 ∷ 0x16 ∷ 1 ∷ 4 ∷ 0 ∷ 0x40 ∷ 0 ∷ 3 ∷ 0 ∷ 25 ∷ 0 ∷ 3 ∷ 0 ∷ 0 ∷ 0 ∷ a ∷ b ∷ c ∷ d ∷ e ∷ []
    empty : (when 14).room ≡ replicate 138 0
    granted-both : seen 14 ≡ (Connected, 1 ∷ 3 ∷ 0 ∷ 3 ∷ []) ∷ (Connected, 1 ∷ 3 ∷ 0 ∷ 3 ∷ []) ∷ []
    -- 45 octets in frames of 2 + 21, 23 and 1
    frames-out : drop 23 (when 15).memory
        ≡ 23 ∷ 0 ∷ 0x40 ∷ 0 ∷ 45 ∷ 0 ∷ replicate 21 y ++ (23 ∷ 0 ∷ 0x40 ∷ 0 ∷ replicate 23 y) ++ (1 ∷ 0 ∷ 0x40 ∷ 0 ∷ y ∷ [])
    -- the credits that the second phone gives for CID 0x40 are its own channel's
    given_credits : seen 17 ≡ (Connected, 1 ∷ 3 ∷ 0 ∷ 0 ∷ []) ∷ (Connected, 1 ∷ 3 ∷ 0 ∷ 7 ∷ []) ∷ []
    -- the first phone may not close the second's slot
    not_its_own : take 10 (when 18).memory ≡ reject 8 2
    closed : seen 19 ≡ (Connected, 1 ∷ 3 ∷ 0 ∷ 0 ∷ []) ∷ (PeerDisconnecting 8, 1 ∷ 3 ∷ 0 ∷ 7 ∷ []) ∷ []
    -- frames sent and blocked sends, frames received and blocked receives: after the refused frame and the refused send; the peer's disconnect leaves them; freed, nothing is left
    tallies : map (λ n. map (λ s. s.tallies) (take 2 (when n).table.slots)) (16 ∷ 19 ∷ 20 ∷ 21 ∷ [])
        ≡ (tallied 3 1 3 1 ∷ tallied 0 0 1 0 ∷ []) ∷ (tallied 3 1 3 1 ∷ tallied 0 0 1 0 ∷ []) ∷ (tallied 3 1 3 1 ∷ untold ∷ []) ∷ (untold ∷ untold ∷ []) ∷ []
    -- freed, both keep their holds until these are released
    over : seen 22 ≡ (Disconnected, 0 ∷ 0 ∷ 0 ∷ 0 ∷ []) ∷ (Disconnected, 1 ∷ 0 ∷ 0 ∷ 0 ∷ []) ∷ []

  the_story : Story
  unfolding run outcomes after decide serve jobs bare register_spsm signalled checked headers_of whole handled on_conn_req le_credit_conn_req on_credits le_credit_flow_ind on_disconnection_req disconnection_req next_pending accept_pending dispatch joined join_step first_step reached assembled receive taken grant_in grant_of due send planned plan_send frame_count ceil frames_length frames later_frames next_disconnect disconnected dec_ref make verdict well_formed slot_fits Each.every first only choose parts moves move fill fills written encode_of
  the_story =
      record {
        answers = refl;
        pendings = refl;
        channels = refl;
        half_way = refl;
        whole-job = refl;
        used = refl;
        taken-job = refl;
        empty = refl;
        granted-both = refl;
        frames-out = refl;
        given_credits = refl;
        not_its_own = refl;
        closed = refl;
        tallies = refl;
        over = refl;
      }

pending_lines : Pending_lines
unfolding after decide serve jobs bare next_pending reject_all_pending accept_pending reject_pending not_code drop_pending result_of verdict well_formed slot_fits Each.every first only choose parts moves move fill fills written encode_of
pending_lines = record { next-pending = refl; reject_all = refl; accept = refl; reject-one = refl; codes = refl; drop-pending = refl }

opening_lines : Opening_lines
unfolding after decide serve jobs bare create opened give_up verdict well_formed slot_fits Each.every first only choose parts moves move fill fills written encode_of
opening_lines = record { creating = refl; opened-query = refl; code = refl; give_up_lem = refl }

closing_lines : Closing_lines
unfolding after decide serve jobs bare inc_ref dec_ref disconnecting disconnect disconnect_by_cid disconnected next_disconnect verdict well_formed slot_fits Each.every first only choose parts moves move fill fills written encode_of
closing_lines = record { add_hold = refl; release = refl; by-slot = refl; by_CID = refl; link_down = refl; next-disconnect = refl }

signal_lines : Signal_lines
unfolding after decide serve jobs bare signalled checked headers_of whole handled on_reject command_reject_res on_disconnection_req disconnection_req on_disconnection_res disconnection_res on_parameters conn_param_update_req parameters_valid on_parameter_response conn_param_update_res on_conn_req le_credit_conn_req on_conn_res le_credit_conn_res result_of on_credits le_credit_flow_ind verdict well_formed slot_fits Each.every first only choose parts moves move fill fills written encode_of
signal_lines =
    record {
      headers = refl;
      codes = refl;
      connect_request = refl;
      least_request = refl;
      spsms = refl;
      connect_response = refl;
      least_response = refl;
      code = refl;
      credit_signal = refl;
      disconnect-request = refl;
      disconnect-response = refl;
      parameter_request = refl;
      invalid = refl;
      told_invalid = refl;
    }

frame_lines : Frame_lines
unfolding after decide serve jobs bare dispatch joined join_step first_step reached assembled verdict well_formed slot_fits Each.every first only choose parts moves move fill fills written
frame_lines = record { refusals = refl; first-frames = refl; joining-frames = refl; long-frames = refl }

send_lines : Send_lines
unfolding after decide jobs bare send planned plan_send frame_count ceil frames_length frames later_frames verdict well_formed slot_fits Each.every first only choose parts moves move fill fills written
send_lines = record { order = refl; frames-out = refl }

take_lines : Take_lines
unfolding after decide serve jobs bare receive taken grant_in grant_of due verdict well_formed slot_fits Each.every first only choose parts moves move fill fills written encode_of
take_lines = record { states = refl; jobs-out = refl; short = refl; signal-first = refl; policies = refl }

asking_lines : Asking_lines
unfolding after decide serve jobs bare register_spsm attention bitset count query send_signal verdict well_formed slot_fits Each.every first only choose parts moves move fill fills written encode_of
asking_lines = record { registers = refl; registered = refl; attentions = refl; lowest_free_lem = refl; queries = refl; senders = refl }

state_lines : State_lines
unfolding after decide serve jobs bare next_pending accept_pending reject_pending drop_pending create opened give_up dec_ref disconnecting disconnect disconnected next_disconnect signalled checked headers_of whole handled on_disconnection_req disconnection_req on_disconnection_res disconnection_res on_conn_req le_credit_conn_req on_conn_res le_credit_conn_res result_of on_credits le_credit_flow_ind dispatch joined join_step first_step reached assembled send planned plan_send frame_count ceil frames_length frames later_frames receive attention bitset count verdict well_formed slot_fits Each.every first only choose encode_of
state_lines =
    record {
      next-pending = refl;
      accept = refl;
      reject-one = refl;
      drop-pending = refl;
      opened-query = refl;
      give_up_lem = refl;
      response_in = refl;
      credits_in_lem = refl;
      frame_in_lem = refl;
      sending = refl;
      taking = refl;
      released = refl;
      by-slot = refl;
      unmatched = refl;
      request_in = refl;
      gone_in = refl;
      link_down = refl;
      announced = refl;
      attending = refl;
      used = refl;
      no_free_slot = refl;
    }

gate_lines : Gate_lines
unfolding decide serve register_spsm signalled checked headers_of whole next_pending reject_all_pending accept_pending reject_pending not_code drop_pending create opened give_up inc_ref dec_ref disconnect disconnecting disconnect_by_cid disconnected next_disconnect dispatch send receive attention query send_signal verdict well_formed slot_fits Each.every first choose
gate_lines =
    record {
      registers = refl;
      signals_in = refl;
      next-pending = refl;
      reject_all = refl;
      accept = refl;
      reject-one = refl;
      reject_no_code = refl;
      drop-pending = refl;
      creating = refl;
      opened-query = refl;
      give_up_lem = refl;
      add_hold = refl;
      release = refl;
      by-slot = refl;
      by_CID = refl;
      link_down = refl;
      next-disconnect = refl;
      frame_in_lem = refl;
      sending = refl;
      taking = refl;
      attending = refl;
      querying = refl;
      senders = refl;
      edges = refl;
      unfit = refl;
      fit = refl;
    }

making_lines : Making_lines
unfolding make choose
making_lines = record { limits = refl; short = refl; no-slots = refl; left = refl; made_table = refl; made-room = refl; answer = refl }
