-- Worked lines of the tallies (document 02 (vi); Slots.antt, `counted` and what follows it): which call counts what, what resets them, and that they wrap. A slot has counted 7 frames sent, 5 blocked
-- sends, 3 frames received and 2 blocked receives, where nothing else is said.
use Rattle.std.specs.Prelude.{refl, ◌-◌}
use Rattle.lists.specs.Choose.{choose}
use Rattle.lists.specs.Every as Each
use Rattle.lists.specs.First.{first}
use Rattle.lists.specs.Fuel.{whole}
use Rattle.sar_join.specs.Joining.{join_step, first_step, reached}
use Rattle.sar_cut.specs.Cutting.{ceil, frame_count, frames_length, plan_send}
use Rattle.signal_headers.specs.Headers.{headers_of}
use Rattle.signal_bodies.specs.Bodies.{disconnection_req, disconnection_res}
use Rattle.signal_bodies.specs.LeCreditBodies.{le_credit_flow_ind}
use Rattle.signal_write.specs.Writer.{encode_of}
use Rattle.definition.specs.Table.{slot_fits, well_formed}
use Rattle.definition.specs.Outcome.{only, verdict}
use Rattle.definition.specs.Pending.{drop_pending}
use Rattle.definition.specs.Opening.{opened, give_up}
use Rattle.definition.specs.Closing.{dec_ref, disconnecting, disconnect, disconnect_by_cid, disconnected, next_disconnect}
use Rattle.definition.specs.Signals.{on_disconnection_req, on_disconnection_res, on_credits, handled, checked, signalled}
use Rattle.definition.specs.Frames.{dispatch, joined, send, planned}
use Rattle.definition.specs.Portions.{start_planned, start_job, give_portion, cancel_job}
use Rattle.definition.specs.Asking.{query}
use Rattle.definition.specs.Calls.{jobs, bare, serve, decide}
use Rattle.definition.specs.Line.{every}
use Rattle.definition.specs.TallyLines.{Frame_tallies, Resets, Send_tallies, Tally_queries, Wrap_tallies}

send_tallies : Send_tallies
unfolding send planned plan_send frame_count ceil frames_length start_job start_planned give_portion cancel_job verdict well_formed slot_fits Each.every choose
send_tallies = record { sends = refl; starts = refl; portions = refl; cancels = refl }

frame_tallies : Frame_tallies
unfolding dispatch joined join_step first_step reached verdict well_formed slot_fits Each.every choose
frame_tallies = record { frames_in = refl }

wrap_tallies : Wrap_tallies
unfolding send planned plan_send frame_count ceil frames_length start_job start_planned dispatch joined join_step first_step reached verdict well_formed slot_fits Each.every choose
wrap_tallies = record { wraps = refl }

resets : Resets
unfolding decide serve jobs bare drop_pending opened give_up dec_ref disconnecting disconnect disconnect_by_cid disconnected next_disconnect signalled checked headers_of whole handled on_disconnection_req disconnection_req on_disconnection_res disconnection_res on_credits le_credit_flow_ind verdict well_formed slot_fits Each.every first only choose encode_of
resets =
    record {
      released = refl;
      held_on = refl;
      by-slot = refl;
      by_cid = refl;
      overflow = refl;
      request_in = refl;
      link_down = refl;
      announced = refl;
      gone_in = refl;
      opened_up = refl;
      opened_down = refl;
      given_up = refl;
      dropped = refl;
    }

tally_queries : Tally_queries
unfolding query verdict well_formed slot_fits Each.every choose
tally_queries = record { told-each = refl }
