-- Worked lines of jobs handed over in portions (Portions.antt): a table of two slots, a call, what it answers and leaves; in them every test of the three
-- calls decides, and every clause of document 02 (i) that older calls got.
use Rattle.std.specs.Prelude.{refl}
use Rattle.lists.specs.Choose.{choose}
use Rattle.lists.specs.Every as Each
use Rattle.lists.specs.First.{first}
use Rattle.lists.specs.Fuel.{whole}
use Rattle.sar_cut.specs.Cutting.{ceil, frame_count, frames_length, plan_send}
use Rattle.signal_headers.specs.Headers.{headers_of}
use Rattle.signal_bodies.specs.Bodies.{disconnection_req}
use Rattle.signal_bodies.specs.LeCreditBodies.{le_credit_flow_ind}
use Rattle.definition.specs.Mem.{sizes, size, fill, move, moves, parts, fills, written}
use Rattle.definition.specs.Table.{slot_fits, well_formed}
use Rattle.definition.specs.Outcome.{only, verdict}
use Rattle.definition.specs.Closing.{dec_ref, disconnecting, disconnect, disconnected}
use Rattle.definition.specs.Signals.{on_disconnection_req, on_credits, handled, checked, signalled}
use Rattle.definition.specs.Frames.{send, planned}
use Rattle.definition.specs.Portions.{start_planned, start_job, give_portion, cancel_job}
use Rattle.definition.specs.Calls.{jobs, bare, serve, decide}
use Rattle.definition.specs.Run.{after}
use Rattle.definition.specs.Line.{every}
use Rattle.definition.specs.PortionLines.{Cancel_lines, Fit_lines, Portion_lines, Start_lines}

start_lines : Start_lines
unfolding after decide serve jobs bare start_job start_planned send planned plan_send frame_count ceil frames_length verdict well_formed slot_fits Each.every first only choose parts moves move fill fills written sizes size
start_lines = record { order = refl; begins = refl; header = refl; told_none = refl; sends_too = refl }

portion_lines : Portion_lines
unfolding after decide serve jobs bare give_portion verdict well_formed slot_fits Each.every first only choose parts moves move fill fills written sizes size
portion_lines = record { order = refl; fills_up = refl; given_out = refl }

cancel_lines : Cancel_lines
unfolding after decide serve jobs bare cancel_job dec_ref disconnecting disconnect disconnected signalled checked headers_of whole handled on_disconnection_req disconnection_req on_credits le_credit_flow_ind verdict well_formed slot_fits Each.every first only choose parts moves move fill fills written sizes size
cancel_lines = record { order = refl; cancels_it = refl; leaves_it = refl; credit_signal = refl }

fit_lines : Fit_lines
unfolding well_formed slot_fits Each.every choose
fit_lines = record { unfit = refl; fit = refl }
