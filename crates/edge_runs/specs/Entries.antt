-- The entries of the C library (crate entries) as calls of a run: what each is given, what it leaves on octets, and which call of the definition it
-- is. `leaves` passes each entry's numbers and octets to the definition by which its `ensures` is said, and does nothing else. l2cap_make starts a run
-- (Run.antt); l2cap_signal_rest is a function of the PDU alone; l2cap_dispatch_run is the entries that its frames are (FrameRun.antt).
use Rattle.std.specs.Prelude.{List, [], ◌∷◌, ℕ}
use Rattle.codes.specs.Codes.{result_of}
use Rattle.signal_forms.specs.declared.Signal.TheVariants.{ConnParamUpdateReq, ConnParamUpdateRes}
use Rattle.channel.specs.declared.Answer.TheVariants.{Done}
use Rattle.definition.specs.Mem.{given}
use Rattle.definition.specs.Outcome.{still}
use Rattle.definition.specs.Calls.{Window, Call, frame, sends, portions, down, plain, register, signals, pends, rejects_all, accepts, rejects, drops, creates, opens, gives, holds, releases, leaves_cid, announces, takes, starts, cancels, attends, asks, sends_signal, writes}
use Rattle.definition.specs.Calls as Calls
use Rattle.definition.specs.Ending.{end_of}
use Rattle.definition.specs.Run.{lent, nowhere}
use Rattle.edge.specs.Edge.{Edge, on_table, flag, config_of}
use Rattle.edge_asking.specs.Asking.{register_spsm_edge, spsm_edge, mtu_edge, mps_edge, peer_mtu_edge, peer_mps_edge, tally_sent_edge, tally_received_edge, tally_blocked_sends_edge, tally_blocked_receives_edge, attention_edge, send_conn_param_update_req_edge, send_conn_param_update_res_edge}
use Rattle.edge_opening.specs.Opening.{create_edge, opened_edge, give_up_edge}
use Rattle.edge_pending.specs.Pending.{next_pending_edge, accept_pending_edge, reject_pending_edge, reject_all_pending_edge, drop_pending_edge}
use Rattle.edge_closing.specs.Holding.{inc_ref_edge, dec_ref_edge}
use Rattle.edge_closing.specs.Closing.{disconnect_edge, disconnect_by_cid_edge, disconnected_edge, next_disconnect_edge}
use Rattle.edge_placed.specs.Frames.{dispatch_edge, send_edge, receive_edge, start_edge, portion_edge, cancel_edge}
use Rattle.edge_signals.specs.Signals.{signal_edge}

-- An entry with its numbers as C gives them, in C's order: flags, configurations and result codes are numbers. Buffers that it writes to (signal, out,
-- buffer, job) are parts of the caller's memory. Octets that it only reads (pdu, payload, sdu, octets) are given as they are.
pub data Entry : Type 0 where
  register_spsm : (number : ℕ) → Entry
  spsm : (slot : ℕ) → Entry
  mtu : (slot : ℕ) → Entry
  mps : (slot : ℕ) → Entry
  peer_mtu : (slot : ℕ) → Entry
  peer_mps : (slot : ℕ) → Entry
  tally_sent : (slot : ℕ) → Entry
  tally_received : (slot : ℕ) → Entry
  tally_blocked_sends : (slot : ℕ) → Entry
  tally_blocked_receives : (slot : ℕ) → Entry
  attention : Entry
  send_conn_param_update_req : (signal : Window) (link min max latency timeout : ℕ) → Entry
  send_conn_param_update_res : (signal : Window) (link result : ℕ) → Entry
  next_pending : (link up : ℕ) → Entry
  accept_pending : (signal : Window) (slot mtu mps kind value credits : ℕ) → Entry
  reject_pending : (signal : Window) (slot result : ℕ) → Entry
  reject_all_pending : (signal : Window) (link : ℕ) → Entry
  drop_pending : (slot : ℕ) → Entry
  create : (signal : Window) (link spsm mtu mps kind value credits : ℕ) → Entry
  opened : (slot link up : ℕ) → Entry
  give_up : (slot : ℕ) → Entry
  inc_ref : (slot : ℕ) → Entry
  dec_ref : (slot : ℕ) → Entry
  disconnect : (slot : ℕ) → Entry
  disconnect_by_cid : (cid : ℕ) → Entry
  disconnected : (link : ℕ) → Entry
  next_disconnect : (signal : Window) → Entry
  signal : (signal : Window) (link listening central : ℕ) (pdu : List ℕ) → Entry
  dispatch : (link cid : ℕ) (payload : List ℕ) → Entry
  send : (out : Window) (slot : ℕ) (sdu : List ℕ) → Entry
  start_job : (buffer : Window) (slot length : ℕ) → Entry
  give_portion : (buffer : Window) (slot : ℕ) (octets : List ℕ) → Entry
  cancel_job : (slot : ℕ) → Entry
  receive : (signal job : Window) (slot : ℕ) → Entry
  own : (at : Window) (octets : List ℕ) → Entry  -- no entry: the caller writes into its own memory. Told as one that answers 0.

-- What it leaves, by its contract: table and answer are their octets as lent, room and memory what the run has. (An entry that is not lent the room
-- leaves [] for it.)
unfoldable pub leaves : (table answer room memory : List ℕ) → Entry → Edge
leaves table answer room memory (register_spsm number) = register_spsm_edge table answer number
leaves table answer room memory (spsm slot) = spsm_edge table answer slot
leaves table answer room memory (mtu slot) = mtu_edge table answer slot
leaves table answer room memory (mps slot) = mps_edge table answer slot
leaves table answer room memory (peer_mtu slot) = peer_mtu_edge table answer slot
leaves table answer room memory (peer_mps slot) = peer_mps_edge table answer slot
leaves table answer room memory (tally_sent slot) = tally_sent_edge table answer slot
leaves table answer room memory (tally_received slot) = tally_received_edge table answer slot
leaves table answer room memory (tally_blocked_sends slot) = tally_blocked_sends_edge table answer slot
leaves table answer room memory (tally_blocked_receives slot) = tally_blocked_receives_edge table answer slot
leaves table answer room memory attention = attention_edge table answer
leaves table answer room memory (send_conn_param_update_req w link min max latency timeout) = send_conn_param_update_req_edge table answer (lent w memory) link min max latency timeout
leaves table answer room memory (send_conn_param_update_res w link result) = send_conn_param_update_res_edge table answer (lent w memory) link result
leaves table answer room memory (next_pending link up) = next_pending_edge table answer link up
leaves table answer room memory (accept_pending w slot ourMtu ourMps kind value credits) = accept_pending_edge table answer (lent w memory) slot ourMtu ourMps kind value credits
leaves table answer room memory (reject_pending w slot result) = reject_pending_edge table answer room (lent w memory) slot result
leaves table answer room memory (reject_all_pending w link) = reject_all_pending_edge table answer room (lent w memory) link
leaves table answer room memory (drop_pending slot) = drop_pending_edge table answer room slot
leaves table answer room memory (create w link number ourMtu ourMps kind value credits) = create_edge table answer (lent w memory) link number ourMtu ourMps kind value credits
leaves table answer room memory (opened slot link up) = opened_edge table answer room slot link up
leaves table answer room memory (give_up slot) = give_up_edge table answer room slot
leaves table answer room memory (inc_ref slot) = inc_ref_edge table answer slot
leaves table answer room memory (dec_ref slot) = dec_ref_edge table answer room slot
leaves table answer room memory (disconnect slot) = disconnect_edge table answer room slot
leaves table answer room memory (disconnect_by_cid cid) = disconnect_by_cid_edge table answer room cid
leaves table answer room memory (disconnected link) = disconnected_edge table answer room link
leaves table answer room memory (next_disconnect w) = next_disconnect_edge table answer room (lent w memory)
leaves table answer room memory (signal w link listening central pdu) = signal_edge table answer room (lent w memory) link listening central pdu
leaves table answer room memory (dispatch link cid payload) = dispatch_edge table answer room link cid payload
leaves table answer room memory (send w slot sdu) = send_edge table answer (lent w memory) slot sdu
leaves table answer room memory (start_job w slot length) = start_edge table answer (lent w memory) slot length
leaves table answer room memory (give_portion w slot octets) = portion_edge table answer (lent w memory) slot octets
leaves table answer room memory (cancel_job slot) = cancel_edge table answer room slot
leaves table answer room memory (receive w v slot) = receive_edge table answer room (lent w memory) (lent v memory) slot
leaves table answer room memory (own w octets) = on_table table answer (λ t. end_of t [] [] (lent w memory) [] (still t Done (given octets ∷ [])))

-- The call of the definition that it is.
abbrev pub call_of : Entry → Call
call_of (register_spsm number) = plain (register number) nowhere nowhere
call_of (spsm slot) = plain (asks (λ x. x.spsm) slot) nowhere nowhere
call_of (mtu slot) = plain (asks (λ x. x.mtu) slot) nowhere nowhere
call_of (mps slot) = plain (asks (λ x. x.mps) slot) nowhere nowhere
call_of (peer_mtu slot) = plain (asks (λ x. x.peer.mtu) slot) nowhere nowhere
call_of (peer_mps slot) = plain (asks (λ x. x.peer.mps) slot) nowhere nowhere
call_of (tally_sent slot) = plain (asks (λ x. x.tallies.sends.frames) slot) nowhere nowhere
call_of (tally_received slot) = plain (asks (λ x. x.tallies.receives.frames) slot) nowhere nowhere
call_of (tally_blocked_sends slot) = plain (asks (λ x. x.tallies.sends.blocked) slot) nowhere nowhere
call_of (tally_blocked_receives slot) = plain (asks (λ x. x.tallies.receives.blocked) slot) nowhere nowhere
call_of attention = plain attends nowhere nowhere
call_of (send_conn_param_update_req w link min max latency timeout) = plain (sends_signal link (ConnParamUpdateReq (record { min = min; max = max; latency = latency; timeout = timeout }))) w nowhere
call_of (send_conn_param_update_res w link result) = plain (sends_signal link (ConnParamUpdateRes (record { result = result }))) w nowhere
call_of (next_pending link up) = plain (pends link (flag up)) nowhere nowhere
call_of (accept_pending w slot ourMtu ourMps kind value credits) = plain (accepts slot (config_of ourMtu ourMps kind value credits)) w nowhere
call_of (reject_pending w slot result) = plain (rejects slot (result_of result)) w nowhere
call_of (reject_all_pending w link) = plain (rejects_all link) w nowhere
call_of (drop_pending slot) = plain (drops slot) nowhere nowhere
call_of (create w link number ourMtu ourMps kind value credits) = plain (creates link number (config_of ourMtu ourMps kind value credits)) w nowhere
call_of (opened slot link up) = plain (opens slot link (flag up)) nowhere nowhere
call_of (give_up slot) = plain (gives slot) nowhere nowhere
call_of (inc_ref slot) = plain (holds slot) nowhere nowhere
call_of (dec_ref slot) = plain (releases slot) nowhere nowhere
call_of (disconnect slot) = plain (Calls.leaves slot) nowhere nowhere
call_of (disconnect_by_cid cid) = plain (leaves_cid cid) nowhere nowhere
call_of (disconnected link) = down link
call_of (next_disconnect w) = plain announces w nowhere
call_of (signal w link listening central pdu) = plain (signals link (flag listening) (flag central) pdu) w nowhere
call_of (dispatch link cid payload) = frame link cid payload
call_of (send w slot sdu) = sends slot sdu w
call_of (start_job w slot length) = plain (starts slot length) w nowhere
call_of (give_portion w slot octets) = portions slot octets w
call_of (cancel_job slot) = plain (cancels slot) nowhere nowhere
call_of (receive w v slot) = plain (takes slot) w v
call_of (own w octets) = plain (writes octets) w nowhere
