-- What making a table, the questions and the two senders leave on octets. Each is the call's own end (Ending.antt of `definition`), lifted through the two layouts.
use Rattle.std.specs.Prelude.{List, [], ℕ, length}
use Rattle.lists.specs.Choose.{choose}
use Rattle.definition.specs.Asking.{make, register_spsm, attention, spsm, mtu, mps, peer_mtu, peer_mps, tally_sent, tally_received, tally_blocked_sends, tally_blocked_receives, send_conn_param_update_req, send_conn_param_update_res}
use Rattle.definition.specs.Ending.{served_of, end_of, end_made}
use Rattle.edge.specs.Edge.{Edge, on_table, made_on, alone}

-- Makes a table of n slots, depth d and packets of m octets, and zeroes its room. Table octets of another length are refused by 1.
abbrev pub make_edge : (table answer room : List ℕ) (n d m : ℕ) → Edge
make_edge table answer room n d m = made_on table answer (λ fits. end_made (make (choose fits n 0) d m room))

-- Registers an SPSM, 1 to 255.
abbrev pub register_spsm_edge : (table answer : List ℕ) (spsm : ℕ) → Edge
register_spsm_edge table answer spsm = on_table table answer (λ t. alone (served_of (register_spsm t spsm)))

-- A slot's SPSM.
abbrev pub spsm_edge : (table answer : List ℕ) (slot : ℕ) → Edge
spsm_edge table answer slot = on_table table answer (λ t. alone (served_of (spsm t slot)))

-- A slot's MTU.
abbrev pub mtu_edge : (table answer : List ℕ) (slot : ℕ) → Edge
mtu_edge table answer slot = on_table table answer (λ t. alone (served_of (mtu t slot)))

-- A slot's MPS.
abbrev pub mps_edge : (table answer : List ℕ) (slot : ℕ) → Edge
mps_edge table answer slot = on_table table answer (λ t. alone (served_of (mps t slot)))

-- The MTU of a slot's peer.
abbrev pub peer_mtu_edge : (table answer : List ℕ) (slot : ℕ) → Edge
peer_mtu_edge table answer slot = on_table table answer (λ t. alone (served_of (peer_mtu t slot)))

-- The MPS of a slot's peer.
abbrev pub peer_mps_edge : (table answer : List ℕ) (slot : ℕ) → Edge
peer_mps_edge table answer slot = on_table table answer (λ t. alone (served_of (peer_mps t slot)))

abbrev pub tally_sent_edge : (table answer : List ℕ) (slot : ℕ) → Edge
tally_sent_edge table answer slot = on_table table answer (λ t. alone (served_of (tally_sent t slot)))

abbrev pub tally_received_edge : (table answer : List ℕ) (slot : ℕ) → Edge
tally_received_edge table answer slot = on_table table answer (λ t. alone (served_of (tally_received t slot)))

abbrev pub tally_blocked_sends_edge : (table answer : List ℕ) (slot : ℕ) → Edge
tally_blocked_sends_edge table answer slot = on_table table answer (λ t. alone (served_of (tally_blocked_sends t slot)))

abbrev pub tally_blocked_receives_edge : (table answer : List ℕ) (slot : ℕ) → Edge
tally_blocked_receives_edge table answer slot = on_table table answer (λ t. alone (served_of (tally_blocked_receives t slot)))

-- The slots that call.
abbrev pub attention_edge : (table answer : List ℕ) → Edge
attention_edge table answer = on_table table answer (λ t. alone (served_of (attention t)))

-- Writes a request for connection parameters.
abbrev pub send_conn_param_update_req_edge : (table answer signal : List ℕ) (link min max latency timeout : ℕ) → Edge
send_conn_param_update_req_edge table answer signal link min max latency timeout = on_table table answer (λ t. end_of t [] [] signal [] (send_conn_param_update_req t (length signal) link min max latency timeout))

-- Writes the response to a request for connection parameters.
abbrev pub send_conn_param_update_res_edge : (table answer signal : List ℕ) (link result : ℕ) → Edge
send_conn_param_update_res_edge table answer signal link result = on_table table answer (λ t. end_of t [] [] signal [] (send_conn_param_update_res t (length signal) link result))
