-- Each entry that is given a table, on octets that spell none (none): it returns 1, tells that refusal, and leaves table, room and buffers alone.
use Rattle.std.specs.Prelude.{◌≡◌, refl, true, false, List, [], ℕ, length}
use Rattle.std.proofs.Common.{ap}
use Rattle.codes.specs.Codes.{result_of}
use Rattle.codes.specs.declared.Refusal.TheVariants.{BadTable}
use Rattle.channel.specs.declared.Table.{Table}
use Rattle.definition.specs.Mem.{sizes}
use Rattle.definition.specs.Outcome.{Outcome, refuse}
use Rattle.definition.specs.Asking.{no_slots, register_spsm, attention, spsm, mtu, mps, peer_mtu, peer_mps, tally_sent, tally_received, tally_blocked_sends, tally_blocked_receives, send_conn_param_update_req, send_conn_param_update_res}
use Rattle.definition.specs.Closing.{inc_ref, dec_ref, disconnect, disconnect_by_cid, disconnected, next_disconnect}
use Rattle.definition.specs.Frames.{send, receive}
use Rattle.definition.specs.Portions.{start_job, give_portion, cancel_job}
use Rattle.definition.specs.Opening.{create, opened, give_up}
use Rattle.definition.specs.Pending.{next_pending, reject_all_pending, accept_pending, reject_numbered, drop_pending}
use Rattle.definition.specs.Signals.{signalled}
use Rattle.definition.specs.Calls.{Call, frame, sends, portions, down, Request, register, signals, pends, rejects_all, accepts, rejects, drops, creates, opens, gives, holds, releases, leaves, leaves_cid, announces, takes, starts, cancels, attends, asks, sends_signal, head_of, jobs, frame_in, serve, decide}
use Rattle.definition.specs.Ending.{served_of, end_of}
use Rattle.edge_layout.specs.Layout.{read}
use Rattle.edge.specs.Edge.{on_table, alone, flag, config_of}
use Rattle.edge_asking.specs.Asking.{register_spsm_edge, spsm_edge, mtu_edge, mps_edge, peer_mtu_edge, peer_mps_edge, tally_sent_edge, tally_received_edge, tally_blocked_sends_edge, tally_blocked_receives_edge, attention_edge, send_conn_param_update_req_edge, send_conn_param_update_res_edge}
use Rattle.edge_opening.specs.Opening.{create_edge, opened_edge, give_up_edge}
use Rattle.edge_pending.specs.Pending.{next_pending_edge, accept_pending_edge, reject_pending_edge, reject_all_pending_edge, drop_pending_edge}
use Rattle.edge_closing.specs.Holding.{inc_ref_edge, dec_ref_edge}
use Rattle.edge_closing.specs.Closing.{disconnect_edge, disconnect_by_cid_edge, disconnected_edge, next_disconnect_edge}
use Rattle.edge_placed.specs.Frames.{dispatch_edge, send_edge, receive_edge, start_edge, portion_edge, cancel_edge}
use Rattle.edge_signals.specs.Signals.{signal_edge}
use Rattle.edge_laws.specs.NoTable.{is_request, is_call, serve_refuses, decide_refuses, no-slots, none-ends, left_alone, on_none}

none_serves : (r : Request) → is_request r ≡ true → (room out job : ℕ) → serve no_slots r room out job ≡ refuse no_slots BadTable
none_serves = serve_refuses no_slots no-slots

none_decides : (c : Call) → is_call c ≡ true → (count room out job : ℕ) → decide no_slots c count room out job ≡ refuse no_slots BadTable
none_decides = decide_refuses no_slots no-slots

-- that is lent nothing else
on_none_alone : (o a : List ℕ) (call : Table → Outcome) → (read o).ok ≡ false → call no_slots ≡ refuse no_slots BadTable → on_table o a (λ t. alone (served_of (call t))) ≡ left_alone o a [] [] []
unfolding sizes
on_none_alone o a call none refused = on_none o a [] [] [] (λ t. alone (served_of (call t))) none (ap (λ (x : Outcome). alone (served_of x)) refused)

on_none_lent : (o a room out job : List ℕ) (js : Table → List ℕ) (call : Table → Outcome) → (read o).ok ≡ false → call no_slots ≡ refuse no_slots BadTable
    → on_table o a (λ t. end_of t (js t) room out job (call t)) ≡ left_alone o a room out job
on_none_lent o a room out job js call none refused = on_none o a room out job (λ t. end_of t (js t) room out job (call t)) none (none-ends (js no_slots) room out job (call no_slots) refused)

-- ---- the questions and the senders

pub register_spsm_on_none : (o a : List ℕ) (spsm : ℕ) → (read o).ok ≡ false → register_spsm_edge o a spsm ≡ left_alone o a [] [] []
unfolding serve
register_spsm_on_none o a spsm none = on_none_alone o a (λ t. register_spsm t spsm) none (none_serves (register spsm) refl 0 0 0)

pub spsm_on_none : (o a : List ℕ) (slot : ℕ) → (read o).ok ≡ false → spsm_edge o a slot ≡ left_alone o a [] [] []
unfolding serve
spsm_on_none o a slot none = on_none_alone o a (λ t. spsm t slot) none (none_serves (asks _ slot) refl 0 0 0)

pub mtu_on_none : (o a : List ℕ) (slot : ℕ) → (read o).ok ≡ false → mtu_edge o a slot ≡ left_alone o a [] [] []
unfolding serve
mtu_on_none o a slot none = on_none_alone o a (λ t. mtu t slot) none (none_serves (asks _ slot) refl 0 0 0)

pub mps_on_none : (o a : List ℕ) (slot : ℕ) → (read o).ok ≡ false → mps_edge o a slot ≡ left_alone o a [] [] []
unfolding serve
mps_on_none o a slot none = on_none_alone o a (λ t. mps t slot) none (none_serves (asks _ slot) refl 0 0 0)

pub peer_mtu_on_none : (o a : List ℕ) (slot : ℕ) → (read o).ok ≡ false → peer_mtu_edge o a slot ≡ left_alone o a [] [] []
unfolding serve
peer_mtu_on_none o a slot none = on_none_alone o a (λ t. peer_mtu t slot) none (none_serves (asks _ slot) refl 0 0 0)

pub peer_mps_on_none : (o a : List ℕ) (slot : ℕ) → (read o).ok ≡ false → peer_mps_edge o a slot ≡ left_alone o a [] [] []
unfolding serve
peer_mps_on_none o a slot none = on_none_alone o a (λ t. peer_mps t slot) none (none_serves (asks _ slot) refl 0 0 0)

pub tally_sent_on_none : (o a : List ℕ) (slot : ℕ) → (read o).ok ≡ false → tally_sent_edge o a slot ≡ left_alone o a [] [] []
unfolding serve
tally_sent_on_none o a slot none = on_none_alone o a (λ t. tally_sent t slot) none (none_serves (asks _ slot) refl 0 0 0)

pub tally_received_on_none : (o a : List ℕ) (slot : ℕ) → (read o).ok ≡ false → tally_received_edge o a slot ≡ left_alone o a [] [] []
unfolding serve
tally_received_on_none o a slot none = on_none_alone o a (λ t. tally_received t slot) none (none_serves (asks _ slot) refl 0 0 0)

pub tally_blocked_sends_on_none : (o a : List ℕ) (slot : ℕ) → (read o).ok ≡ false → tally_blocked_sends_edge o a slot ≡ left_alone o a [] [] []
unfolding serve
tally_blocked_sends_on_none o a slot none = on_none_alone o a (λ t. tally_blocked_sends t slot) none (none_serves (asks _ slot) refl 0 0 0)

pub tally_blocked_receives_on_none : (o a : List ℕ) (slot : ℕ) → (read o).ok ≡ false → tally_blocked_receives_edge o a slot ≡ left_alone o a [] [] []
unfolding serve
tally_blocked_receives_on_none o a slot none = on_none_alone o a (λ t. tally_blocked_receives t slot) none (none_serves (asks _ slot) refl 0 0 0)

pub attention_on_none : (o a : List ℕ) → (read o).ok ≡ false → attention_edge o a ≡ left_alone o a [] [] []
unfolding serve
attention_on_none o a none = on_none_alone o a (λ t. attention t) none (none_serves attends refl 0 0 0)

pub send_conn_param_update_req_on_none : (o a signal : List ℕ) (link min max latency timeout : ℕ) → (read o).ok ≡ false → send_conn_param_update_req_edge o a signal link min max latency timeout ≡ left_alone o a [] signal []
unfolding serve
send_conn_param_update_req_on_none o a signal link min max latency timeout none = on_none_lent o a [] signal [] (λ t. []) (λ t. send_conn_param_update_req t (length signal) link min max latency timeout) none (none_serves (sends_signal link _) refl 0 (length signal) 0)

pub send_conn_param_update_res_on_none : (o a signal : List ℕ) (link result : ℕ) → (read o).ok ≡ false → send_conn_param_update_res_edge o a signal link result ≡ left_alone o a [] signal []
unfolding serve
send_conn_param_update_res_on_none o a signal link result none = on_none_lent o a [] signal [] (λ t. []) (λ t. send_conn_param_update_res t (length signal) link result) none (none_serves (sends_signal link _) refl 0 (length signal) 0)

-- ---- opening

pub next_pending_on_none : (o a : List ℕ) (link up : ℕ) → (read o).ok ≡ false → next_pending_edge o a link up ≡ left_alone o a [] [] []
unfolding serve
next_pending_on_none o a link up none = on_none_alone o a (λ t. next_pending t link (flag up)) none (none_serves (pends link (flag up)) refl 0 0 0)

pub accept_pending_on_none : (o a signal : List ℕ) (slot mtu mps kind value credits : ℕ) → (read o).ok ≡ false → accept_pending_edge o a signal slot mtu mps kind value credits ≡ left_alone o a [] signal []
unfolding serve
accept_pending_on_none o a signal slot mtu mps kind value credits none = on_none_lent o a [] signal [] (λ t. []) (λ t. accept_pending t (length signal) slot (config_of mtu mps kind value credits)) none (none_serves (accepts slot _) refl 0 (length signal) 0)

pub reject_pending_on_none : (o a room signal : List ℕ) (slot result : ℕ) → (read o).ok ≡ false → reject_pending_edge o a room signal slot result ≡ left_alone o a room signal []
unfolding serve
reject_pending_on_none o a room signal slot result none = on_none_lent o a room signal [] (λ t. []) (λ t. reject_numbered t (length room) (length signal) slot result) none (none_serves (rejects slot (result_of result)) refl (length room) (length signal) 0)

pub reject_all_pending_on_none : (o a room signal : List ℕ) (link : ℕ) → (read o).ok ≡ false → reject_all_pending_edge o a room signal link ≡ left_alone o a room signal []
unfolding serve
reject_all_pending_on_none o a room signal link none = on_none_lent o a room signal [] (λ t. []) (λ t. reject_all_pending t (length room) (length signal) link) none (none_serves (rejects_all link) refl (length room) (length signal) 0)

pub drop_pending_on_none : (o a room : List ℕ) (slot : ℕ) → (read o).ok ≡ false → drop_pending_edge o a room slot ≡ left_alone o a room [] []
unfolding serve
drop_pending_on_none o a room slot none = on_none_lent o a room [] [] (λ t. []) (λ t. drop_pending t (length room) slot) none (none_serves (drops slot) refl (length room) 0 0)

pub create_on_none : (o a signal : List ℕ) (link spsm mtu mps kind value credits : ℕ) → (read o).ok ≡ false → create_edge o a signal link spsm mtu mps kind value credits ≡ left_alone o a [] signal []
unfolding serve
create_on_none o a signal link spsm mtu mps kind value credits none = on_none_lent o a [] signal [] (λ t. []) (λ t. create t (length signal) link spsm (config_of mtu mps kind value credits)) none (none_serves (creates link spsm _) refl 0 (length signal) 0)

pub opened_on_none : (o a room : List ℕ) (slot link up : ℕ) → (read o).ok ≡ false → opened_edge o a room slot link up ≡ left_alone o a room [] []
unfolding serve
opened_on_none o a room slot link up none = on_none_lent o a room [] [] (λ t. []) (λ t. opened t (length room) slot link (flag up)) none (none_serves (opens slot link (flag up)) refl (length room) 0 0)

pub give_up_on_none : (o a room : List ℕ) (slot : ℕ) → (read o).ok ≡ false → give_up_edge o a room slot ≡ left_alone o a room [] []
unfolding serve
give_up_on_none o a room slot none = on_none_lent o a room [] [] (λ t. []) (λ t. give_up t (length room) slot) none (none_serves (gives slot) refl (length room) 0 0)

-- ---- holding and closing

pub inc_ref_on_none : (o a : List ℕ) (slot : ℕ) → (read o).ok ≡ false → inc_ref_edge o a slot ≡ left_alone o a [] [] []
unfolding serve
inc_ref_on_none o a slot none = on_none_alone o a (λ t. inc_ref t slot) none (none_serves (holds slot) refl 0 0 0)

pub dec_ref_on_none : (o a room : List ℕ) (slot : ℕ) → (read o).ok ≡ false → dec_ref_edge o a room slot ≡ left_alone o a room [] []
unfolding serve
dec_ref_on_none o a room slot none = on_none_lent o a room [] [] (λ t. []) (λ t. dec_ref t (length room) slot) none (none_serves (releases slot) refl (length room) 0 0)

pub disconnect_on_none : (o a room : List ℕ) (slot : ℕ) → (read o).ok ≡ false → disconnect_edge o a room slot ≡ left_alone o a room [] []
unfolding serve
disconnect_on_none o a room slot none = on_none_lent o a room [] [] (λ t. []) (λ t. disconnect t (length room) slot) none (none_serves (leaves slot) refl (length room) 0 0)

pub disconnect_by_cid_on_none : (o a room : List ℕ) (cid : ℕ) → (read o).ok ≡ false → disconnect_by_cid_edge o a room cid ≡ left_alone o a room [] []
unfolding serve
disconnect_by_cid_on_none o a room cid none = on_none_lent o a room [] [] (λ t. []) (λ t. disconnect_by_cid t (length room) cid) none (none_serves (leaves_cid cid) refl (length room) 0 0)

pub disconnected_on_none : (o a room : List ℕ) (link : ℕ) → (read o).ok ≡ false → disconnected_edge o a room link ≡ left_alone o a room [] []
unfolding decide
disconnected_on_none o a room link none = on_none_lent o a room [] [] (λ t. []) (λ t. disconnected t (length room) link) none (none_decides (down link) refl 0 (length room) 0 0)

pub next_disconnect_on_none : (o a room signal : List ℕ) → (read o).ok ≡ false → next_disconnect_edge o a room signal ≡ left_alone o a room signal []
unfolding serve
next_disconnect_on_none o a room signal none = on_none_lent o a room signal [] (λ t. []) (λ t. next_disconnect t (length room) (length signal)) none (none_serves announces refl (length room) (length signal) 0)

-- ---- signals, frames and jobs

pub signal_on_none : (o a room signal : List ℕ) (link listening central : ℕ) (pdu : List ℕ) → (read o).ok ≡ false → signal_edge o a room signal link listening central pdu ≡ left_alone o a room signal []
unfolding serve
signal_on_none o a room signal link listening central pdu none = on_none_lent o a room signal [] (λ t. []) (λ t. signalled t (length room) (length signal) link (flag listening) (flag central) pdu) none (none_serves (signals link (flag listening) (flag central) pdu) refl (length room) (length signal) 0)

pub dispatch_on_none : (o a room : List ℕ) (link cid : ℕ) (payload : List ℕ) → (read o).ok ≡ false → dispatch_edge o a room link cid payload ≡ left_alone o a room [] []
unfolding decide
dispatch_on_none o a room link cid payload none = on_none_lent o a room [] [] (λ t. (jobs t (frame link cid payload))) (λ t. frame_in t (length room) link cid payload) none (none_decides (frame link cid (head_of no_slots cid payload)) refl (length (jobs no_slots (frame link cid payload))) (length room) 0 0)

pub send_on_none : (o a out : List ℕ) (slot : ℕ) (sdu : List ℕ) → (read o).ok ≡ false → send_edge o a out slot sdu ≡ left_alone o a [] out []
unfolding decide
send_on_none o a out slot sdu none = on_none_lent o a [] out [] (λ t. sdu) (λ t. send t slot (length sdu) (length out)) none (none_decides (sends slot sdu (record { from = 0; size = length out })) refl (length sdu) 0 (length out) 0)

pub start_job_on_none : (o a buffer : List ℕ) (slot stated : ℕ) → (read o).ok ≡ false → start_edge o a buffer slot stated ≡ left_alone o a [] buffer []
unfolding serve
start_job_on_none o a buffer slot stated none = on_none_lent o a [] buffer [] (λ t. []) (λ t. start_job t slot stated (length buffer)) none (none_serves (starts slot stated) refl 0 (length buffer) 0)

pub give_portion_on_none : (o a buffer : List ℕ) (slot : ℕ) (octets : List ℕ) → (read o).ok ≡ false → portion_edge o a buffer slot octets ≡ left_alone o a [] buffer []
unfolding decide
give_portion_on_none o a buffer slot octets none = on_none_lent o a [] buffer [] (λ t. octets) (λ t. give_portion t slot (length octets) (length buffer)) none (none_decides (portions slot octets (record { from = 0; size = length buffer })) refl (length octets) 0 (length buffer) 0)

pub cancel_job_on_none : (o a room : List ℕ) (slot : ℕ) → (read o).ok ≡ false → cancel_edge o a room slot ≡ left_alone o a room [] []
unfolding serve
cancel_job_on_none o a room slot none = on_none_lent o a room [] [] (λ t. []) (λ t. cancel_job t (length room) slot) none (none_serves (cancels slot) refl (length room) 0 0)

pub receive_on_none : (o a room signal job : List ℕ) (slot : ℕ) → (read o).ok ≡ false → receive_edge o a room signal job slot ≡ left_alone o a room signal job
unfolding serve
receive_on_none o a room signal job slot none = on_none_lent o a room signal job (λ t. []) (λ t. receive t (length room) (length signal) slot (length job)) none (none_serves (takes slot) refl (length room) (length signal) (length job))
