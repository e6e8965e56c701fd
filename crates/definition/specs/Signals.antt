-- One signal PDU: document 01, 'Signals'. Every header is checked, then the first signal is handled; the part after it is `rest_of`
-- (crate signal_headers), which the next call is given, until nothing is left (Run.antt, `signal_calls`). Core Vol 3 Part A, 4.
use Rattle.std.specs.Prelude.{Bool, false, ◌&&◌, not, List, [], ◌∷◌, ℕ, ◌+◌, eqb, leb, ltb, length, get_or, None, Option, Some, Result, Ok, Err}
use Rattle.codes.specs.declared.LeCreditConnResultCode.TheVariants as Result
use Rattle.codes.specs.Codes.{result_number}
use Rattle.codes.specs.declared.Refusal.TheVariants.{NotFound, InvalidValue, Decode, NotSupported, ConnectError}
use Rattle.signal_headers.specs.Headers.{headers_of, body_in}
use Rattle.signal_parameter_rule.specs.Parameters.{parameters_valid}
use Rattle.signal_write.specs.Writer.{encode_of}
use Rattle.signal_headers.specs.declared.BadHeader.{BadHeader}
use Rattle.signal_headers.specs.declared.BadHeader.TheVariants.{Cut, Past}
use Rattle.signal_forms.specs.declared.LeCreditConnReq.{LeCreditConnReq}
use Rattle.signal_forms.specs.declared.LeCreditConnRes.{LeCreditConnRes}
use Rattle.signal_forms.specs.declared.Signal.TheVariants as Signal
use Rattle.channel.specs.Limits.{credits_most}
use Rattle.channel.specs.declared.Answer.TheVariants.{Done, Refused, Event}
use Rattle.channel.specs.declared.ChannelState.TheVariants.{PeerConnecting, Connected, ConnectFailed, PeerDisconnecting, Disconnecting}
use Rattle.channel.specs.declared.Peer.{Peer}
use Rattle.channel.specs.declared.Slot.{Slot}
use Rattle.channel.specs.declared.Table.{Table}
use Rattle.signal_bodies.specs.Bodies.{command_reject_res, disconnection_req, disconnection_res, conn_param_update_req, conn_param_update_res}
use Rattle.signal_bodies.specs.LeCreditBodies.{le_credit_conn_req, le_credit_conn_res, le_credit_flow_ind}
use Rattle.definition.specs.Mem.{Fill, given}
use Rattle.definition.specs.States.{is_disconnecting}
use Rattle.definition.specs.Slots.{in_state, with_peer, with_peer_credits}
use Rattle.definition.specs.Table.{when◌then◌else◌, slot_at, found, fresh, is_free, of_link, attempt_of, attempt_by, connected_to, uses_peer, below_least, is_cid, slot_of, is_registered}
use Rattle.definition.specs.Outcome.{Outcome, still, change, sweep, refuse, done, freeing, leaving, gate}
use Rattle.definition.specs.Pending.{refused_response}
use Rattle.signal_forms.specs.declared.CommandRejectRes.{CommandRejectRes}
use Rattle.signal_forms.specs.declared.ConnParamUpdateReq.{ConnParamUpdateReq}
use Rattle.signal_forms.specs.declared.ConnParamUpdateRes.{ConnParamUpdateRes}
use Rattle.signal_forms.specs.declared.DisconnectionReq.{DisconnectionReq}
use Rattle.signal_forms.specs.declared.DisconnectionRes.{DisconnectionRes}
use Rattle.signal_forms.specs.declared.LeCreditFlowInd.{LeCreditFlowInd}

-- ---- replies

-- "A reject reply has reason 0 unless another is named."
abbrev pub reject_reply : (id reason : ℕ) → List Fill
reject_reply id reason = given (encode_of id (Signal.CommandRejectRes (record { reason = reason }))) ∷ []

-- "bad body: reject reply"
abbrev pub bad_body : Table → (id : ℕ) → Outcome
bad_body t id = still t (Refused Decode) (reject_reply id 0)

-- Each rule below is for a body that was read (crate signal_bodies).
abbrev pub on_body : {A : Type 0} → Table → (id : ℕ) → Option A → (A → Outcome) → Outcome
on_body t id None rule = bad_body t id
on_body t id (Some x) rule = rule x

-- ---- 0x14 (4.22): "SPSM not registered → result 2; not listening → 4; peer CID used on this link by a slot not Disconnected → 10 ..;
-- no free slot → 4. Else the lowest free slot becomes PeerConnecting. All of these answer 0." "A connect request below either [least] gets result 0x000B ..
-- the request test follows the listening test" (document 02).

-- The sender's side of the channel, as its request tells it.
abbrev pub requester : LeCreditConnReq → Peer
requester req = record { cid = req.scid; mps = req.mps; mtu = req.mtu; credits = req.credits }

abbrev pub pending : (link id : ℕ) → LeCreditConnReq → Slot
pending link id req =
    record {
      state = PeerConnecting id;
      link = link;
      spsm = req.spsm;
      mps = 0;
      mtu = 0;
      account = (fresh 0).account;
      hold = 0;
      peer = requester req;
      assembly = (fresh 0).assembly;
      queue = (fresh 0).queue;
      job = (fresh 0).job;
      tallies = (fresh 0).tallies;
    }

unfoldable pub on_conn_req : Table → (link : ℕ) (listening : Bool) (id : ℕ) → Option LeCreditConnReq → Outcome
on_conn_req t link listening id b =
    on_body t id b λ req.
    let s = found is_free t in
    when not (is_registered t req.spsm) then still t Done (refused_response id Result.SpsmNotSupported)
    else when not listening then still t Done (refused_response id Result.NoResources)
    else when below_least (requester req) then still t Done (refused_response id Result.UnacceptableParameters)
    else when ltb (found (uses_peer link req.scid) t) t.n then still t Done (refused_response id Result.ScidAlreadyAllocated)
    else when leb t.n s then still t Done (refused_response id Result.NoResources)
    else change t s (pending link id req) [] Done []

-- ---- 0x15 (4.23): "matched to the lowest Connecting slot with that identifier and link"; row 8: "unmatched connect response frees all
-- Connecting slots of that link"; row 17: "a response leaves ConnectFailed". "A good response below either [least] leaves the slot Disconnecting, its numbers
-- stored", and gives 9 (document 02).

-- The sender's side of the channel, as its response tells it.
abbrev pub responder : LeCreditConnRes → Peer
responder res = record { cid = res.dcid; mps = res.mps; mtu = res.mtu; credits = res.credits }

abbrev pub answered : Table → (slot : ℕ) → LeCreditConnRes → Outcome
answered t s res =
    let x = slot_at t s in
    let y = with_peer (responder res) x in
    when not (eqb (result_number res.result) 0) then change t s (in_state (ConnectFailed res.result) x) [] (Refused (ConnectError res.result)) []
    else when below_least (responder res) then change t s (in_state (Disconnecting false) y) [] (Refused InvalidValue) []
    else change t s (in_state Connected y) [] Done []

unfoldable pub on_conn_res : Table → (link id : ℕ) → Option LeCreditConnRes → Outcome
on_conn_res t link id b =
    on_body t id b λ res.
    let s = found (attempt_by link id) t in
    when leb t.n s then sweep t (attempt_of link) (Refused NotFound)
    else answered t s res

-- ---- 0x16 (4.24): "first Connected slot of this link with that peer CID. A sum above 65,535: Disconnecting, credits kept." "0x16's sum counts
-- credits set aside" (document 02).

unfoldable pub on_credits : Table → (link id : ℕ) → Option LeCreditFlowInd → Outcome
on_credits t link id b =
    on_body t id b λ ind.
    let s = found (connected_to link ind.cid) t in
    let x = slot_at t s in
    when leb t.n s then refuse t NotFound
    else when ltb credits_most (x.peer.credits + x.job.aside + ind.credits) then leaving t s x (Disconnecting false) (Refused InvalidValue)
    else change t s (with_peer_credits (x.peer.credits + ind.credits) x) [] Done []

-- ---- 0x06 (4.6): "slot with that CID, this link, not Disconnected → PeerDisconnecting; else reject reason 2"

unfoldable pub on_disconnection_req : Table → (link id : ℕ) → Option DisconnectionReq → Outcome
on_disconnection_req t link id b =
    on_body t id b λ req.
    let s = slot_of req.dcid in
    when not (is_cid t req.dcid) then still t Done (reject_reply id 2)
    else when not (of_link link (slot_at t s)) then still t Done (reject_reply id 2)
    else leaving t s (slot_at t s) (PeerDisconnecting id) Done

-- ---- 0x07 (4.7): "SCID names a Disconnecting slot of this link: freed; else nothing."

unfoldable pub on_disconnection_res : Table → (link id : ℕ) → Option DisconnectionRes → Outcome
on_disconnection_res t link id b =
    on_body t id b λ res.
    let s = slot_of res.scid in
    when not (is_cid t res.scid) then done t
    else when not (is_disconnecting (slot_at t s).state && eqb (slot_at t s).link link) then done t
    else freeing t s (slot_at t s) Done []

-- ---- 0x12 (4.20): "not Central → reject, answer 0, before the body is read. .. Invalid → response 1; valid → an event, no reply."

unfoldable pub on_parameters : Table → (id : ℕ) → Option ConnParamUpdateReq → Outcome
on_parameters t id b =
    on_body t id b λ req.
    when parameters_valid req then still t (Event req.min req.max req.latency req.timeout) []
    else still t Done (given (encode_of id (Signal.ConnParamUpdateRes (record { result = 1 }))) ∷ [])

-- "not Central → reject, answer 0, before the body is read"
abbrev pub on_update : Table → (central : Bool) (id : ℕ) (body : List ℕ) → Outcome
on_update t central id body = when central then on_parameters t id (conn_param_update_req body) else still t Done (reject_reply id 0)

-- ---- "0x01 and 0x13: read, no reply, answer 0." (4.1, 4.21)

unfoldable pub on_reject : Table → (id : ℕ) → Option CommandRejectRes → Outcome
on_reject t id b = on_body t id b λ res. done t

unfoldable pub on_parameter_response : Table → (id : ℕ) → Option ConnParamUpdateRes → Outcome
on_parameter_response t id b = on_body t id b λ res. done t

-- ---- "A match on the code number 0x01, 0x06, 0x07, 0x12 to 0x16, and all others, each to its own handler."

unfoldable pub handled : Table → (link : ℕ) (listening central : Bool) (code id : ℕ) (body : List ℕ) → Outcome
handled t link listening central code id body =
    when eqb code 0x01 then on_reject t id (command_reject_res body)
    else when eqb code 0x06 then on_disconnection_req t link id (disconnection_req body)
    else when eqb code 0x07 then on_disconnection_res t link id (disconnection_res body)
    else when eqb code 0x12 then on_update t central id body
    else when eqb code 0x13 then on_parameter_response t id (conn_param_update_res body)
    else when eqb code 0x14 then on_conn_req t link listening id (le_credit_conn_req body)
    else when eqb code 0x15 then on_conn_res t link id (le_credit_conn_res body)
    else when eqb code 0x16 then on_credits t link id (le_credit_flow_ind body)
    else still t (Refused NotSupported) (reject_reply id 0)

-- "One call first checks every header in the octets given, then handles the first signal .. Empty input does nothing."
-- Row 15: "signal header under 4 octets: no reply"; row 9: "signal length past the PDU: reject reply", with that header's identifier.
unfoldable pub checked : Table → (link : ℕ) (listening central : Bool) (pdu : List ℕ) → Result (Unit {0}) BadHeader → Outcome
checked t link listening central pdu (Err Cut) = refuse t Decode
checked t link listening central pdu (Err (Past id)) = still t (Refused InvalidValue) (reject_reply id 0)
checked t link listening central pdu (Ok tt) =
    when eqb (length pdu) 0 then done t
    else handled t link listening central (get_or pdu 0 0) (get_or pdu 1 0) (body_in pdu)

unfoldable pub signalled : Table → (room signal link : ℕ) (listening central : Bool) (pdu : List ℕ) → Outcome
signalled t room signal link listening central pdu =
    gate t (Some room) (Some signal) (Some link) None (checked t link listening central pdu (headers_of pdu))
