-- Connections that the peer asks for: next pending, the reject-all step, accept, reject, drop. Document 01, 'Slots'; the names of S.
use Rattle.std.specs.Prelude.{Bool, not, List, [], ◌∷◌, ℕ, ◌-◌, eqb, leb, ltb, None, Option, Some}
use Rattle.codes.specs.declared.LeCreditConnResultCode.{LeCreditConnResultCode}
use Rattle.codes.specs.declared.LeCreditConnResultCode.TheVariants.{Success, NoResources}
use Rattle.codes.specs.Codes.{result_of}
use Rattle.codes.specs.declared.Refusal.TheVariants.{NotFound, InsufficientSpace, Decode, Disconnected, Held}
use Rattle.credit.specs.declared.CreditFlowControl.{CreditFlowControl}
use Rattle.credit.specs.Account.{new_account}
use Rattle.signal_forms.specs.Forms.{reject_res}
use Rattle.signal_write.specs.Writer.{encode_of}
use Rattle.signal_forms.specs.declared.LeCreditConnRes.{LeCreditConnRes}
use Rattle.signal_forms.specs.declared.Signal.TheVariants as Signal
use Rattle.channel.specs.declared.Answer.TheVariants.{Done, At, Link}
use Rattle.channel.specs.declared.ChannelState.TheVariants.{Connected}
use Rattle.channel.specs.declared.L2capChannelConfig.{L2capChannelConfig}
use Rattle.channel.specs.declared.Slot.{Slot}
use Rattle.channel.specs.declared.Table.{Table}
use Rattle.definition.specs.Mem.{Fill, given}
use Rattle.definition.specs.States.{is_peer_connecting, is_connected, identifier_of}
use Rattle.definition.specs.Slots.{with_hold}
use Rattle.definition.specs.Table.{when◌then◌else◌, place_of, mps_most, slot_at, found, pending_of, unheld_pending_of, index, cid_of}
use Rattle.definition.specs.Outcome.{Outcome, change, refuse, done, freeing, gate}

-- ---- "Defaults: credits D, MTU M-6, MPS M-4."

abbrev pub settled : ℕ → Option ℕ → ℕ
settled usual None = usual
settled usual (Some n) = n

abbrev pub mtu_of : Table → L2capChannelConfig → ℕ
mtu_of t c = settled (place_of t) c.mtu

abbrev pub mps_of : Table → L2capChannelConfig → ℕ
mps_of t c = settled (mps_most t) c.mps

abbrev pub credits_of : Table → L2capChannelConfig → ℕ
credits_of t c = settled t.d c.credits

-- "MPS and MTU (12)": "local MPS > M-4, then local MTU > M-6"

abbrev pub mps_too_large : Table → L2capChannelConfig → Bool
mps_too_large t c = ltb (mps_most t) (mps_of t c)

abbrev pub mtu_too_large : Table → L2capChannelConfig → Bool
mtu_too_large t c = ltb (place_of t) (mtu_of t c)

-- ---- "Refused responses carry zeros before the result."

abbrev pub refused_response : ℕ → LeCreditConnResultCode → List Fill
refused_response id result = given (encode_of id (Signal.LeCreditConnRes (reject_res result))) ∷ []

-- ---- "Next pending takes the lowest PeerConnecting slot of the link; held already → 22; none and link up: nothing, answer 0."

unfoldable pub next_pending : Table → (link : ℕ) (up : Bool) → Outcome
next_pending t link up =
    gate t None None (Some link) None
    (let s = found (pending_of link) t in
    when leb t.n s then (when up then done t else refuse t Disconnected)
    else when not (eqb (slot_at t s).hold 0) then refuse t Held
    else change t s (with_hold 1 (slot_at t s)) [] (At (index s)) [])

-- ---- "Rejecting all pendings goes one slot a call: the link's lowest PeerConnecting slot without holds gets response 4 and is freed"

unfoldable pub reject_all_pending : Table → (room signal link : ℕ) → Outcome
reject_all_pending t room signal link =
    gate t (Some room) (Some signal) (Some link) None
    (let s = found (unheld_pending_of link) t in
    when leb t.n s then done t
    else freeing t s (slot_at t s) (At (index s)) (refused_response (identifier_of (slot_at t s).state) NoResources))

-- ---- "Accept: MPS and MTU (12), state (8), hold 0 (22, added)."

-- The slot once it is accepted: Connected, with our numbers and a new account. Its hold becomes the channel's.
abbrev pub accepted_as : (mps mtu : ℕ) → CreditFlowControl → Slot → Slot
accepted_as mps mtu account x =
    record {
      state = Connected;
      link = x.link;
      spsm = x.spsm;
      mps = mps;
      mtu = mtu;
      account = account;
      hold = x.hold;
      peer = x.peer;
      assembly = x.assembly;
      queue = x.queue;
      job = x.job;
      tallies = x.tallies;
    }

abbrev pub accepted : Table → L2capChannelConfig → Slot → Slot
accepted t c x = accepted_as (mps_of t c) (mtu_of t c) (new_account c.policy (credits_of t c)) x

-- Its response (Core Vol 3 Part A 4.23): our CID and our numbers.
abbrev pub accepting : (slot mtu mps credits : ℕ) → LeCreditConnRes
accepting s mtu mps credits = record { dcid = cid_of s; mtu = mtu; mps = mps; credits = credits; result = Success }

-- An accept that nothing refuses: slot s, as x, becomes a channel, and the peer is told.
abbrev pub agreed : Table → (slot : ℕ) → Slot → L2capChannelConfig → Outcome
agreed t s x c =
    change t s (accepted t c x) [] (Link x.link)
    (given (encode_of (identifier_of x.state) (Signal.LeCreditConnRes (accepting s (mtu_of t c) (mps_of t c) (credits_of t c)))) ∷ [])

unfoldable pub accept_pending : Table → (signal slot : ℕ) → L2capChannelConfig → Outcome
accept_pending t signal s c =
    gate t None (Some signal) None (Some s)
    (let x = slot_at t s in
    when mps_too_large t c then refuse t InsufficientSpace
    else when mtu_too_large t c then refuse t InsufficientSpace
    else when not (is_peer_connecting x.state) then refuse t NotFound
    else when eqb x.hold 0 then refuse t Held
    else agreed t s x c)

-- ---- "Reject: state, hold."

unfoldable pub reject_pending : Table → (room signal slot : ℕ) → LeCreditConnResultCode → Outcome
reject_pending t room signal s result =
    gate t (Some room) (Some signal) None (Some s)
    (let x = slot_at t s in
    when not (is_peer_connecting x.state) then refuse t NotFound
    else when eqb x.hold 0 then refuse t Held
    else freeing t s (with_hold (x.hold - 1) x) (Link x.link) (refused_response (identifier_of x.state) result))

-- A reject whose result comes as a number. "Result codes: 0, 2 and 4 to 11; another number is Decode": 15, behind the first refusals and
-- before the state, and nothing is written (READINGS F7).

unfoldable pub not_code : Table → (room signal slot : ℕ) → Outcome
not_code t room signal s = gate t (Some room) (Some signal) None (Some s) (refuse t Decode)

abbrev pub reject_read : Table → (room signal slot : ℕ) → Option LeCreditConnResultCode → Outcome
reject_read t room signal s (Some result) = reject_pending t room signal s result
reject_read t room signal s None = not_code t room signal s

abbrev pub reject_numbered : Table → (room signal slot number : ℕ) → Outcome
reject_numbered t room signal s number = reject_read t room signal s (result_of number)

-- ---- "Dropping a pending: when Connected nothing, as S; else hold 0 → 22; else the hold falls by one, and PeerConnecting is freed."

unfoldable pub drop_pending : Table → (room slot : ℕ) → Outcome
drop_pending t room s =
    gate t (Some room) None None (Some s)
    (let x = slot_at t s in
    when is_connected x.state then done t
    else when eqb x.hold 0 then refuse t Held
    else when is_peer_connecting x.state then freeing t s (with_hold (x.hold - 1) x) Done []
    else change t s (with_hold (x.hold - 1) x) [] Done [])
