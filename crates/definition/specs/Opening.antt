-- Connections that we ask for: create, the opened query, give-up. Document 01, 'Slots' and row 13.
use Rattle.std.specs.Prelude.{Bool, ◌&&◌, ◌||◌, not, [], ◌∷◌, ℕ, eqb, leb, None, Some}
use Rattle.codes.specs.declared.Refusal.TheVariants.{NotFound, InsufficientSpace, NoChannelAvailable, ConnectError, Disconnected, Held}
use Rattle.credit.specs.declared.CreditFlowControl.{CreditFlowControl}
use Rattle.credit.specs.Account.{new_account}
use Rattle.signal_write.specs.Writer.{encode_of}
use Rattle.signal_forms.specs.declared.LeCreditConnReq.{LeCreditConnReq}
use Rattle.signal_forms.specs.declared.Signal.TheVariants as Signal
use Rattle.channel.specs.declared.Answer.TheVariants.{Done, Refused, At, Opened}
use Rattle.channel.specs.declared.ChannelState.TheVariants.{Connecting}
use Rattle.channel.specs.declared.L2capChannelConfig.{L2capChannelConfig}
use Rattle.channel.specs.declared.Slot.{Slot}
use Rattle.channel.specs.declared.Table.{Table}
use Rattle.definition.specs.Mem.{given}
use Rattle.definition.specs.States.{is_disconnected, is_connecting, is_connected, is_connect_failed, is_peer_disconnecting, is_disconnecting, failure_of}
use Rattle.definition.specs.Slots.{with_hold}
use Rattle.definition.specs.Table.{when◌then◌else◌, slot_at, found, fresh, is_free, index, cid_of, next_id, spent}
use Rattle.definition.specs.Outcome.{Outcome, change, refuse, done, freeing, gate}
use Rattle.definition.specs.Pending.{mtu_of, mps_of, credits_of, mps_too_large, mtu_too_large}

-- Our own attempt in a slot that was free. Its peer CID is not known yet and counts as 0.
abbrev pub attempt_as : (id link spsm mps mtu : ℕ) → CreditFlowControl → Slot
attempt_as id link spsm mps mtu account =
    record {
      state = Connecting id;
      link = link;
      spsm = spsm;
      mps = mps;
      mtu = mtu;
      account = account;
      hold = 0;
      peer = (fresh 0).peer;
      assembly = (fresh 0).assembly;
      queue = (fresh 0).queue;
      job = (fresh 0).job;
      tallies = (fresh 0).tallies;
    }

abbrev pub attempt : Table → (link spsm : ℕ) → L2capChannelConfig → Slot
attempt t link spsm c = attempt_as (next_id t) link spsm (mps_of t c) (mtu_of t c) (new_account c.policy (credits_of t c))

-- Its request (Core Vol 3 Part A 4.22): our CID and our numbers.
abbrev pub asking : (slot spsm mtu mps credits : ℕ) → LeCreditConnReq
asking s spsm mtu mps credits = record { spsm = spsm; scid = cid_of s; mtu = mtu; mps = mps; credits = credits }

-- A create that nothing refuses: slot s starts our attempt, and the peer is asked.
abbrev pub started : Table → (slot link spsm : ℕ) → L2capChannelConfig → Outcome
started t s link spsm c =
    change (spent t) s (attempt t link spsm c) [] (At (index s))
    (given (encode_of (next_id t) (Signal.LeCreditConnReq (asking s spsm (mtu_of t c) (mps_of t c) (credits_of t c)))) ∷ [])

-- "local MPS > M-4, then local MTU > M-6"; "a create that passed 12, exactly when each slot is not Disconnected or has a hold".
-- "A create refused by 12 or 13 has used an identifier, as in S."
unfoldable pub create : Table → (signal link spsm : ℕ) → L2capChannelConfig → Outcome
create t signal link spsm c =
    gate t None (Some signal) (Some link) None
    (let s = found is_free t in
    when mps_too_large t c then refuse (spent t) InsufficientSpace
    else when mtu_too_large t c then refuse (spent t) InsufficientSpace
    else when leb t.n s then refuse (spent t) NoChannelAvailable
    else started t s link spsm c)

-- "Opened query: slot free → 18; another link's → 8; link down or disconnecting → 18, freed; failed → 17, freed; Connected with a
-- hold → 22; Connected → hold. Otherwise nothing."

-- Of slot s, as x, which is in use and of the link that asks.
abbrev pub polled : Table → (slot : ℕ) → Slot → (up : Bool) → Outcome
polled t s x up =
    when not up then freeing t s x (Refused Disconnected) []
    else when is_peer_disconnecting x.state || is_disconnecting x.state then freeing t s x (Refused Disconnected) []
    else when is_connect_failed x.state then freeing t s x (Refused (ConnectError (failure_of x.state))) []
    else when not (is_connected x.state) then done t
    else when not (eqb x.hold 0) then refuse t Held
    else change t s (with_hold 1 x) [] Opened []

unfoldable pub opened : Table → (room slot link : ℕ) (up : Bool) → Outcome
opened t room s link up =
    gate t (Some room) None (Some link) (Some s)
    (let x = slot_at t s in
    when is_disconnected x.state then refuse t Disconnected
    else when not (eqb x.link link) then refuse t NotFound
    else polled t s x up)

-- "Give-up frees Connecting, ConnectFailed, or Connected without holds, else 8 (added)."
unfoldable pub give_up : Table → (room slot : ℕ) → Outcome
give_up t room s =
    gate t (Some room) None None (Some s)
    (let x = slot_at t s in
    when is_connecting x.state || (is_connect_failed x.state || (is_connected x.state && eqb x.hold 0))
    then freeing t s x Done []
    else refuse t NotFound)
