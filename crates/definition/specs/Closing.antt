-- Holds, disconnects, link down, next disconnect. Document 01, 'Slots'.
use Rattle.std.specs.Prelude.{true, false, ◌&&◌, [], ◌∷◌, ℕ, ◌+◌, ◌-◌, eqb, leb, None, Some}
use Rattle.codes.specs.declared.Refusal.TheVariants.{Held}
use Rattle.signal_write.specs.Writer.{encode_of}
use Rattle.signal_forms.specs.declared.DisconnectionReq.{DisconnectionReq}
use Rattle.signal_forms.specs.declared.DisconnectionRes.{DisconnectionRes}
use Rattle.signal_forms.specs.declared.Signal.TheVariants as Signal
use Rattle.channel.specs.Limits.{holds_most}
use Rattle.channel.specs.declared.Answer.TheVariants.{Done, Due}
use Rattle.channel.specs.declared.ChannelState.TheVariants.{Disconnecting}
use Rattle.channel.specs.declared.Slot.{Slot}
use Rattle.channel.specs.declared.Table.{Table}
use Rattle.definition.specs.Mem.{given}
use Rattle.definition.specs.States.{is_connected, is_peer_disconnecting, identifier_of}
use Rattle.definition.specs.Slots.{in_state, with_hold}
use Rattle.definition.specs.Table.{when◌then◌else◌, slot_at, found, of_link, due_slot, index, cid_of, is_cid, slot_of, next_id, spent}
use Rattle.definition.specs.Outcome.{Outcome, change, sweep, refuse, done, freeing, leaving, gate}

-- "Adding a hold at 255, or releasing at 0, gives 22."
unfoldable pub inc_ref : Table → (slot : ℕ) → Outcome
inc_ref t s =
    gate t None None None (Some s)
    (let x = slot_at t s in
    when leb holds_most x.hold then refuse t Held
    else change t s (with_hold (x.hold + 1) x) [] Done [])

-- "Releasing to hold 0 turns Connected into Disconnecting"
unfoldable pub dec_ref : Table → (room slot : ℕ) → Outcome
dec_ref t room s =
    gate t (Some room) None None (Some s)
    (let x = slot_at t s in
    when eqb x.hold 0 then refuse t Held
    else when is_connected x.state && eqb x.hold 1 then leaving t s (with_hold 0 x) (Disconnecting false) Done
    else change t s (with_hold (x.hold - 1) x) [] Done [])

-- Our side turns Connected into Disconnecting; nothing in another state.
unfoldable pub disconnecting : Table → (slot : ℕ) → Outcome
disconnecting t s =
    let x = slot_at t s in
    when is_connected x.state then leaving t s x (Disconnecting false) Done
    else done t

-- "so does a disconnect by slot or by CID, which does nothing in other states or for a CID of no slot"
unfoldable pub disconnect : Table → (room slot : ℕ) → Outcome
disconnect t room s = gate t (Some room) None None (Some s) (disconnecting t s)

unfoldable pub disconnect_by_cid : Table → (room cid : ℕ) → Outcome
disconnect_by_cid t room cid =
    gate t (Some room) None None None
    (when is_cid t cid then disconnecting t (slot_of cid)
    else done t)

-- "Link down frees all its slots; holds stay until released"
unfoldable pub disconnected : Table → (room link : ℕ) → Outcome
disconnected t room link = gate t (Some room) None (Some link) None (sweep t (of_link link) Done)

-- "The next disconnect, given with its link, is the lowest slot in PeerDisconnecting (response written, freed) or Disconnecting not
-- yet announced (request written with the next identifier, marked); none: nothing. The response carries our CID as DCID and the
-- peer's as SCID, the request the reverse." (Core Vol 3 Part A 4.6, 4.7)

abbrev pub responding : (slot peer : ℕ) → DisconnectionRes
responding s peer = record { dcid = cid_of s; scid = peer }

abbrev pub requesting : (slot peer : ℕ) → DisconnectionReq
requesting s peer = record { dcid = peer; scid = cid_of s }

-- The peer's request is answered, and the slot freed.
abbrev pub responded : Table → (slot : ℕ) → Slot → Outcome
responded t s x = freeing t s x (Due x.link (index s)) (given (encode_of (identifier_of x.state) (Signal.DisconnectionRes (responding s x.peer.cid))) ∷ [])

-- Our own request is told, and the slot marked.
abbrev pub requested : Table → (slot : ℕ) → Slot → Outcome
requested t s x = change (spent t) s (in_state (Disconnecting true) x) [] (Due x.link (index s)) (given (encode_of (next_id t) (Signal.DisconnectionReq (requesting s x.peer.cid))) ∷ [])

unfoldable pub next_disconnect : Table → (room signal : ℕ) → Outcome
next_disconnect t room signal =
    gate t (Some room) (Some signal) None None
    (let s = found due_slot t in
    let x = slot_at t s in
    when leb t.n s then done t
    else when is_peer_disconnecting x.state then responded t s x
    else requested t s x)
