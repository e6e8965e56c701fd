-- The table read and changed: sizes, slots, CIDs, identifiers, SPSMs, refusal 1. Document 01, 'The job and its edge' and 'Slots'. The tests of a
-- state (States.antt) and a slot with one thing changed (Slots.antt) are passed on from here.
use Rattle.std.specs.Prelude.{Bool, ◌&&◌, ◌||◌, not, List, ℕ, suc, ◌+◌, ◌-◌, ◌*◌, ◌/◌, ◌%◌, ◌^◌, eqb, leb, ltb, get_or, take, set, replicate}
use Rattle.lists.specs.Choose.{choose}
use Rattle.lists.specs.First.{first}
use Rattle.lists.specs.Every.{every}
use Rattle.credit.specs.declared.CreditFlowPolicy.TheVariants.{Every}
use Rattle.credit.specs.Account.{new_account, credit_sum}
use Rattle.sar_join.specs.Joining.{idle}
use Rattle.channel.specs.Limits.{slots_most, depth_most, packet_least, packet_most, frame_head, job_head, cid_base, identifier_most, spsm_most, credits_most, size_least}
use Rattle.channel.specs.declared.ChannelIndex.{ChannelIndex}
use Rattle.channel.specs.declared.Cid.{Cid}
use Rattle.channel.specs.declared.ChannelState.TheVariants.{Disconnected}
use Rattle.channel.specs.declared.OpenJob.{OpenJob}
use Rattle.channel.specs.declared.Peer.{Peer}
use Rattle.channel.specs.declared.Queue.{Queue}
use Rattle.channel.specs.declared.Slot.{Slot}
use Rattle.channel.specs.declared.Table.{Table}
pub use Rattle.definition.specs.States.{is_disconnected, is_connecting, is_peer_connecting, is_connected, is_connect_failed, is_peer_disconnecting, is_disconnecting, is_due, identifier_of, failure_of}
pub use Rattle.definition.specs.Slots.{in_state, with_hold, with_account, with_peer, with_peer_credits, with_assembly, with_queue, with_job, with_tallies, with_sends, with_receives, no_job, no_tally, no_tallies, counted, more, blocked_more, count_sent, count_received, count_blocked_send, count_blocked_receive, blocks, blocked_by, tallies_left, left}

-- A test, an answer, and what else: read it aloud.
infixr 5 when◌then◌else◌
abbrev pub when◌then◌else◌ : {A : Type 0} → Bool → A → A → A
when◌then◌else◌ = choose

-- ---- sizes

-- "place M-6 octets"
abbrev pub place_size : (m : ℕ) → ℕ
place_size m = m - job_head

abbrev pub place_of : Table → ℕ
place_of t = place_size t.m

-- "MPS M-4": the most octets of a frame's payload
abbrev pub mps_most : Table → ℕ
mps_most t = t.m - frame_head

-- "one place for assembly, then D for finished jobs": a slot's part of the room, of a table of these sizes
abbrev pub part_width : (d m : ℕ) → ℕ
part_width d m = suc d * place_size m

abbrev pub width : Table → ℕ
width t = part_width t.d t.m

-- "room exactly N·(D+1)·(M-6) octets"
abbrev pub room_width : (n d m : ℕ) → ℕ
room_width n d m = n * part_width d m

abbrev pub room_size : Table → ℕ
room_size t = room_width t.n t.d t.m

-- ---- slots

-- A slot that was never used, with so many holds.
abbrev pub fresh : ℕ → Slot
fresh hold =
    record {
      state = Disconnected;
      link = 0;
      spsm = 0;
      mps = 0;
      mtu = 0;
      account = new_account (Every 1) 0;
      hold = hold;
      peer = record { cid = 0; mps = 0; mtu = 0; credits = 0 };
      assembly = idle;
      queue = record { count = 0; lens = replicate depth_most 0 };
      job = no_job;
      tallies = no_tallies;
    }

-- "Freed means Disconnected and all numbers but the hold count reset." ("also whenever the slot is freed": the tallies, document 02)
abbrev pub freed : Slot → Slot
freed x = fresh x.hold

-- What stands for a slot past the list's end. No call reads it.
abbrev pub gap : Slot
gap = fresh 0

abbrev pub slot_at : Table → ℕ → Slot
slot_at t s = get_or t.slots s gap

-- The slots in use.
abbrev pub live : Table → List Slot
live t = take t.n t.slots

-- The lowest slot that passes a test, and N where none does.
abbrev pub found : (Slot → Bool) → Table → ℕ
found p t = first p (live t)

-- A slot that is given out: Disconnected, and no hold on it.
abbrev pub is_free : Slot → Bool
is_free x = is_disconnected x.state && eqb x.hold 0

-- A slot of this link. (Link 0 is a link, so a Disconnected slot is no link's, whatever number stands there.)
abbrev pub of_link : ℕ → Slot → Bool
of_link l x = not (is_disconnected x.state) && eqb x.link l

-- ---- what slots are searched for

-- "the lowest PeerConnecting slot of the link"
abbrev pub pending_of : ℕ → Slot → Bool
pending_of l x = is_peer_connecting x.state && eqb x.link l

-- ".. without holds"
abbrev pub unheld_pending_of : ℕ → Slot → Bool
unheld_pending_of l x = pending_of l x && eqb x.hold 0

-- "all Connecting slots of that link"
abbrev pub attempt_of : ℕ → Slot → Bool
attempt_of l x = is_connecting x.state && eqb x.link l

-- "Connecting slot with that identifier and link"
abbrev pub attempt_by : ℕ → ℕ → Slot → Bool
attempt_by l id x = attempt_of l x && eqb (identifier_of x.state) id

-- "Connected slot of this link with that peer CID"
abbrev pub connected_to : ℕ → ℕ → Slot → Bool
connected_to l cid x = is_connected x.state && (eqb x.link l && eqb x.peer.cid cid)

-- "peer CID used on this link by a slot not Disconnected"
abbrev pub uses_peer : ℕ → ℕ → Slot → Bool
uses_peer l cid x = of_link l x && eqb x.peer.cid cid

-- a disconnect is to be announced or answered
abbrev pub due_slot : Slot → Bool
due_slot x = is_due x.state

-- "a job waits, a disconnect is due or ConnectFailed stands"
abbrev pub calls : Slot → Bool
calls x = ltb 0 x.queue.count || (is_due x.state || is_connect_failed x.state)

-- ---- "Core sets 23 as the least for MTU and for MPS" (document 02; Core Vol 3 Part A 4.22, 4.23)

-- a peer "below either"
abbrev pub below_least : Peer → Bool
below_least p = ltb p.mtu size_least || ltb p.mps size_least

-- ---- the table with other slots

abbrev pub with_slots : Table → List Slot → Table
with_slots t xs = record { slots = xs; n = t.n; d = t.d; m = t.m; identifier = t.identifier; spsms = t.spsms }

abbrev pub put_slot : Table → ℕ → Slot → Table
put_slot t s x = with_slots t (set t.slots s x)

-- ---- "A slot number and a CID are kept apart": the 0x40 rule

abbrev pub index : ℕ → ChannelIndex
index s = record { 0 = s }

abbrev pub cid_at : ChannelIndex → Cid
cid_at i = record { 0 = cid_base + i.0 }

abbrev pub index_at : Cid → ChannelIndex
index_at cid = record { 0 = cid.0 - cid_base }

-- The same by their numbers, as signals and calls carry them.
abbrev pub cid_of : ℕ → ℕ
cid_of s = (cid_at (index s)).0

abbrev pub slot_of : ℕ → ℕ
slot_of cid = (index_at (record { 0 = cid })).0

-- Does the CID name a slot?
abbrev pub is_cid : Table → ℕ → Bool
is_cid t cid = leb cid_base cid && ltb (slot_of cid) t.n

-- ---- "Identifiers run 1 to 255, then 1."

-- A 0 is never given out.
abbrev pub next_id : Table → ℕ
next_id t = choose (eqb t.identifier 0) 1 t.identifier

abbrev pub id_after : ℕ → ℕ
id_after id = choose (eqb id identifier_most) 1 (id + 1)

-- The table once that identifier was used.
abbrev pub spent : Table → Table
spent t = record { slots = t.slots; n = t.n; d = t.d; m = t.m; identifier = id_after (next_id t); spsms = t.spsms }

-- ---- registered SPSMs: bit s % 8 of octet s / 8

abbrev pub is_registered : Table → ℕ → Bool
is_registered t spsm = leb 1 spsm && (leb spsm spsm_most && eqb (get_or t.spsms (spsm / 8) 0 / 2 ^ (spsm % 8) % 2) 1)

abbrev pub registered : Table → ℕ → Table
registered t spsm =
    record {
      slots = t.slots;
      n = t.n;
      d = t.d;
      m = t.m;
      identifier = t.identifier;
      spsms = choose (is_registered t spsm) t.spsms (set t.spsms (spsm / 8) (get_or t.spsms (spsm / 8) 0 + 2 ^ (spsm % 8)));
    }

-- ---- refusal 1

abbrev pub sizes_fit : ℕ → ℕ → ℕ → Bool
sizes_fit n d m = leb 1 n && (leb n slots_most && (leb 1 d && (leb d depth_most && (leb packet_least m && leb m packet_most))))

-- Each job that waits fits its place.
abbrev pub lens_fit : (place : ℕ) → Queue → Bool
lens_fit place q = every (λ n. leb n place) (take q.count q.lens)

-- A job is open while credits are set aside for its frames.
abbrev pub is_open : OpenJob → Bool
is_open j = ltb 0 j.aside

-- "an open job's counts beyond its length or frame" (document 02): a frame has at most the peer's MPS, and what was taken with the two octets of the length.
abbrev pub job_fits : (mps : ℕ) → OpenJob → Bool
job_fits mps j = not (is_open j) || (leb j.taken j.length && (leb j.filled mps && leb j.filled (j.taken + 2)))

-- "a job, queue count or local MTU beyond its place, or a credit sum (held plus received) above 65,535"; document 02: an open job's counts, "or peer
-- credits plus those set aside above 65,535"
unfoldable pub slot_fits : ℕ → ℕ → Slot → Bool
slot_fits d place x =
    leb x.queue.count d
    && (lens_fit place x.queue
    && (leb x.assembly.have place
    && (leb x.assembly.want place
    && (leb x.mtu place
    && (leb (credit_sum x.account) credits_most
    && (job_fits x.peer.mps x.job && leb (x.peer.credits + x.job.aside) credits_most))))))

unfoldable pub well_formed : Table → Bool
well_formed t = sizes_fit t.n t.d t.m && every (slot_fits t.d (place_of t)) (live t)
