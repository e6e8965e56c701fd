-- A worked run, and worked lines in which every test of every call decides: drop a test, or swap it with the next, and a line breaks. Two
-- slots, two links whose peers both use CID 0x40, D 2. Each line stands by itself (Line.antt) and is computed; its note says which test
-- decides ("a before b": both hold). At the end, test by test, the lines that break, and what no line can tell.
use Rattle.std.specs.Prelude.{◌≡◌, Bool, true, false, List, [], ◌∷◌, ◌++◌, map, ℕ, replicate, None, Some}
use Rattle.lists.specs.Bits.{count}
use Rattle.codes.specs.Codes.{result_of}
use Rattle.codes.specs.declared.LeCreditConnResultCode.TheVariants.{Success, NoResources, ScidAlreadyAllocated}
use Rattle.codes.specs.declared.Refusal.TheVariants.{ConnectError}
use Rattle.credit.specs.declared.CreditFlowPolicy.TheVariants.{Every}
use Rattle.credit.specs.declared.CreditFlowControl.{CreditFlowControl}
use Rattle.sar_join.specs.declared.Assembly.{Assembly}
use Rattle.signal_forms.specs.declared.Signal.TheVariants as Signal
use Rattle.channel.specs.declared.Answer.TheVariants.{Done, Refused, At, Link, Opened, Due, Frames, Job, Attention, Number, Event}
use Rattle.channel.specs.declared.ChannelState.{ChannelState}
use Rattle.channel.specs.declared.ChannelState.TheVariants.{Disconnected, Connecting, PeerConnecting, Connected, ConnectFailed, PeerDisconnecting, Disconnecting}
use Rattle.channel.specs.declared.L2capChannelConfig.{L2capChannelConfig}
use Rattle.channel.specs.declared.Queue.{Queue}
use Rattle.channel.specs.declared.Slot.{Slot}
use Rattle.channel.specs.declared.Table.{Table}
use Rattle.definition.specs.Slots.{no_job}
use Rattle.definition.specs.Table.{index, slot_at, well_formed}
use Rattle.definition.specs.Frames.{send}
use Rattle.definition.specs.Asking.{make, lowest_free}
use Rattle.definition.specs.Calls.{Call, Request, frame, sends, down, plain, register, signals, pends, rejects_all, accepts, rejects, drops, creates, opens, gives, holds, releases, leaves, leaves_cid, announces, takes, attends, asks, sends_signal, decide}
use Rattle.definition.specs.Numbers.{answer_number}
use Rattle.definition.specs.Run.{State, outcome, made}
use Rattle.definition.specs.Line.{◌⊢◌⇒◌, ◌&◌, Hold, Agree, Told, refused, answered, told, ask, start, window, three, two, counting, knowing, place, begins, no, yes, slots, next, part0, part1, wiped0, wiped1, cleared0, cleared1, writes, hands, peer, peer_of, every, threshold, idle, partly, none, one, both, free, wish, asked, attempt, ours, failed, granted, channel, quiet, connected, narrow, tallied, untold, telling, usual, sized, request_of, request, response_of, response, credits, leaving, gone, parameters, reject, refusal}

-- ---- a run: two phones, each on its link, with the same identifier and the same CID. The first's job comes in three frames, the second's
-- between them; the first is sent a job in three frames. What a phone says of the CID that both use, or of the other's slot, touches its
-- own slot alone.

-- with the signal buffer and a job buffer of 5 octets lent
abbrev pub now : Request → Call
now r = plain r (window 0 18) (window 18 5)

abbrev pub says : (link : ℕ) → List ℕ → Call
says link pdu = now (signals link true true pdu)

abbrev pub three-credits : L2capChannelConfig
three-credits = record { mtu = None; mps = None; policy = Every 1; credits = Some 3 }

abbrev pub wide : (id spsm scid : ℕ) → List ℕ
wide id spsm scid = 0x14 ∷ id ∷ 10 ∷ 0 ∷ spsm ∷ 0 ∷ scid ∷ 0 ∷ 64 ∷ 0 ∷ 23 ∷ 0 ∷ 3 ∷ 0 ∷ []

abbrev pub story : (a b c d e x y : ℕ) → List Call
story a b c d e x y =
    now (register 0x80)
    ∷ says 1 (wide 7 0x80 0x40)
    ∷ says 2 (wide 7 0x80 0x40)
    ∷ now (pends 1 true)
    ∷ now (pends 2 true)
    ∷ now (accepts 0 three-credits)
    ∷ now (accepts 1 three-credits)
    ∷ frame 1 0x40 (5 ∷ 0 ∷ a ∷ b ∷ [])
    ∷ frame 2 0x41 (1 ∷ 0 ∷ x ∷ [])
    ∷ frame 1 0x40 (c ∷ d ∷ [])
    ∷ frame 1 0x40 (e ∷ [])
    ∷ frame 1 0x40 (0 ∷ 0 ∷ [])
    ∷ now (takes 0)
    ∷ now (takes 1)
    ∷ sends 0 (replicate 45 y) (window 23 59)
    ∷ sends 0 (y ∷ []) (window 23 59)
    ∷ says 2 (credits 0x40 4)
    ∷ says 1 (leaving 8 0x41 0x40)
    ∷ says 2 (leaving 8 0x41 0x40)
    ∷ now announces
    ∷ down 1
    ∷ now (releases 0)
    ∷ []

abbrev pub begin : State
begin = made 2 2 29 (replicate 138 5) (replicate 82 9)

-- ---- pendings

pub record Pending_lines : Type 0 where
  pub next-pending : Hold (
      two (free 0) (free 0) ⊢ ask (pends 1 true) ⇒ yes Done  -- none (before 22: past N a hold stands)
      ∷ two (ours 1 7 0) (connected 1 0) ⊢ ask (pends 1 false) ⇒ no 18  -- none, and link down
      ∷ two (asked 1 7 0) (asked 1 8 0) ⊢ ask (pends 1 true) ⇒ yes (At (index 0)) & slots (asked 1 7 1) (asked 1 8 0)  -- the lowest
      ∷ two (asked 1 7 0) (free 0) ⊢ ask (pends 1 false) ⇒ yes (At (index 0)) & slots (asked 1 7 1) (free 0)  -- link down: given all the same
      ∷ two (asked 2 7 0) (asked 1 7 0) ⊢ ask (pends 1 true) ⇒ yes (At (index 1)) & slots (asked 2 7 0) (asked 1 7 1)  -- of this link
      ∷ two (asked 1 7 1) (asked 1 8 0) ⊢ ask (pends 1 true) ⇒ no 22  -- held: the lowest decides
      ∷ [])
  pub reject_all : Hold (
      two (ours 1 7 0) (asked 1 8 1) ⊢ ask (rejects_all 1) ⇒ yes Done  -- none
      ∷ two (asked 1 7 0) (asked 1 8 0) ⊢ ask (rejects_all 1) ⇒ yes (At (index 0)) & slots (free 0) (asked 1 8 0) & wiped0 & writes (refusal 7 4)
      ∷ two (asked 1 7 1) (asked 1 8 0) ⊢ ask (rejects_all 1) ⇒ yes (At (index 1)) & slots (asked 1 7 1) (free 0) & wiped1 & writes (refusal 8 4)  -- without holds
      ∷ two (asked 2 7 0) (asked 1 8 0) ⊢ ask (rejects_all 1) ⇒ yes (At (index 1)) & slots (asked 2 7 0) (free 0) & wiped1 & writes (refusal 8 4)  -- of this link
      ∷ [])
  pub accept : Hold (
      two (asked 1 7 1) (free 0) ⊢ ask (accepts 0 (sized 23 26)) ⇒ no 12  -- MPS
      ∷ two (asked 1 7 1) (free 0) ⊢ ask (accepts 0 (sized 24 25)) ⇒ no 12  -- MTU
      ∷ two (free 0) (free 0) ⊢ ask (accepts 0 (sized 23 26)) ⇒ no 12  -- MPS before state and hold
      ∷ two (free 0) (free 0) ⊢ ask (accepts 0 (sized 24 25)) ⇒ no 12  -- MTU before state and hold
      ∷ two (asked 1 7 0) (free 0) ⊢ ask (accepts 0 (sized 24 25)) ⇒ no 12  -- MTU before hold
      ∷ two (free 1) (free 0) ⊢ ask (accepts 0 usual) ⇒ no 8  -- state
      ∷ two (ours 1 7 0) (free 0) ⊢ ask (accepts 0 usual) ⇒ no 8  -- state before hold
      ∷ two (asked 1 7 0) (free 0) ⊢ ask (accepts 0 usual) ⇒ no 22  -- hold 0
      ∷ two (asked 1 7 2) (free 0) ⊢ ask (accepts 0 usual)
      ⇒ yes (Link 1) & slots (telling untold (channel Connected 1 2 (every 1 2 0) (peer 3) idle none)) (free 0)
      & writes (14 ∷ 0 ∷ 5 ∷ 0 ∷ 0x15 ∷ 7 ∷ 10 ∷ 0 ∷ 0x40 ∷ 0 ∷ 23 ∷ 0 ∷ 25 ∷ 0 ∷ 2 ∷ 0 ∷ 0 ∷ 0 ∷ [])
      ∷ two (free 0) (asked 2 7 1) ⊢ ask (accepts 1 (sized 23 25))
      ⇒ yes (Link 2) & slots (free 0) (telling untold (channel Connected 2 1 (threshold 2 7 0) (peer 3) idle none))
      & writes (14 ∷ 0 ∷ 5 ∷ 0 ∷ 0x15 ∷ 7 ∷ 10 ∷ 0 ∷ 0x41 ∷ 0 ∷ 23 ∷ 0 ∷ 25 ∷ 0 ∷ 7 ∷ 0 ∷ 0 ∷ 0 ∷ [])
      ∷ [])
  pub reject-one : Hold (
      two (free 1) (free 0) ⊢ ask (rejects 0 (Some Success)) ⇒ no 8  -- state
      ∷ two (ours 1 7 0) (free 0) ⊢ ask (rejects 0 (Some Success)) ⇒ no 8  -- state before hold
      ∷ two (asked 1 7 0) (free 0) ⊢ ask (rejects 0 (Some Success)) ⇒ no 22  -- hold 0
      ∷ two (asked 1 7 2) (free 0) ⊢ ask (rejects 0 (Some ScidAlreadyAllocated)) ⇒ yes (Link 1) & slots (free 1) (free 0) & wiped0 & writes (refusal 7 10)
      ∷ two (asked 1 7 1) (free 0) ⊢ ask (rejects 0 None) ⇒ no 15  -- no code
      ∷ two (free 0) (free 0) ⊢ ask (rejects 0 None) ⇒ no 15  -- no code, before state and hold
      ∷ [])
  -- "Result codes: 0, 2 and 4 to 11": of 0 to 12, which are codes, on a slot that is no pending
  pub codes : map (λ n. answer_number (outcome (start (two (free 0) (free 0))) (ask (rejects 0 (result_of n)))).answer) (0 ∷ 1 ∷ 2 ∷ 3 ∷ 4 ∷ 5 ∷ 6 ∷ 7 ∷ 8 ∷ 9 ∷ 10 ∷ 11 ∷ 12 ∷ [])
      ≡ 8 ∷ 15 ∷ 8 ∷ 15 ∷ 8 ∷ 8 ∷ 8 ∷ 8 ∷ 8 ∷ 8 ∷ 8 ∷ 8 ∷ 15 ∷ []
  pub drop-pending : Hold (
      two (connected 1 1) (free 0) ⊢ ask (drops 0) ⇒ yes Done  -- Connected
      ∷ two (connected 1 0) (free 0) ⊢ ask (drops 0) ⇒ yes Done  -- Connected before hold 0
      ∷ two (asked 1 7 0) (free 0) ⊢ ask (drops 0) ⇒ no 22  -- hold 0, before PeerConnecting
      ∷ two (ours 1 7 0) (free 0) ⊢ ask (drops 0) ⇒ no 22  -- hold 0
      ∷ two (asked 1 7 2) (free 0) ⊢ ask (drops 0) ⇒ yes Done & slots (free 1) (free 0) & wiped0  -- PeerConnecting
      ∷ two (quiet (PeerDisconnecting 8) 1 2) (free 0) ⊢ ask (drops 0) ⇒ yes Done & slots (quiet (PeerDisconnecting 8) 1 1) (free 0)
      ∷ two (free 1) (free 0) ⊢ ask (drops 0) ⇒ yes Done & slots (free 0) (free 0)
      ∷ [])

-- ---- our own attempts

pub record Opening_lines : Type 0 where
  pub creating : Hold (
      two (free 0) (free 0) ⊢ ask (creates 1 0x81 (sized 23 26)) ⇒ no 12 & next 6  -- MPS; an identifier is used
      ∷ two (free 0) (free 0) ⊢ ask (creates 1 0x81 (sized 24 25)) ⇒ no 12 & next 6  -- MTU
      ∷ two (connected 1 1) (free 1) ⊢ ask (creates 1 0x81 (sized 23 26)) ⇒ no 12 & next 6  -- MPS before 13
      ∷ two (connected 1 1) (free 1) ⊢ ask (creates 1 0x81 (sized 24 25)) ⇒ no 12 & next 6  -- MTU before 13
      ∷ three (connected 1 1) (free 1) (free 0) ⊢ ask (creates 1 0x81 usual) ⇒ no 13 & next 6  -- no slot: not Disconnected, a hold, past N
      ∷ two (free 1) (free 0) ⊢ ask (creates 1 0x81 usual) ⇒ yes (At (index 1)) & slots (free 1) (ours 1 5 0) & next 6
      & writes (14 ∷ 0 ∷ 5 ∷ 0 ∷ 0x14 ∷ 5 ∷ 10 ∷ 0 ∷ 0x81 ∷ 0 ∷ 0x41 ∷ 0 ∷ 23 ∷ 0 ∷ 25 ∷ 0 ∷ 2 ∷ 0 ∷ [])
      ∷ counting 255 (two (free 0) (free 0)) ⊢ ask (creates 2 0x81 usual) ⇒ yes (At (index 0)) & slots (ours 2 255 0) (free 0) & next 1  -- 255, then 1
      & writes (14 ∷ 0 ∷ 5 ∷ 0 ∷ 0x14 ∷ 255 ∷ 10 ∷ 0 ∷ 0x81 ∷ 0 ∷ 0x40 ∷ 0 ∷ 23 ∷ 0 ∷ 25 ∷ 0 ∷ 2 ∷ 0 ∷ [])
      ∷ counting 0 (two (free 0) (free 0)) ⊢ ask (creates 2 0x81 usual) ⇒ yes (At (index 0)) & slots (ours 2 1 0) (free 0) & next 2  -- 0 is never given out
      & writes (14 ∷ 0 ∷ 5 ∷ 0 ∷ 0x14 ∷ 1 ∷ 10 ∷ 0 ∷ 0x81 ∷ 0 ∷ 0x40 ∷ 0 ∷ 23 ∷ 0 ∷ 25 ∷ 0 ∷ 2 ∷ 0 ∷ [])
      ∷ two (free 0) (free 0) ⊢ ask (creates 0x0F00 0x81 usual) ⇒ no 4  -- no identifier is used
      ∷ [])
  pub opened-query : Hold (
      two (free 1) (free 0) ⊢ ask (opens 0 0 true) ⇒ no 18  -- free, though its link reads 0; not freed again
      ∷ two (free 1) (free 0) ⊢ ask (opens 0 1 true) ⇒ no 18  -- free before another link's
      ∷ two (free 1) (free 0) ⊢ ask (opens 0 0 false) ⇒ no 18  -- free before link down: nothing is zeroed
      ∷ two (connected 2 0) (free 0) ⊢ ask (opens 0 1 true) ⇒ no 8  -- another link's
      ∷ two (ours 2 7 0) (free 0) ⊢ ask (opens 0 1 false) ⇒ no 8  -- another link's before link down
      ∷ two (quiet (PeerDisconnecting 8) 2 0) (free 0) ⊢ ask (opens 0 1 true) ⇒ no 8  -- .. before disconnecting
      ∷ two (connected 1 1) (free 0) ⊢ ask (opens 0 1 false) ⇒ no 18 & slots (free 1) (free 0) & wiped0  -- link down, before the hold
      ∷ two (failed 1 NoResources 0) (free 0) ⊢ ask (opens 0 1 false) ⇒ no 18 & slots (free 0) (free 0) & wiped0  -- link down before failed
      ∷ two (asked 1 7 1) (free 0) ⊢ ask (opens 0 1 false) ⇒ no 18 & slots (free 1) (free 0) & wiped0  -- link down before nothing yet
      ∷ two (quiet (PeerDisconnecting 8) 1 1) (free 0) ⊢ ask (opens 0 1 true) ⇒ no 18 & slots (free 1) (free 0) & wiped0  -- disconnecting
      ∷ two (quiet (Disconnecting true) 1 1) (free 0) ⊢ ask (opens 0 1 true) ⇒ no 18 & slots (free 1) (free 0) & wiped0
      ∷ two (failed 1 NoResources 1) (free 0) ⊢ ask (opens 0 1 true) ⇒ no 17 & slots (free 1) (free 0) & wiped0  -- failed, before nothing yet and the hold
      ∷ two (ours 1 7 1) (free 0) ⊢ ask (opens 0 1 true) ⇒ yes Done  -- nothing yet, before the hold
      ∷ two (asked 1 7 0) (free 0) ⊢ ask (opens 0 1 true) ⇒ yes Done  -- nothing yet
      ∷ two (granted 1 1) (free 0) ⊢ ask (opens 0 1 true) ⇒ no 22  -- held
      ∷ two (free 0) (granted 1 0) ⊢ ask (opens 1 1 true) ⇒ yes Opened & slots (free 0) (granted 1 1)
      ∷ [])
  -- 17 comes with the code
  pub code : (outcome (start (two (failed 1 ScidAlreadyAllocated 0) (free 0))) (ask (opens 0 1 true))).answer ≡ Refused (ConnectError ScidAlreadyAllocated)
  pub give_up_lem : Hold (
      two (ours 1 7 1) (free 0) ⊢ ask (gives 0) ⇒ yes Done & slots (free 1) (free 0) & wiped0  -- Connecting, held or not
      ∷ two (failed 1 NoResources 1) (free 0) ⊢ ask (gives 0) ⇒ yes Done & slots (free 1) (free 0) & wiped0  -- ConnectFailed
      ∷ two (free 0) (connected 1 0) ⊢ ask (gives 1) ⇒ yes Done & slots (free 0) (free 0) & wiped1  -- Connected without holds
      ∷ two (connected 1 1) (free 0) ⊢ ask (gives 0) ⇒ no 8  -- .. with a hold
      ∷ two (free 0) (free 0) ⊢ ask (gives 0) ⇒ no 8
      ∷ two (asked 1 7 0) (free 0) ⊢ ask (gives 0) ⇒ no 8
      ∷ two (quiet (PeerDisconnecting 8) 1 0) (free 0) ⊢ ask (gives 0) ⇒ no 8
      ∷ two (quiet (Disconnecting false) 1 0) (free 0) ⊢ ask (gives 0) ⇒ no 8
      ∷ [])

-- ---- holds, disconnects, link down

pub record Closing_lines : Type 0 where
  pub add_hold : Hold (
      two (connected 1 255) (free 0) ⊢ ask (holds 0) ⇒ no 22  -- at 255
      ∷ two (connected 1 254) (free 0) ⊢ ask (holds 0) ⇒ yes Done & slots (connected 1 255) (free 0)
      ∷ two (free 0) (free 0) ⊢ ask (holds 1) ⇒ yes Done & slots (free 0) (free 1)
      ∷ [])
  pub release : Hold (
      two (connected 1 0) (free 0) ⊢ ask (releases 0) ⇒ no 22  -- at 0, before Connected
      ∷ two (free 0) (free 0) ⊢ ask (releases 0) ⇒ no 22  -- at 0
      ∷ two (channel Connected 1 1 (every 1 2 1) (peer 3) (partly 2 5) (one 4)) (free 0) ⊢ ask (releases 0)
      ⇒ yes Done & slots (channel (Disconnecting false) 1 0 (every 1 2 1) (peer 3) idle (one 4)) (free 0) & cleared0  -- Connected, to 0
      ∷ two (connected 1 2) (free 0) ⊢ ask (releases 0) ⇒ yes Done & slots (connected 1 1) (free 0)  -- Connected, not to 0
      ∷ two (ours 1 7 1) (free 0) ⊢ ask (releases 0) ⇒ yes Done & slots (ours 1 7 0) (free 0)  -- to 0, not Connected
      ∷ two (quiet (Disconnecting true) 1 1) (free 0) ⊢ ask (releases 0) ⇒ yes Done & slots (quiet (Disconnecting true) 1 0) (free 0)
      ∷ [])
  pub by-slot : Hold (
      two (free 0) (channel Connected 1 1 (every 1 2 1) (peer 3) (partly 2 5) (one 4)) ⊢ ask (leaves 1)
      ⇒ yes Done & slots (free 0) (channel (Disconnecting false) 1 1 (every 1 2 1) (peer 3) idle (one 4)) & cleared1  -- Connected
      ∷ two (quiet (Disconnecting true) 1 1) (free 0) ⊢ ask (leaves 0) ⇒ yes Done
      ∷ two (quiet (PeerDisconnecting 8) 1 1) (free 0) ⊢ ask (leaves 0) ⇒ yes Done
      ∷ two (ours 1 7 0) (free 0) ⊢ ask (leaves 0) ⇒ yes Done
      ∷ [])
  pub by_CID : Hold (
      two (connected 1 1) (connected 2 1) ⊢ ask (leaves_cid 0x41) ⇒ yes Done & slots (connected 1 1) (quiet (Disconnecting false) 2 1) & cleared1
      ∷ two (connected 1 1) (connected 2 1) ⊢ ask (leaves_cid 0x3F) ⇒ yes Done  -- below 0x40
      ∷ two (connected 1 1) (connected 2 1) ⊢ ask (leaves_cid 0x42) ⇒ yes Done  -- at least 0x40 + N: past N a Connected channel stands
      ∷ two (asked 1 7 1) (connected 2 1) ⊢ ask (leaves_cid 0x40) ⇒ yes Done  -- not Connected
      ∷ [])
  pub link_down : Hold (
      two (connected 1 1) (asked 1 7 0) ⊢ down 1 ⇒ yes Done & slots (free 1) (free 0) & wiped0 & wiped1  -- all its slots
      ∷ two (connected 1 1) (connected 2 1) ⊢ down 2 ⇒ yes Done & slots (connected 1 1) (free 1) & wiped1  -- of this link
      ∷ two (free 1) (free 0) ⊢ down 0 ⇒ yes Done  -- a Disconnected slot is no link's
      ∷ [])
  pub next-disconnect : Hold (
      two (quiet (Disconnecting true) 1 1) (connected 1 1) ⊢ ask announces ⇒ yes Done  -- none: announced already
      ∷ three (free 0) (free 0) (quiet (PeerDisconnecting 8) 1 1) ⊢ ask announces ⇒ yes Done  -- none, before PeerDisconnecting past N
      ∷ two (quiet (PeerDisconnecting 8) 1 1) (quiet (Disconnecting false) 2 1) ⊢ ask announces
      ⇒ yes (Due 1 (index 0)) & slots (free 1) (quiet (Disconnecting false) 2 1) & wiped0
      & writes (8 ∷ 0 ∷ 5 ∷ 0 ∷ 0x07 ∷ 8 ∷ 4 ∷ 0 ∷ 0x40 ∷ 0 ∷ 0x40 ∷ 0 ∷ [])
      ∷ two (free 0) (quiet (PeerDisconnecting 8) 2 1) ⊢ ask announces
      ⇒ yes (Due 2 (index 1)) & slots (free 0) (free 1) & wiped1
      & writes (8 ∷ 0 ∷ 5 ∷ 0 ∷ 0x07 ∷ 8 ∷ 4 ∷ 0 ∷ 0x41 ∷ 0 ∷ 0x40 ∷ 0 ∷ [])
      ∷ two (connected 1 1) (quiet (Disconnecting false) 2 1) ⊢ ask announces
      ⇒ yes (Due 2 (index 1)) & slots (connected 1 1) (quiet (Disconnecting true) 2 1) & next 6
      & writes (8 ∷ 0 ∷ 5 ∷ 0 ∷ 0x06 ∷ 5 ∷ 4 ∷ 0 ∷ 0x40 ∷ 0 ∷ 0x41 ∷ 0 ∷ [])
      ∷ [])

-- ---- signals

abbrev pub hear : (link : ℕ) → List ℕ → Call
hear link pdu = ask (signals link true true pdu)

-- where no listener is, and where we are not Central
abbrev pub deaf : (link : ℕ) → List ℕ → Call
deaf link pdu = ask (signals link false true pdu)

abbrev pub peripheral : (link : ℕ) → List ℕ → Call
peripheral link pdu = ask (signals link true false pdu)

-- half a job has come, and another waits
abbrev pub half : Slot
half = channel Connected 1 1 (every 1 2 1) (peer 3) (partly 2 5) (one 4)

-- an attempt as no run has it: half a job is there, and another waits
abbrev pub begun : Slot → Slot
begun x = record { state = x.state; link = x.link; spsm = x.spsm; mps = x.mps; mtu = x.mtu; account = x.account; hold = x.hold; peer = x.peer; assembly = partly 2 5; queue = one 4; job = x.job; tallies = x.tallies }

pub record Signal_lines : Type 0 where
  -- every header first: in these a good request for a channel stands before the bad header, and nothing comes of it
  pub headers : Hold (
      two (free 0) (free 0) ⊢ hear 1 [] ⇒ yes Done  -- empty
      ∷ two (free 0) (free 0) ⊢ hear 1 (0x16 ∷ 7 ∷ 0 ∷ []) ⇒ no 15  -- under 4 octets: no reply
      ∷ two (free 0) (free 0) ⊢ hear 1 (request 7 0x80 0x40 ++ (0x16 ∷ 8 ∷ 5 ∷ [])) ⇒ no 15  -- under 4 octets, before past the PDU
      ∷ two (free 0) (free 0) ⊢ hear 1 (request 7 0x80 0x40 ++ (0x16 ∷ 8 ∷ 4 ∷ 0 ∷ 1 ∷ 2 ∷ 3 ∷ [])) ⇒ no 9 & writes (reject 8 0)  -- past the PDU, with that header's identifier
      ∷ two (free 0) (free 0) ⊢ hear 1 (request 7 0x80 0x40 ++ credits 0x40 1) ⇒ yes Done & slots (asked 1 7 0) (free 0)  -- the first alone is handled
      ∷ [])
  pub codes : Hold (
      two (free 0) (free 0) ⊢ hear 1 (0x01 ∷ 7 ∷ 2 ∷ 0 ∷ 0 ∷ 0 ∷ []) ⇒ yes Done
      ∷ two (free 0) (free 0) ⊢ hear 1 (0x01 ∷ 7 ∷ 3 ∷ 0 ∷ 0 ∷ 0 ∷ 0 ∷ []) ⇒ yes Done  -- 2 or more
      ∷ two (free 0) (free 0) ⊢ hear 1 (0x01 ∷ 7 ∷ 1 ∷ 0 ∷ 0 ∷ []) ⇒ no 15 & writes (reject 7 0)  -- bad body
      ∷ two (free 0) (free 0) ⊢ hear 1 (0x13 ∷ 7 ∷ 2 ∷ 0 ∷ 0 ∷ 0 ∷ []) ⇒ yes Done
      ∷ two (free 0) (free 0) ⊢ hear 1 (0x13 ∷ 7 ∷ 3 ∷ 0 ∷ 0 ∷ 0 ∷ 0 ∷ []) ⇒ no 15 & writes (reject 7 0)  -- bad body
      ∷ two (free 0) (free 0) ⊢ hear 1 (0x17 ∷ 7 ∷ 0 ∷ 0 ∷ []) ⇒ no 16 & writes (reject 7 0)  -- unknown
      ∷ two (free 0) (free 0) ⊢ hear 1 (0 ∷ 7 ∷ 0 ∷ 0 ∷ []) ⇒ no 16 & writes (reject 7 0)
      ∷ [])
  pub connect_request : Hold (
      two (free 0) (free 0) ⊢ hear 1 (request 7 0x81 0x40) ⇒ yes Done & writes (refusal 7 2)  -- SPSM
      ∷ two (free 0) (free 0) ⊢ deaf 1 (request 7 0x81 0x40) ⇒ yes Done & writes (refusal 7 2)  -- SPSM before listening
      ∷ two (free 0) (free 0) ⊢ deaf 1 (request 7 0x80 0x40) ⇒ yes Done & writes (refusal 7 4)  -- listening
      ∷ two (connected 1 1) (free 0) ⊢ deaf 1 (request 7 0x80 0x40) ⇒ yes Done & writes (refusal 7 4)  -- listening before peer CID
      ∷ two (connected 1 1) (free 0) ⊢ hear 1 (request 7 0x80 0x40) ⇒ yes Done & writes (refusal 7 10)  -- peer CID
      ∷ two (connected 1 1) (connected 2 1) ⊢ hear 1 (request 7 0x80 0x40) ⇒ yes Done & writes (refusal 7 10)  -- peer CID before no free slot
      ∷ two (quiet (PeerDisconnecting 8) 1 1) (free 0) ⊢ hear 1 (request 7 0x80 0x40) ⇒ yes Done & writes (refusal 7 10)  -- in any state but Disconnected
      ∷ two (ours 1 5 0) (free 0) ⊢ hear 1 (request 7 0x80 0) ⇒ yes Done & writes (refusal 7 10)  -- an own attempt counts as 0
      ∷ two (failed 1 NoResources 0) (free 0) ⊢ hear 1 (request 7 0x80 0) ⇒ yes Done & writes (refusal 7 10)
      ∷ two (ours 2 5 0) (free 0) ⊢ hear 1 (request 7 0x80 0) ⇒ yes Done & slots (ours 2 5 0) (wish (PeerConnecting 7) 1 0 (record { cid = 0; mps = 23; mtu = 30; credits = 3 }))  -- .. on its link
      ∷ two (free 0) (free 0) ⊢ hear 0 (request 7 0x80 0) ⇒ yes Done & slots (wish (PeerConnecting 7) 0 0 (record { cid = 0; mps = 23; mtu = 30; credits = 3 })) (free 0)  -- a Disconnected slot uses none
      ∷ two (connected 2 1) (free 0) ⊢ hear 1 (request 7 0x80 0x40) ⇒ yes Done & slots (connected 2 1) (asked 1 7 0)  -- another link's 0x40
      ∷ two (connected 1 1) (free 0) ⊢ hear 1 (request 7 0x80 0x41) ⇒ yes Done & slots (connected 1 1) (wish (PeerConnecting 7) 1 0 (record { cid = 0x41; mps = 23; mtu = 30; credits = 3 }))  -- another CID
      ∷ three (asked 2 7 0) (free 1) (free 0) ⊢ hear 1 (request 7 0x80 0x40) ⇒ yes Done & writes (refusal 7 4)  -- no free slot: used, held, past N
      ∷ two (free 1) (free 0) ⊢ hear 1 (request 7 0x80 0x40) ⇒ yes Done & slots (free 1) (asked 1 7 0)  -- the lowest free
      ∷ knowing (replicate 32 255) (two (free 0) (free 0)) ⊢ hear 1 (request 7 0 0x40) ⇒ yes Done & writes (refusal 7 2)  -- SPSM 0, whatever its bit says
      ∷ two (free 0) (free 0) ⊢ hear 1 (request 7 0x180 0x40) ⇒ yes Done & writes (refusal 7 2)
      ∷ two (free 0) (free 0) ⊢ deaf 1 (0x14 ∷ 7 ∷ 9 ∷ 0 ∷ replicate 9 0) ⇒ no 15 & writes (reject 7 0)  -- bad body, before all
      ∷ [])
  -- the least MTU and MPS, between listening and the peer's CID
  pub least_request : Hold (
      two (free 0) (free 0) ⊢ hear 1 (request_of 22 23 7 0x80 0x40) ⇒ yes Done & writes (refusal 7 11)  -- MTU
      ∷ two (free 0) (free 0) ⊢ hear 1 (request_of 23 22 7 0x80 0x40) ⇒ yes Done & writes (refusal 7 11)  -- MPS
      ∷ two (free 0) (free 0) ⊢ hear 1 (request_of 23 23 7 0x80 0x40) ⇒ yes Done & slots (wish (PeerConnecting 7) 1 0 (peer_of 23 23)) (free 0)
      ∷ two (free 0) (free 0) ⊢ hear 1 (request_of 10 10 7 0x81 0x40) ⇒ yes Done & writes (refusal 7 2)  -- SPSM before it
      ∷ two (free 0) (free 0) ⊢ deaf 1 (request_of 10 10 7 0x80 0x40) ⇒ yes Done & writes (refusal 7 4)  -- listening before it
      ∷ two (connected 1 1) (free 0) ⊢ hear 1 (request_of 30 10 7 0x80 0x40) ⇒ yes Done & writes (refusal 7 11)  -- before peer CID
      ∷ two (connected 1 1) (connected 2 1) ⊢ hear 1 (request_of 0 23 7 0x80 0x41) ⇒ yes Done & writes (refusal 7 11)  -- before no free slot
      ∷ [])
  -- with every bit set: of the SPSMs 0, 1, 255 and 256 those that are registered
  pub spsms : map (λ n. (slot_at (outcome (start (knowing (replicate 32 255) (two (free 0) (free 0)))) (hear 1 (request 7 n 0x40))).table 0).state) (0 ∷ 1 ∷ 255 ∷ 256 ∷ [])
      ≡ Disconnected ∷ PeerConnecting 7 ∷ PeerConnecting 7 ∷ Disconnected ∷ []
  pub connect_response : Hold (
      two (ours 1 7 0) (ours 2 7 0) ⊢ hear 2 (response 7 0) ⇒ yes Done & slots (ours 1 7 0) (granted 2 0)  -- link
      ∷ two (ours 1 7 1) (ours 1 8 0) ⊢ hear 1 (response 8 0) ⇒ yes Done & slots (ours 1 7 1) (granted 1 0)  -- identifier
      ∷ two (ours 1 7 1) (ours 1 7 0) ⊢ hear 1 (response 7 0) ⇒ yes Done & slots (granted 1 1) (ours 1 7 0)  -- the lowest
      ∷ two (ours 1 7 1) (ours 1 8 0) ⊢ hear 1 (response 7 4) ⇒ no 17 & slots (failed 1 NoResources 1) (ours 1 8 0)  -- result
      ∷ two (ours 1 7 1) (ours 2 8 0) ⊢ hear 1 (response 8 0) ⇒ no 8 & slots (free 1) (ours 2 8 0) & wiped0  -- none: this link's attempts go
      ∷ three (ours 1 7 0) (ours 1 8 0) (ours 1 9 0) ⊢ hear 1 (response 9 4) ⇒ no 8 & slots (free 0) (free 0) & wiped0 & wiped1  -- none, before the result
      ∷ two (asked 1 7 0) (ours 1 8 0) ⊢ hear 1 (response 7 0) ⇒ no 8 & slots (asked 1 7 0) (free 0) & wiped1  -- Connecting alone
      ∷ two (ours 1 7 0) (ours 1 8 0) ⊢ hear 1 (response 9 3) ⇒ no 15 & writes (reject 9 0)  -- no result code, before the match
      ∷ two (ours 1 7 0) (ours 1 8 0) ⊢ hear 1 (0x15 ∷ 9 ∷ 11 ∷ 0 ∷ replicate 11 0) ⇒ no 15 & writes (reject 9 0)  -- bad body, before the match
      ∷ [])
  -- .. of a good response: its numbers are stored, nothing is written, and the room stays
  pub least_response : Hold (
      two (ours 1 7 1) (ours 1 8 0) ⊢ hear 1 (response_of 22 23 7 0) ⇒ no 9 & slots (attempt (Disconnecting false) 1 1 (peer_of 22 23)) (ours 1 8 0)  -- MTU
      ∷ two (ours 1 7 1) (ours 1 8 0) ⊢ hear 1 (response_of 23 22 8 0) ⇒ no 9 & slots (ours 1 7 1) (attempt (Disconnecting false) 1 0 (peer_of 23 22))  -- MPS
      ∷ two (ours 1 7 1) (ours 1 8 0) ⊢ hear 1 (response_of 23 23 7 0) ⇒ yes Done & slots (attempt Connected 1 1 (peer_of 23 23)) (ours 1 8 0)
      ∷ two (begun (ours 1 7 1)) (free 0) ⊢ hear 1 (response_of 30 10 7 0) ⇒ no 9 & slots (begun (attempt (Disconnecting false) 1 1 (peer_of 30 10))) (free 0)  -- an assembly is left alone
      ∷ two (ours 1 7 1) (ours 1 8 0) ⊢ hear 1 (response_of 0 0 7 4) ⇒ no 17 & slots (failed 1 NoResources 1) (ours 1 8 0)  -- the result before it
      ∷ two (ours 1 7 1) (ours 2 8 0) ⊢ hear 1 (response_of 10 10 8 0) ⇒ no 8 & slots (free 1) (ours 2 8 0) & wiped0  -- the match before it
      ∷ [])
  -- 17 comes with the code
  pub code : (outcome (start (two (ours 1 7 0) (free 0))) (hear 1 (response 7 10))).answer ≡ Refused (ConnectError ScidAlreadyAllocated)
  pub credit_signal : Hold (
      two (connected 1 1) (connected 2 1) ⊢ hear 2 (credits 0x40 4) ⇒ yes Done & slots (connected 1 1) (channel Connected 2 1 (every 1 3 0) (peer 7) idle none)  -- link
      ∷ two (connected 1 1) (connected 1 1) ⊢ hear 1 (credits 0x40 0) ⇒ yes Done  -- the lowest, and 0 credits
      ∷ two (connected 1 1) (connected 1 1) ⊢ hear 1 (credits 0x40 4) ⇒ yes Done & slots (channel Connected 1 1 (every 1 3 0) (peer 7) idle none) (connected 1 1)
      ∷ two (connected 1 1) (connected 2 1) ⊢ hear 1 (credits 0x41 4) ⇒ no 8  -- the peer's CID, not ours
      ∷ two (quiet (Disconnecting false) 1 1) (asked 1 7 0) ⊢ hear 1 (credits 0x40 4) ⇒ no 8  -- Connected; none, before the sum: past N stand 65,535
      ∷ two (channel Connected 1 1 (every 1 3 0) (peer 65530) idle none) (free 0) ⊢ hear 1 (credits 0x40 5) ⇒ yes Done & slots (channel Connected 1 1 (every 1 3 0) (peer 65535) idle none) (free 0)
      ∷ two (channel Connected 1 1 (every 1 3 0) (peer 65530) (partly 2 5) (one 4)) (free 0) ⊢ hear 1 (credits 0x40 6)
      ⇒ no 9 & slots (channel (Disconnecting false) 1 1 (every 1 3 0) (peer 65530) idle (one 4)) (free 0) & cleared0  -- the sum
      ∷ two (connected 1 1) (free 0) ⊢ hear 1 (0x16 ∷ 7 ∷ 5 ∷ 0 ∷ 0x40 ∷ 0 ∷ 4 ∷ 0 ∷ 0 ∷ []) ⇒ no 15 & writes (reject 7 0)  -- bad body
      ∷ [])
  pub disconnect-request : Hold (
      two half (free 0) ⊢ hear 1 (leaving 8 0x40 0x99) ⇒ yes Done & slots (channel (PeerDisconnecting 8) 1 1 (every 1 2 1) (peer 3) idle (one 4)) (free 0) & cleared0
      ∷ two (free 0) (asked 1 7 1) ⊢ hear 1 (leaving 8 0x41 0x40) ⇒ yes Done & slots (free 0) (wish (PeerDisconnecting 8) 1 1 (peer 3)) & cleared1
      ∷ two (quiet (Disconnecting true) 1 1) (free 0) ⊢ hear 1 (leaving 8 0x40 0x40) ⇒ yes Done & slots (telling untold (quiet (PeerDisconnecting 8) 1 1)) (free 0) & cleared0
      ∷ two half (free 0) ⊢ hear 1 (leaving 8 0x3F 0x40) ⇒ yes Done & writes (reject 8 2)  -- CID below 0x40
      ∷ two half (free 0) ⊢ hear 1 (leaving 8 0x42 0x40) ⇒ yes Done & writes (reject 8 2)  -- CID at least 0x40 + N
      ∷ two half (free 0) ⊢ hear 2 (leaving 8 0x40 0x40) ⇒ yes Done & writes (reject 8 2)  -- link
      ∷ two (free 1) (free 0) ⊢ hear 0 (leaving 8 0x40 0x40) ⇒ yes Done & writes (reject 8 2)  -- Disconnected
      ∷ two half (free 0) ⊢ hear 1 (0x06 ∷ 8 ∷ 5 ∷ 0 ∷ 0x40 ∷ 0 ∷ 0x40 ∷ 0 ∷ 0 ∷ []) ⇒ no 15 & writes (reject 8 0)  -- bad body
      ∷ [])
  pub disconnect-response : Hold (
      two (quiet (Disconnecting true) 1 1) (free 0) ⊢ hear 1 (gone 0x99 0x40) ⇒ yes Done & slots (free 1) (free 0) & wiped0
      ∷ two (quiet (Disconnecting false) 1 1) (quiet (Disconnecting false) 2 1) ⊢ hear 2 (gone 0x40 0x41) ⇒ yes Done & slots (quiet (Disconnecting false) 1 1) (free 1) & wiped1  -- SCID
      ∷ two (quiet (Disconnecting true) 1 1) (free 0) ⊢ hear 1 (gone 0x40 0x3F) ⇒ yes Done  -- CID below 0x40
      ∷ three (free 0) (free 0) (quiet (Disconnecting true) 1 1) ⊢ hear 1 (gone 0x40 0x42) ⇒ yes Done  -- CID at least 0x40 + N
      ∷ two (connected 1 1) (free 0) ⊢ hear 1 (gone 0x40 0x40) ⇒ yes Done  -- not Disconnecting
      ∷ two (quiet (PeerDisconnecting 8) 1 1) (free 0) ⊢ hear 1 (gone 0x40 0x40) ⇒ yes Done
      ∷ two (quiet (Disconnecting true) 1 1) (free 0) ⊢ hear 2 (gone 0x40 0x40) ⇒ yes Done  -- link
      ∷ two (free 1) (free 0) ⊢ hear 0 (gone 0x40 0x40) ⇒ yes Done  -- a Disconnected slot is no link's: nothing is zeroed
      ∷ two (quiet (Disconnecting true) 1 1) (free 0) ⊢ hear 1 (0x07 ∷ 7 ∷ 3 ∷ 0 ∷ 0x40 ∷ 0 ∷ 0x40 ∷ []) ⇒ no 15 & writes (reject 7 0)  -- bad body
      ∷ [])
  pub parameter_request : Hold (
      two (free 0) (free 0) ⊢ peripheral 1 (parameters 6 6 0 10) ⇒ yes Done & writes (reject 7 0)  -- not Central
      ∷ two (free 0) (free 0) ⊢ peripheral 1 (0x12 ∷ 7 ∷ 0 ∷ 0 ∷ []) ⇒ yes Done & writes (reject 7 0)  -- not Central, before a bad body
      ∷ two (free 0) (free 0) ⊢ hear 1 (0x12 ∷ 7 ∷ 0 ∷ 0 ∷ []) ⇒ no 15 & writes (reject 7 0)  -- bad body
      ∷ two (free 0) (free 0) ⊢ hear 1 (parameters 6 6 0 10) ⇒ yes (Event 6 6 0 10)  -- the least
      ∷ two (free 0) (free 0) ⊢ hear 1 (parameters 3200 3200 0 801) ⇒ yes (Event 3200 3200 0 801)  -- the greatest interval
      ∷ two (free 0) (free 0) ⊢ hear 1 (parameters 6 25 499 3200) ⇒ yes (Event 6 25 499 3200)  -- the greatest latency and timeout
      ∷ [])
  -- each of the seven conditions broken alone: response 1
  pub invalid : map (λ pdu. told (outcome (start (two (free 0) (free 0))) (hear 1 pdu)).answer)
      (parameters 5 8 0 10 ∷ parameters 8 7 0 10 ∷ parameters 6 3201 0 3200 ∷ parameters 6 6 500 3200 ∷ parameters 6 6 0 9 ∷ parameters 6 6 0 3201 ∷ parameters 6 3200 0 800 ∷ [])
      ≡ replicate 7 (answered Done)
  pub told_invalid : Hold (two (free 0) (free 0) ⊢ hear 1 (parameters 5 8 0 10) ⇒ yes Done & writes (6 ∷ 0 ∷ 5 ∷ 0 ∷ 0x13 ∷ 7 ∷ 2 ∷ 0 ∷ 1 ∷ 0 ∷ []) ∷ [])

-- ---- frames in

-- a Connected channel of link 1, which has counted the frames that its account has received; and the same once a frame came and it turned Disconnecting
abbrev pub at : (held received : ℕ) → Assembly → Queue → Slot
at held received s q = telling (tallied 7 5 received 2) (channel Connected 1 1 (every 1 held received) (peer 3) s q)

-- .. and with no credit held, once a frame was refused for it
abbrev pub starved : Slot
starved = telling (tallied 7 5 3 3) (at 0 3 idle none)

abbrev pub ended : Queue → Slot
ended q = channel (Disconnecting false) 1 1 (every 1 2 1) (peer 3) idle q

pub record Frame_lines : Type 0 where
  pub refusals : Hold (
      two (connected 1 1) (free 0) ⊢ frame 1 0x3F (0 ∷ 0 ∷ []) ⇒ no 7  -- CID below 0x40
      ∷ two (connected 1 1) (free 0) ⊢ frame 1 0x42 (0 ∷ 0 ∷ []) ⇒ no 7  -- CID at least 0x40 + N
      ∷ two (free 0) (free 0) ⊢ frame 1 0x3F (0 ∷ 0 ∷ []) ⇒ no 7  -- CID before state
      ∷ two (quiet (Disconnecting false) 1 1) (free 0) ⊢ frame 1 0x40 (0 ∷ 0 ∷ []) ⇒ yes Done  -- state
      ∷ two (asked 1 7 0) (free 0) ⊢ frame 2 0x40 (0 ∷ 0 ∷ []) ⇒ yes Done  -- state before link, and before credit
      ∷ two (connected 1 1) (free 0) ⊢ frame 2 0x40 (0 ∷ 0 ∷ []) ⇒ no 8  -- link
      ∷ two (at 0 3 idle none) (free 0) ⊢ frame 2 0x40 (0 ∷ 0 ∷ []) ⇒ no 8  -- link before credit
      ∷ two (at 0 3 idle none) (free 0) ⊢ frame 1 0x40 (0 ∷ 0 ∷ []) ⇒ no 10 & slots starved (free 0)  -- credit
      ∷ two (at 0 3 idle none) (free 0) ⊢ frame 1 0x40 [] ⇒ no 10 & slots starved (free 0)  -- credit before 19
      ∷ [])
  pub first-frames : Hold (
      two (at 3 0 idle (one 4)) (free 0) ⊢ frame 1 0x40 [] ⇒ no 19 & slots (ended (one 4)) (free 0) & cleared0  -- under 2 octets
      ∷ two (at 3 0 idle (one 4)) (free 0) ⊢ frame 1 0x40 (24 ∷ []) ⇒ no 19 & slots (ended (one 4)) (free 0) & cleared0  -- under 2 octets before the MTU
      ∷ two (at 3 0 idle (one 4)) (free 0) ⊢ frame 1 0x40 (24 ∷ 0 ∷ []) ⇒ no 9 & slots (ended (one 4)) (free 0) & cleared0  -- above the MTU
      ∷ two (at 3 0 idle (one 4)) (free 0) ⊢ frame 1 0x40 (23 ∷ 0 ∷ []) ⇒ yes Done & slots (at 2 1 (partly 0 23) (one 4)) (free 0)
      ∷ two (at 3 0 idle (one 4)) (free 0) ⊢ frame 1 0x40 (1 ∷ 0 ∷ 7 ∷ 8 ∷ []) ⇒ no 9 & slots (ended (one 4)) (free 0) & cleared0  -- more than the length
      ∷ two (at 3 0 idle (both 4 4)) (free 0) ⊢ frame 1 0x40 (1 ∷ 0 ∷ 7 ∷ 8 ∷ []) ⇒ no 9 & slots (ended (both 4 4)) (free 0) & cleared0  -- more, before 21
      ∷ two (at 3 0 idle none) (free 0) ⊢ frame 1 0x40 (3 ∷ 0 ∷ 7 ∷ 8 ∷ []) ⇒ yes Done & slots (at 2 1 (partly 2 3) none) (free 0)
      & part0 (begins (7 ∷ 8 ∷ []) 1) (place 2) (place 3)  -- fewer
      ∷ two (at 3 0 idle (both 4 4)) (free 0) ⊢ frame 1 0x40 (3 ∷ 0 ∷ 7 ∷ 8 ∷ []) ⇒ yes Done & slots (at 2 1 (partly 2 3) (both 4 4)) (free 0)
      & part0 (begins (7 ∷ 8 ∷ []) 1) (place 2) (place 3)  -- fewer, before 21
      ∷ two (at 3 0 idle (both 4 4)) (free 0) ⊢ frame 1 0x40 (2 ∷ 0 ∷ 7 ∷ 8 ∷ []) ⇒ no 21 & slots (at 2 1 idle (both 4 4)) (free 0) & cleared0  -- D wait
      ∷ two (at 3 0 idle none) (free 0) ⊢ frame 1 0x40 (2 ∷ 0 ∷ 7 ∷ 8 ∷ []) ⇒ yes Done & slots (at 2 1 idle (one 2)) (free 0)
      & part0 (place 1) (begins (7 ∷ 8 ∷ []) 2) (place 3)  -- equal
      ∷ two (at 3 0 idle (one 4)) (free 0) ⊢ frame 1 0x40 (2 ∷ 0 ∷ 7 ∷ 8 ∷ []) ⇒ yes Done & slots (at 2 1 idle (both 4 2)) (free 0)
      & part0 (place 1) (place 2) (begins (7 ∷ 8 ∷ []) 3)
      ∷ two (at 3 0 (partly 4 0) none) (free 0) ⊢ frame 1 0x40 (3 ∷ 0 ∷ 7 ∷ 8 ∷ []) ⇒ yes Done & slots (at 2 1 (partly 2 3) none) (free 0)
      & part0 (begins (7 ∷ 8 ∷ []) 1) (place 2) (place 3)  -- nothing wanted: no assembly is open, whatever is had
      ∷ two (at 3 0 (partly 4 0) none) (free 0) ⊢ frame 1 0x40 (2 ∷ 0 ∷ 7 ∷ 8 ∷ []) ⇒ yes Done & slots (at 2 1 idle (one 2)) (free 0)
      & part0 (place 1) (begins (7 ∷ 8 ∷ []) 2) (place 3)
      ∷ two (free 0) (connected 2 1) ⊢ frame 2 0x41 (0 ∷ 0 ∷ []) ⇒ yes Done & slots (free 0) (telling (tallied 7 5 4 2) (channel Connected 2 1 (every 1 2 1) (peer 3) idle (one 0)))  -- a job of 0 octets
      ∷ [])
  pub joining-frames : Hold (
      two (at 3 0 (partly 2 5) none) (free 0) ⊢ frame 1 0x40 (7 ∷ 8 ∷ 9 ∷ 9 ∷ []) ⇒ no 9 & slots (ended none) (free 0) & cleared0  -- overrun
      ∷ two (at 3 0 (partly 2 5) (both 4 4)) (free 0) ⊢ frame 1 0x40 (7 ∷ 8 ∷ 9 ∷ 9 ∷ []) ⇒ no 9 & slots (ended (both 4 4)) (free 0) & cleared0  -- overrun before 21
      ∷ two (at 3 0 (partly 2 5) (both 4 4)) (free 0) ⊢ frame 1 0x40 (7 ∷ []) ⇒ yes Done & slots (at 2 1 (partly 3 5) (both 4 4)) (free 0)
      & part0 (begins (1 ∷ 1 ∷ 7 ∷ []) 1) (place 2) (place 3)  -- fewer, before 21; one octet is no short frame here
      ∷ two (at 3 0 (partly 2 5) none) (free 0) ⊢ frame 1 0x40 [] ⇒ yes Done & slots (at 2 1 (partly 2 5) none) (free 0)  -- an empty frame uses its credit
      ∷ two (at 3 0 (partly 2 5) (both 4 4)) (free 0) ⊢ frame 1 0x40 (7 ∷ 8 ∷ 9 ∷ []) ⇒ no 21 & slots (at 2 1 idle (both 4 4)) (free 0) & cleared0  -- D wait
      ∷ two (at 3 0 (partly 2 5) (one 4)) (free 0) ⊢ frame 1 0x40 (3 ∷ 0 ∷ 9 ∷ []) ⇒ yes Done & slots (at 2 1 idle (both 4 5)) (free 0)
      & part0 (place 0) (place 2) (begins (1 ∷ 1 ∷ 3 ∷ 0 ∷ 9 ∷ []) 3)  -- exact: no octet of it is a length
      ∷ [])
  -- held to our own MPS, the length octets of a first frame counted: behind the credit, before all that joining asks
  pub long-frames : Hold (
      two (narrow 3 (at 3 0 idle (one 4))) (free 0) ⊢ frame 1 0x40 (9 ∷ 0 ∷ 7 ∷ 8 ∷ []) ⇒ no 9 & slots (narrow 3 (ended (one 4))) (free 0) & cleared0  -- a first frame
      ∷ two (narrow 4 (at 3 0 idle (one 4))) (free 0) ⊢ frame 1 0x40 (9 ∷ 0 ∷ 7 ∷ 8 ∷ []) ⇒ yes Done & slots (narrow 4 (at 2 1 (partly 2 9) (one 4))) (free 0)
      & part0 (begins (7 ∷ 8 ∷ []) 1) (place 2) (place 3)
      ∷ two (narrow 2 (at 3 0 (partly 2 9) none)) (free 0) ⊢ frame 1 0x40 (7 ∷ 8 ∷ 9 ∷ []) ⇒ no 9 & slots (narrow 2 (ended none)) (free 0) & cleared0  -- a joining frame
      ∷ two (narrow 2 (at 3 0 (partly 2 9) none)) (free 0) ⊢ frame 1 0x40 (7 ∷ 8 ∷ []) ⇒ yes Done & slots (narrow 2 (at 2 1 (partly 4 9) none)) (free 0)
      & part0 (begins (1 ∷ 1 ∷ 7 ∷ 8 ∷ []) 1) (place 2) (place 3)
      ∷ two (narrow 0 (quiet (Disconnecting false) 1 1)) (free 0) ⊢ frame 1 0x40 (5 ∷ []) ⇒ yes Done  -- state before it
      ∷ two (narrow 0 (at 3 0 idle none)) (free 0) ⊢ frame 2 0x40 (5 ∷ []) ⇒ no 8  -- link before it
      ∷ two (narrow 0 (at 0 3 idle none)) (free 0) ⊢ frame 1 0x40 (5 ∷ []) ⇒ no 10 & slots (narrow 0 starved) (free 0)  -- credit before it
      ∷ two (narrow 0 (at 3 0 idle none)) (free 0) ⊢ frame 1 0x40 (5 ∷ []) ⇒ no 9 & slots (narrow 0 (ended none)) (free 0) & cleared0  -- before 19
      ∷ two (narrow 1 (at 3 0 idle (both 4 4))) (free 0) ⊢ frame 1 0x40 (0 ∷ 0 ∷ []) ⇒ no 9 & slots (narrow 1 (ended (both 4 4))) (free 0) & cleared0  -- before 21
      ∷ two (narrow 1 (at 3 0 (partly 2 4) (both 4 4))) (free 0) ⊢ frame 1 0x40 (7 ∷ 8 ∷ []) ⇒ no 9 & slots (narrow 1 (ended (both 4 4))) (free 0) & cleared0
      ∷ two (narrow 0 (at 3 0 idle none)) (free 0) ⊢ frame 1 0x40 [] ⇒ no 19 & slots (narrow 0 (ended none)) (free 0) & cleared0
      ∷ [])

-- ---- sending

abbrev pub to : (mtu mps credits : ℕ) → Slot
to mtu mps n = channel Connected 1 1 (every 1 3 0) (record { cid = 0x40; mps = mps; mtu = mtu; credits = n }) idle none

-- what a send of so many octets, to an output of so many, answers
abbrev pub sent : Slot → (l out : ℕ) → Told
sent x l out = told (send (two x (free 0)) 0 l out).answer

pub record Send_lines : Type 0 where
  pub order : Agree (
      (sent (quiet (Disconnecting false) 1 1) 2 8, refused 11)  -- state
      ∷ (sent (asked 1 7 1) 31 0, refused 11)  -- 11 before 12
      ∷ (sent (to 30 23 3) 31 99, refused 12)  -- MTU
      ∷ (sent (to 65533 22 0) 65534 0, refused 12)  -- 12 before 23
      ∷ (sent (to 65535 65535 3) 65534 80000, refused 23)  -- longer than 65,533
      ∷ (sent (to 65535 22 3) 65534 0, refused 23)  -- 23 before 20
      ∷ (sent (to 30 22 3) 2 99, refused 20)  -- MPS
      ∷ (sent (to 30 22 0) 2 0, refused 20)  -- 20 before 14
      ∷ (sent (to 30 23 1) 22 99, refused 14)  -- credits
      ∷ (sent (to 30 23 1) 22 0, refused 14)  -- 14 before 3
      ∷ (sent (to 30 23 2) 22 31, refused 3)  -- output: 22 + 2 + 4 · 2
      ∷ (sent (to 30 23 2) 22 32, answered (Frames 1 2))
      ∷ (sent (to 30 23 2) 30 40, answered (Frames 1 2))
      ∷ (sent (to 65535 65535 1) 65533 65539, answered (Frames 1 1))
      ∷ [])
  pub frames-out : Hold (
      two (free 0) (connected 2 1) ⊢ sends 1 (7 ∷ 8 ∷ []) (window 0 8) ⇒ yes (Frames 2 1) & slots (free 0) (telling (tallied 8 5 3 2) (channel Connected 2 1 (every 1 3 0) (peer 2) idle none))
      & writes (4 ∷ 0 ∷ 0x40 ∷ 0 ∷ 2 ∷ 0 ∷ 7 ∷ 8 ∷ [])
      ∷ two (free 0) (connected 2 1) ⊢ sends 1 (7 ∷ 8 ∷ []) (window 0 7) ⇒ no 3
      ∷ two (free 0) (channel Connected 2 1 (every 1 3 0) (peer 0) idle none) ⊢ sends 1 (7 ∷ 8 ∷ []) (window 0 8)
      ⇒ no 14 & slots (free 0) (telling (tallied 7 6 3 2) (channel Connected 2 1 (every 1 3 0) (peer 0) idle none))
      ∷ [])

-- ---- taking

abbrev pub grant : (id cid n : ℕ) → List ℕ
grant id cid n = 8 ∷ 0 ∷ 5 ∷ 0 ∷ 0x16 ∷ id ∷ 4 ∷ 0 ∷ cid ∷ 0 ∷ n ∷ 0 ∷ []

abbrev pub with : CreditFlowControl → Queue → Slot
with a q = channel Connected 1 1 a (peer 3) (partly 1 2) q

-- a call with a job buffer of so many octets
abbrev pub into : (size : ℕ) → Request → Call
into size r = plain r (window 0 18) (window 18 size)

pub record Take_lines : Type 0 where
  pub states : Hold (
      two (free 1) (free 0) ⊢ ask (takes 0) ⇒ no 11  -- each of the four states, before "no job waits"
      ∷ two (ours 1 7 1) (free 0) ⊢ ask (takes 0) ⇒ no 11
      ∷ two (asked 1 7 1) (free 0) ⊢ ask (takes 0) ⇒ no 11
      ∷ two (failed 1 NoResources 1) (free 0) ⊢ ask (takes 0) ⇒ no 11
      ∷ two (with (every 1 2 1) none) (free 0) ⊢ ask (takes 0) ⇒ yes Done  -- no job waits: nothing is granted
      ∷ two (quiet (Disconnecting true) 1 1) (free 0) ⊢ ask (takes 0) ⇒ yes Done
      ∷ two (channel (Disconnecting true) 1 1 (every 1 2 1) (peer 3) idle (one 2)) (free 0) ⊢ ask (takes 0)
      ⇒ yes (Job 1 2) & slots (channel (Disconnecting true) 1 1 (every 1 2 1) (peer 3) idle none) (free 0) & part0 (place 1) (place 0) (place 3) & hands (2 ∷ 2 ∷ [])  -- grants: Connected only
      ∷ two (free 0) (channel (PeerDisconnecting 8) 2 1 (every 1 2 1) (peer 3) idle (one 0)) ⊢ ask (takes 1)
      ⇒ yes (Job 2 0) & slots (free 0) (channel (PeerDisconnecting 8) 2 1 (every 1 2 1) (peer 3) idle none) & part1 (place 4) (place 0) (place 6)
      ∷ [])
  pub jobs-out : Hold (
      two (with (every 1 2 1) (both 4 3)) (free 0) ⊢ ask (takes 0)  -- as many octets as the buffer has
      ⇒ yes (Job 1 4) & slots (with (every 1 3 0) (one 3)) (free 0) & next 6 & part0 (place 1) (place 3) (place 0)
      & hands (2 ∷ 2 ∷ 2 ∷ 2 ∷ []) & writes (grant 5 0x40 1)
      ∷ two (free 0) (channel Connected 2 1 (every 1 0 3) (peer 3) idle (one 2)) ⊢ ask (takes 1)
      ⇒ yes (Job 2 2) & slots (free 0) (channel Connected 2 1 (every 1 3 0) (peer 3) idle none) & next 6 & part1 (place 4) (place 0) (place 6)
      & hands (5 ∷ 5 ∷ []) & writes (grant 5 0x41 3)
      ∷ [])
  -- a buffer shorter than the oldest job: all stays, though a grant is due
  pub short : Hold (
      two (with (every 1 2 1) (both 5 3)) (free 0) ⊢ ask (takes 0) ⇒ no 12  -- the later one, which would fit, waits behind it
      ∷ two (with (every 1 2 1) (one 1)) (free 0) ⊢ into 0 (takes 0) ⇒ no 12
      ∷ two (free 0) (channel Connected 2 1 (every 1 0 3) (peer 3) idle (one 23)) ⊢ ask (takes 1) ⇒ no 12
      ∷ two (channel (Disconnecting true) 1 1 (every 1 2 1) (peer 3) idle (one 5)) (free 0) ⊢ ask (takes 0) ⇒ no 12  -- while disconnecting too
      ∷ two (free 0) (channel (PeerDisconnecting 8) 2 1 (every 1 2 1) (peer 3) idle (one 5)) ⊢ ask (takes 1) ⇒ no 12
      ∷ two (channel (ConnectFailed NoResources) 1 1 (every 1 2 1) (peer 3) idle (one 5)) (free 0) ⊢ ask (takes 0) ⇒ no 11  -- 11 before 12
      ∷ two (with (every 1 2 1) (record { count = 0; lens = 5 ∷ 0 ∷ 0 ∷ 0 ∷ [] })) (free 0) ⊢ ask (takes 0) ⇒ yes Done  -- no job waits, whatever the buffer
      ∷ two (with (every 1 2 1) none) (free 0) ⊢ into 0 (takes 0) ⇒ yes Done
      ∷ two (with (every 2 1 1) (one 0)) (free 0) ⊢ into 0 (takes 0) ⇒ yes (Job 1 0) & slots (with (every 2 1 1) none) (free 0) & part0 (place 1) (place 0) (place 3)
      ∷ [])
  -- 3 before 12, for a signal buffer of 17
  pub signal-first : answer_number (decide (two (with (every 1 2 1) (one 5)) (free 0)) (ask (takes 0)) 0 138 17 4).answer ≡ 3
  -- a job of 0 octets taken: what is granted
  pub policies : Hold (
      two (with (every 2 1 1) (one 0)) (free 0) ⊢ ask (takes 0) ⇒ yes (Job 1 0) & slots (with (every 2 1 1) none) (free 0) & part0 (place 1) (place 0) (place 3)  -- received 1, under 2
      ∷ two (with (every 2 1 2) (one 0)) (free 0) ⊢ ask (takes 0) ⇒ yes (Job 1 0) & slots (with (every 2 3 0) none) (free 0) & part0 (place 1) (place 0) (place 3) & next 6 & writes (grant 5 0x40 2)
      ∷ two (with (every 0 3 0) (one 0)) (free 0) ⊢ ask (takes 0) ⇒ yes (Job 1 0) & slots (with (every 0 3 0) none) (free 0) & part0 (place 1) (place 0) (place 3)  -- never 0 credits
      ∷ two (with (threshold 2 2 1) (one 0)) (free 0) ⊢ ask (takes 0) ⇒ yes (Job 1 0) & slots (with (threshold 2 2 1) none) (free 0) & part0 (place 1) (place 0) (place 3)  -- 2 held, not under 2
      ∷ two (with (threshold 2 1 2) (one 0)) (free 0) ⊢ ask (takes 0) ⇒ yes (Job 1 0) & slots (with (threshold 2 3 0) none) (free 0) & part0 (place 1) (place 0) (place 3) & next 6 & writes (grant 5 0x40 2)
      ∷ two (with (threshold 2 0 0) (one 0)) (free 0) ⊢ ask (takes 0) ⇒ yes (Job 1 0) & slots (with (threshold 2 0 0) none) (free 0) & part0 (place 1) (place 0) (place 3)  -- never 0 credits
      ∷ [])

-- ---- registering, asking, the two senders

abbrev pub attended : Slot → Slot → Told
attended x y = told (outcome (start (two x y)) (ask attends)).answer

-- the five numbers that are asked for: SPSM, MTU, MPS, the peer's MTU and MPS
abbrev pub asking : (Slot → ℕ) → ℕ → Table → Told
asking of s t = told (outcome (start t) (ask (asks of s))).answer

pub record Asking_lines : Type 0 where
  pub registers : Hold (
      two (free 0) (free 0) ⊢ ask (register 0) ⇒ no 5  -- below 1
      ∷ two (free 0) (free 0) ⊢ ask (register 256) ⇒ no 5  -- above 255
      ∷ two (free 0) (free 0) ⊢ ask (register 0x80) ⇒ yes Done  -- twice is once
      ∷ [])
  pub registered : map (λ n. (outcome (start (two (free 0) (free 0))) (ask (register n))).table.spsms) (1 ∷ 0x81 ∷ 255 ∷ [])
      ≡ (2 ∷ replicate 15 0 ++ (1 ∷ replicate 15 0)) ∷ (replicate 16 0 ++ (3 ∷ replicate 15 0)) ∷ (replicate 16 0 ++ (1 ∷ replicate 14 0 ++ (128 ∷ []))) ∷ []
  pub attentions : Agree (
      (attended (asked 1 7 0) (ours 1 8 0), answered (Attention 0 0 2))  -- none, whatever stands past N
      ∷ (attended (connected 1 1) (quiet (Disconnecting true) 1 1), answered (Attention 0 0 2))  -- none: announced already
      ∷ (attended (at 2 1 idle (one 0)) (free 0), answered (Attention 1 1 0))  -- a job waits
      ∷ (attended (free 0) (failed 1 NoResources 0), answered (Attention 2 1 1))  -- ConnectFailed
      ∷ (attended (quiet (Disconnecting false) 1 1) (quiet (PeerDisconnecting 8) 2 1), answered (Attention 3 2 0))  -- a disconnect is due
      ∷ [])
  pub lowest_free_lem : lowest_free [] ∷ lowest_free (free 1 ∷ connected 1 0 ∷ []) ∷ lowest_free (free 1 ∷ connected 1 0 ∷ free 0 ∷ free 0 ∷ []) ∷ [] ≡ 0 ∷ 2 ∷ 2 ∷ []
  pub queries : Agree (
      (asking (λ x. x.spsm) 1 (two (free 0) (connected 1 1)), answered (Number 0x80))
      ∷ (asking (λ x. x.mtu) 1 (two (free 0) (connected 1 1)), answered (Number 23))
      ∷ (asking (λ x. x.mps) 0 (two (connected 1 1) (free 0)), answered (Number 25))
      ∷ (asking (λ x. x.peer.mtu) 0 (two (asked 1 7 0) (free 0)), answered (Number 30))
      ∷ (asking (λ x. x.peer.mps) 0 (two (asked 1 7 0) (free 0)), answered (Number 23))
      ∷ (asking (λ x. x.mtu) 0 (two (free 0) (free 0)), answered (Number 0))
      ∷ [])
  pub senders : Hold (
      two (free 0) (free 0) ⊢ ask (sends_signal 1 (Signal.ConnParamUpdateReq (record { min = 6; max = 8; latency = 0; timeout = 10 })))
      ⇒ yes Done & next 6 & writes (12 ∷ 0 ∷ 5 ∷ 0 ∷ 0x12 ∷ 5 ∷ 8 ∷ 0 ∷ 6 ∷ 0 ∷ 8 ∷ 0 ∷ 0 ∷ 0 ∷ 10 ∷ 0 ∷ [])
      ∷ two (free 0) (free 0) ⊢ ask (sends_signal 1 (Signal.ConnParamUpdateRes (record { result = 1 }))) ⇒ yes Done & next 6 & writes (6 ∷ 0 ∷ 5 ∷ 0 ∷ 0x13 ∷ 5 ∷ 2 ∷ 0 ∷ 1 ∷ 0 ∷ [])
      ∷ [])

-- ---- every state, in every call that asks for it

-- A slot of link 1 in each of the states, with so many holds: what a call answers, and the state that it leaves.
abbrev pub each-state : List ChannelState
each-state = Disconnected ∷ Connecting 7 ∷ PeerConnecting 7 ∷ Connected ∷ ConnectFailed NoResources ∷ PeerDisconnecting 8 ∷ Disconnecting false ∷ Disconnecting true ∷ []

abbrev pub in_each : (hold : ℕ) → Call → List ℕ
in_each h c = map (λ k. answer_number (outcome (start (two (quiet k 1 h) (free 0))) c).answer) each-state

abbrev pub left_by : (hold : ℕ) → Call → List ChannelState
left_by h c = map (λ k. (slot_at (outcome (start (two (quiet k 1 h) (free 0))) c).table 0).state) each-state

pub record State_lines : Type 0 where
  --                                               Disconnected, Connecting, PeerConnecting, Connected, ConnectFailed, PeerDisconnecting, Disconnecting (new, announced)
  pub next-pending : in_each 1 (ask (pends 1 true)) ≡ 0 ∷ 0 ∷ 22 ∷ 0 ∷ 0 ∷ 0 ∷ 0 ∷ 0 ∷ []
  pub accept : in_each 1 (ask (accepts 0 usual)) ≡ 8 ∷ 8 ∷ 0 ∷ 8 ∷ 8 ∷ 8 ∷ 8 ∷ 8 ∷ []
  pub reject-one : in_each 1 (ask (rejects 0 (Some Success))) ≡ 8 ∷ 8 ∷ 0 ∷ 8 ∷ 8 ∷ 8 ∷ 8 ∷ 8 ∷ []
  pub drop-pending : in_each 0 (ask (drops 0)) ≡ 22 ∷ 22 ∷ 22 ∷ 0 ∷ 22 ∷ 22 ∷ 22 ∷ 22 ∷ []
  pub opened-query : in_each 1 (ask (opens 0 1 true)) ≡ 18 ∷ 0 ∷ 0 ∷ 22 ∷ 17 ∷ 18 ∷ 18 ∷ 18 ∷ []
  pub give_up_lem : in_each 0 (ask (gives 0)) ≡ 8 ∷ 0 ∷ 8 ∷ 0 ∷ 0 ∷ 8 ∷ 8 ∷ 8 ∷ []
  pub response_in : in_each 0 (hear 1 (response 7 0)) ≡ 8 ∷ 0 ∷ 8 ∷ 8 ∷ 8 ∷ 8 ∷ 8 ∷ 8 ∷ []
  pub credits_in_lem : in_each 0 (hear 1 (credits 0x40 1)) ≡ 8 ∷ 8 ∷ 8 ∷ 0 ∷ 8 ∷ 8 ∷ 8 ∷ 8 ∷ []
  pub frame_in_lem : in_each 0 (frame 1 0x40 []) ≡ 0 ∷ 0 ∷ 0 ∷ 19 ∷ 0 ∷ 0 ∷ 0 ∷ 0 ∷ []
  pub sending : in_each 0 (sends 0 [] (window 0 18)) ≡ 11 ∷ 11 ∷ 11 ∷ 0 ∷ 11 ∷ 11 ∷ 11 ∷ 11 ∷ []
  pub taking : in_each 0 (ask (takes 0)) ≡ 11 ∷ 11 ∷ 11 ∷ 0 ∷ 11 ∷ 0 ∷ 0 ∷ 0 ∷ []
  -- a hold released, to 0; a disconnect; a response that matches none; 0x06 and 0x07; link down; a disconnect announced or answered
  pub released : left_by 1 (ask (releases 0))
      ≡ Disconnected ∷ Connecting 7 ∷ PeerConnecting 7 ∷ Disconnecting false ∷ ConnectFailed NoResources ∷ PeerDisconnecting 8 ∷ Disconnecting false ∷ Disconnecting true ∷ []
  pub by-slot : left_by 1 (ask (leaves 0))
      ≡ Disconnected ∷ Connecting 7 ∷ PeerConnecting 7 ∷ Disconnecting false ∷ ConnectFailed NoResources ∷ PeerDisconnecting 8 ∷ Disconnecting false ∷ Disconnecting true ∷ []
  pub unmatched : left_by 1 (hear 1 (response 9 0))
      ≡ Disconnected ∷ Disconnected ∷ PeerConnecting 7 ∷ Connected ∷ ConnectFailed NoResources ∷ PeerDisconnecting 8 ∷ Disconnecting false ∷ Disconnecting true ∷ []
  pub request_in : left_by 1 (hear 1 (leaving 9 0x40 0x40)) ≡ Disconnected ∷ replicate 7 (PeerDisconnecting 9)
  pub gone_in : left_by 1 (hear 1 (gone 0x40 0x40))
      ≡ Disconnected ∷ Connecting 7 ∷ PeerConnecting 7 ∷ Connected ∷ ConnectFailed NoResources ∷ PeerDisconnecting 8 ∷ Disconnected ∷ Disconnected ∷ []
  pub link_down : left_by 1 (down 1) ≡ replicate 8 Disconnected
  pub announced : left_by 1 (ask announces)
      ≡ Disconnected ∷ Connecting 7 ∷ PeerConnecting 7 ∷ Connected ∷ ConnectFailed NoResources ∷ Disconnected ∷ Disconnecting true ∷ Disconnecting true ∷ []
  -- who calls; whose peer CID is in use (the other slot is given out, or not)
  pub attending : map (λ k. attended (quiet k 1 1) (free 0)) each-state
      ≡ replicate 4 (answered (Attention 0 0 2)) ++ replicate 3 (answered (Attention 1 1 0)) ++ (answered (Attention 0 0 2) ∷ [])
  pub used : map (λ k. (slot_at (outcome (start (two (quiet k 1 1) (free 0))) (hear 1 (request 7 0x80 0x40))).table 1).state) each-state ≡ PeerConnecting 7 ∷ replicate 7 Disconnected
  -- no slot but a Disconnected one is given out
  pub no_free_slot : map (λ k. answer_number (outcome (start (two (free 1) (quiet k 1 0))) (ask (creates 2 0x81 usual))).answer) each-state ≡ 0 ∷ replicate 7 13

-- ---- the refusals that come first

-- A table that is none: D 5.
abbrev pub bad : Table
bad = record { slots = free 0 ∷ free 0 ∷ []; n = 2; d = 5; m = 29; identifier = 5; spsms = replicate 32 0 }

abbrev pub good : Table
good = two (free 0) (free 0)

-- A call is made with everything wrong: table, room (137 octets), signal buffer (17), link (0x0F00), slot (2). Then these are put right, one
-- after the other; the sixth answer is the call's own.
abbrev pub ladder : ((link slot : ℕ) → Call) → List ℕ
ladder c =
    map (λ o. answer_number o.answer)
    (decide bad (c 0x0F00 2) 0 137 17 4
    ∷ decide good (c 0x0F00 2) 0 137 17 4
    ∷ decide good (c 0x0F00 2) 0 138 17 4
    ∷ decide good (c 0x0F00 2) 0 138 18 4
    ∷ decide good (c 1 2) 0 138 18 4
    ∷ decide good (c 1 1) 0 138 18 4
    ∷ [])

abbrev pub fits : Slot → Bool
fits x = well_formed (two x (free 0))

abbrev pub sized-slot : (mtu : ℕ) → CreditFlowControl → Assembly → Queue → Slot
sized-slot mtu a s q = record { state = Connected; link = 1; spsm = 0x80; mps = 25; mtu = mtu; account = a; hold = 1; peer = peer 3; assembly = s; queue = q; job = no_job; tallies = untold }

pub record Gate_lines : Type 0 where
  --                                                   table room signal link slot, its own
  pub registers : ladder (λ l s. ask (register 0x80)) ≡ 1 ∷ 0 ∷ 0 ∷ 0 ∷ 0 ∷ 0 ∷ []
  pub signals_in : ladder (λ l s. ask (signals l true true [])) ≡ 1 ∷ 2 ∷ 3 ∷ 4 ∷ 0 ∷ 0 ∷ []
  pub next-pending : ladder (λ l s. ask (pends l true)) ≡ 1 ∷ 4 ∷ 4 ∷ 4 ∷ 0 ∷ 0 ∷ []
  pub reject_all : ladder (λ l s. ask (rejects_all l)) ≡ 1 ∷ 2 ∷ 3 ∷ 4 ∷ 0 ∷ 0 ∷ []
  pub accept : ladder (λ l s. ask (accepts s usual)) ≡ 1 ∷ 3 ∷ 3 ∷ 6 ∷ 6 ∷ 8 ∷ []
  pub reject-one : ladder (λ l s. ask (rejects s (Some Success))) ≡ 1 ∷ 2 ∷ 3 ∷ 6 ∷ 6 ∷ 8 ∷ []
  pub reject_no_code : ladder (λ l s. ask (rejects s None)) ≡ 1 ∷ 2 ∷ 3 ∷ 6 ∷ 6 ∷ 15 ∷ []
  pub drop-pending : ladder (λ l s. ask (drops s)) ≡ 1 ∷ 2 ∷ 6 ∷ 6 ∷ 6 ∷ 22 ∷ []
  pub creating : ladder (λ l s. ask (creates l 0x81 (sized 24 26))) ≡ 1 ∷ 3 ∷ 3 ∷ 4 ∷ 12 ∷ 12 ∷ []
  pub opened-query : ladder (λ l s. ask (opens s l true)) ≡ 1 ∷ 2 ∷ 4 ∷ 4 ∷ 6 ∷ 18 ∷ []
  pub give_up_lem : ladder (λ l s. ask (gives s)) ≡ 1 ∷ 2 ∷ 6 ∷ 6 ∷ 6 ∷ 8 ∷ []
  pub add_hold : ladder (λ l s. ask (holds s)) ≡ 1 ∷ 6 ∷ 6 ∷ 6 ∷ 6 ∷ 0 ∷ []
  pub release : ladder (λ l s. ask (releases s)) ≡ 1 ∷ 2 ∷ 6 ∷ 6 ∷ 6 ∷ 22 ∷ []
  pub by-slot : ladder (λ l s. ask (leaves s)) ≡ 1 ∷ 2 ∷ 6 ∷ 6 ∷ 6 ∷ 0 ∷ []
  pub by_CID : ladder (λ l s. ask (leaves_cid 0x40)) ≡ 1 ∷ 2 ∷ 0 ∷ 0 ∷ 0 ∷ 0 ∷ []
  pub link_down : ladder (λ l s. down l) ≡ 1 ∷ 2 ∷ 4 ∷ 4 ∷ 0 ∷ 0 ∷ []
  pub next-disconnect : ladder (λ l s. ask announces) ≡ 1 ∷ 2 ∷ 3 ∷ 0 ∷ 0 ∷ 0 ∷ []
  pub frame_in_lem : ladder (λ l s. frame l 0x3F []) ≡ 1 ∷ 2 ∷ 4 ∷ 4 ∷ 7 ∷ 7 ∷ []
  pub sending : ladder (λ l s. sends s [] (window 0 18)) ≡ 1 ∷ 6 ∷ 6 ∷ 6 ∷ 6 ∷ 11 ∷ []
  pub taking : ladder (λ l s. ask (takes s)) ≡ 1 ∷ 2 ∷ 3 ∷ 6 ∷ 6 ∷ 11 ∷ []
  pub attending : ladder (λ l s. ask attends) ≡ 1 ∷ 0 ∷ 0 ∷ 0 ∷ 0 ∷ 0 ∷ []
  pub querying : ladder (λ l s. ask (asks (λ x. x.mtu) s)) ≡ 1 ∷ 6 ∷ 6 ∷ 6 ∷ 6 ∷ 0 ∷ []
  pub senders : ladder (λ l s. ask (sends_signal l (Signal.ConnParamUpdateRes (record { result = 1 })))) ≡ 1 ∷ 3 ∷ 3 ∷ 4 ∷ 0 ∷ 0 ∷ []
  -- a room that is too long; the last link and the least
  pub edges : map (λ o. answer_number o.answer) (decide good (ask (opens 0 0 true)) 0 139 18 4 ∷ decide good (ask (opens 0 0x0EFF true)) 0 138 18 4 ∷ []) ≡ 2 ∷ 18 ∷ []
  -- row 1: a job, a queue count or a local MTU beyond its place, a credit sum above 65,535; each broken alone, and each at its limit
  pub unfit : fits (sized-slot 23 (every 1 3 0) idle (record { count = 3; lens = replicate 4 0 }))
      ∷ fits (sized-slot 23 (every 1 3 0) idle (one 24))
      ∷ fits (sized-slot 23 (every 1 3 0) idle (both 0 24))
      ∷ fits (sized-slot 23 (every 1 3 0) (partly 24 0) none)
      ∷ fits (sized-slot 23 (every 1 3 0) (partly 0 24) none)
      ∷ fits (sized-slot 24 (every 1 3 0) idle none)
      ∷ fits (sized-slot 23 (every 1 65535 1) idle none)
      ∷ well_formed (two (free 0) (sized-slot 24 (every 1 3 0) idle none))
      ∷ []
      ≡ replicate 8 false
  pub fit : fits (sized-slot 23 (every 1 65534 1) (partly 23 23) (both 23 23))
      ∷ fits (sized-slot 23 (every 1 3 0) idle (record { count = 1; lens = 23 ∷ 24 ∷ 24 ∷ 24 ∷ [] }))  -- what no job waits in
      ∷ well_formed (three (free 0) (free 0) (sized-slot 24 (every 1 3 0) idle none))  -- past N
      ∷ []
      ≡ replicate 3 true

-- ---- making

abbrev pub making : (n d m : ℕ) → ℕ
making n d m = answer_number (make n d m []).answer

pub record Making_lines : Type 0 where
  -- with no room: 1 where a size is out of its limits, 2 where all are within
  pub limits : making 0 1 29 ∷ making 17 1 29 ∷ making 1 0 29 ∷ making 1 5 29 ∷ making 1 1 28 ∷ making 1 1 1025 ∷ making 1 1 29 ∷ making 16 4 1024 ∷ [] ≡ 1 ∷ 1 ∷ 1 ∷ 1 ∷ 1 ∷ 1 ∷ 2 ∷ 2 ∷ []
  -- one octet too few, one too many
  pub short : told (make 1 1 29 (replicate 45 5)).answer ∷ told (make 1 1 29 (replicate 47 5)).answer ∷ [] ≡ refused 2 ∷ refused 2 ∷ []
  -- a refused making gives a table of no slots, and leaves the room
  pub no-slots : (make 1 1 29 (replicate 45 5)).table ∷ (make 1 1 28 []).table ∷ [] ≡ replicate 2 (record { slots = replicate 16 (free 0); n = 0; d = 0; m = 0; identifier = 1; spsms = replicate 32 0 })
  pub left : (make 1 1 29 (replicate 3 5)).room ∷ (make 0 1 29 (replicate 3 5)).room ∷ [] ≡ replicate 2 (replicate 3 5)
  pub made_table : (make 1 1 29 (replicate 46 5)).table ≡ record { slots = replicate 16 (free 0); n = 1; d = 1; m = 29; identifier = 1; spsms = replicate 32 0 }
  pub made-room : (make 1 1 29 (replicate 46 5)).room ≡ replicate 46 0
  pub answer : (make 1 1 29 (replicate 46 5)).answer ≡ Done

-- ---- every test, and the lines that break when it is dropped, or swapped with the next ("a > b": a line in which both hold and a decides)
--
-- all calls      table > room > signal buffer > link > slot > the call's own: Gate_lines, a row a call; what a row-1 table is: unfit, fit
-- making         sizes > room: limits 2 to 6; sizes: limits; room: short
-- register       1 ≤ SPSM: registers 1; SPSM ≤ 255: 2; registered already: 3
-- next pending   PeerConnecting 2; link 5; none > held 1; link down 2, and only if none 4; held 6
-- reject-all     PeerConnecting, no hold 1, 3; link 4; none 1
-- accept         MPS 1, > state 3; MTU 2, > state 4, > hold 5; state 6, > hold 7; hold 8
-- reject         no code 5, > state 6, codes; state 1, > hold 2; hold 3
-- drop           Connected 1, > hold 2; hold 4, > PeerConnecting 3; PeerConnecting 5, 6
-- create         MPS 1, > 13 3; MTU 2, > 13 4; 13 5; identifier 255 7, 0 8
-- opened         free 1, > link 2, > down 3; link 4, > down 5, > disconnecting 6; down 7, > failed 8, > nothing yet 9; PeerDisconnecting 10, Disconnecting 11;
--                failed > nothing yet > hold 12; nothing yet 14, > hold 13; hold 15
-- give-up        Connecting 1; ConnectFailed 2; Connected 3, and no hold 4; no other state 5 to 8
-- add hold       255: 1, 2. Release: hold 0 2; Connected 5, to 0 4, both 3
-- disconnect     Connected: by-slot 1 to 4; CID ≥ 0x40: by_CID 2; CID < 0x40 + N: 3
-- link down      not Disconnected 3; link 2
-- next disconnect  announced 1; none > PeerDisconnecting 2; PeerDisconnecting 3, 5
-- headers        empty 1; under 4 > past 3; past 4. Codes: each in its own lines; unknown codes 6, 7
-- 0x14           body > all 18; SPSM 1, spsms, > listening 2; listening 3, > peer CID 4; peer CID 5, 13, > no slot 6, not Disconnected 11, link 10, 12; no slot 14.
--                least_request: MTU 1, MPS 2, neither at 23 3; SPSM > least 4; listening > least 5; least > peer CID 6, > no slot 7
-- 0x15           body, code > match 9, 8; Connecting 7; link 1, 5; identifier 2; none > result 6; result 4; freed: link 5, Connecting 7.
--                least_response: MTU 1, MPS 2, neither at 23 3; an assembly 4; result > least 5; none > least 6
-- 0x16           body 8; Connected 5; link 1; peer CID 4; none > sum 5; sum 6, 7
-- 0x06           body 8; CID 4, 5; link 6; not Disconnected 7. 0x07: body 9; CID 3, 4; Disconnecting 5, 6, 8; link 7
-- 0x12           Central 1, > body 2; body 3; the seven conditions: invalid, and their limits 4 to 6. 0x01, 0x13: bodies codes 1 to 5
-- frame in       CID 1, 2, > state 3; state 4, > link 5; link 6, > credit 7; credit 8, > 19 9.
--                long-frames: MPS 1, 3, at the limit 2, 4, 11; state > MPS 5; link > MPS 6; credit > MPS 7; MPS > 19 8, > 21 9, 10
-- first frame    idle 12, 13; 19 1, > MTU 2; MTU 3, 4; more 5, > 21 6; fewer 7, > 21 8; 21 9. Joining: not idle 3, 4, 6; overrun 1, > 21 2; fewer 3, > 21 3; 21 5
-- send           11 1, > 12 2; 12 3, > 23 4; 23 5, > 20 6; 20 7, > 14 8; 14 9, > 3 10; 3 11
-- take           each state > none: states 1 to 4; none 5; grants Connected only 7, 8; never 0 policies 3, 6; Every 1, 2; MinThreshold 4, 5.
--                short: 12 1 to 5, at the job's length jobs-out 1; signal buffer > 12 signal-first; state > 12 6; none > 12 7, none into 0 octets 8; 0 octets into 0 9
-- attention      a job 3; a disconnect due 2, 5; ConnectFailed 4. Lowest free: Disconnected, no hold: lowest_free_lem
-- every state    of each test of a state, in each of the states: State_lines
--
-- What no line can tell, on any table: where two neighbours give one answer and leave the same (MPS and MTU, of ours and of a peer's; link down and disconnecting in the
-- opened query; CID and link of 0x06; CID and state of 0x07; a frame above our MPS, an SDU length above the MTU and more octets than it; the two reasons for no
-- grant), or exclude one another (signal codes, result codes; disconnecting and failed; hold 0 and 1 in a release; overrun and fewer), their
-- order. And two tests that a test before them leaves nothing to: that an SPSM above 255 is not registered (its bit would stand past the 32
-- octets), that a Disconnected slot is not PeerDisconnecting (a free slot is never asked).
