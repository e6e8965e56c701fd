-- Worked lines of the tallies (document 02 (vi); Slots.antt, `counted` and what follows it): which call counts what, what resets them, and that they wrap. A slot has counted 7 frames sent, 5 blocked
-- sends, 3 frames received and 2 blocked receives, where nothing else is said.
use Rattle.std.specs.Prelude.{◌≡◌, true, false, List, [], ◌∷◌, ◌++◌, map, ℕ, ◌-◌, ◌^◌, replicate}
use Rattle.lists.specs.Every as Each
use Rattle.codes.specs.declared.LeCreditConnResultCode.TheVariants.{NoResources}
use Rattle.channel.specs.declared.Answer.TheVariants.{Number}
use Rattle.channel.specs.declared.ChannelState.TheVariants.{Disconnected, Connecting, PeerConnecting, Connected, ConnectFailed, PeerDisconnecting, Disconnecting}
use Rattle.channel.specs.declared.Slot.{Slot}
use Rattle.channel.specs.declared.Tallies.{Tallies}
use Rattle.definition.specs.Slots.{with_job}
use Rattle.definition.specs.Table.{slot_at}
use Rattle.definition.specs.Outcome.{Outcome}
use Rattle.definition.specs.Frames.{dispatch, send}
use Rattle.definition.specs.Portions.{start_job, give_portion, cancel_job}
use Rattle.definition.specs.Asking.{tally_sent, tally_received, tally_blocked_sends, tally_blocked_receives}
use Rattle.definition.specs.Calls.{Call, down, signals, drops, opens, gives, releases, leaves, leaves_cid, announces}
use Rattle.definition.specs.Run.{outcome}
use Rattle.definition.specs.Line.{Agree, answered, refused, told, ask, start, two, every, idle, none, both, peer, free, channel, quiet, connected, tallied, untold, telling, credits, leaving, gone}

-- what slot 0 has counted after a call
abbrev pub of : Outcome → Tallies
of o = (slot_at o.table 0).tallies

-- ---- sends and starts

abbrev pub to : (mtu mps credits : ℕ) → Slot
to mtu mps n = channel Connected 1 1 (every 1 3 0) (record { cid = 0x40; mps = mps; mtu = mtu; credits = n }) idle none

abbrev pub half : Slot → Slot
half = with_job (record { length = 9; taken = 2; filled = 0; aside = 2 })

abbrev pub sent : Slot → (l out : ℕ) → Tallies
sent x l out = of (send (two x (free 0)) 0 l out)

abbrev pub begun : Slot → (l size : ℕ) → Tallies
begun x l size = of (start_job (two x (free 0)) 0 l size)

abbrev pub stay : Tallies
stay = tallied 7 5 3 2

pub record Send_tallies : Type 0 where
  -- one frame, two; 14 for one and for two; what 11, 24, 12, 23, 20 and 3 refuse is not counted
  pub sends : sent (to 30 23 2) 2 8 ∷ sent (to 30 23 2) 22 32 ∷ sent (to 30 23 0) 2 8 ∷ sent (to 30 23 1) 22 32
      ∷ sent (quiet (PeerDisconnecting 8) 1 1) 2 8 ∷ sent (half (to 30 23 2)) 2 8 ∷ sent (to 30 23 0) 31 99 ∷ sent (to 65535 65535 0) 65534 80000 ∷ sent (to 30 22 0) 2 99 ∷ sent (to 30 23 2) 22 31 ∷ []
      ≡ tallied 8 5 3 2 ∷ tallied 9 5 3 2 ∷ tallied 7 6 3 2 ∷ tallied 7 6 3 2 ∷ replicate 6 stay
  pub starts : begun (to 30 23 2) 2 8 ∷ begun (to 30 23 2) 22 27 ∷ begun (to 30 23 0) 2 8 ∷ begun (to 30 23 1) 22 27
      ∷ begun (quiet (PeerDisconnecting 8) 1 1) 2 8 ∷ begun (half (to 30 23 2)) 2 8 ∷ begun (to 30 23 0) 31 99 ∷ begun (to 65535 65535 0) 65534 80000 ∷ begun (to 30 22 0) 2 99 ∷ begun (to 30 23 2) 22 26 ∷ []
      ≡ tallied 8 5 3 2 ∷ tallied 9 5 3 2 ∷ tallied 7 6 3 2 ∷ tallied 7 6 3 2 ∷ replicate 6 stay
  -- a portion counts nothing, whether a frame fills or the last closes the job; a cancel before the first frame takes nothing back, a later one resets
  pub portions : of (give_portion (two (half (to 30 4 5)) (free 0)) 0 1 8) ∷ of (give_portion (two (half (to 30 4 5)) (free 0)) 0 4 8)
      ∷ of (give_portion (two (with_job (record { length = 2; taken = 0; filled = 2; aside = 1 }) (to 30 4 5)) (free 0)) 0 2 8) ∷ [] ≡ replicate 3 stay
  pub cancels : of (cancel_job (two (with_job (record { length = 9; taken = 0; filled = 2; aside = 3 }) (to 30 4 5)) (free 0)) 138 0) ∷ of (cancel_job (two (half (to 30 4 5)) (free 0)) 138 0) ∷ [] ≡ stay ∷ untold ∷ []

-- ---- frames

-- what slot 0, with so many credits held and these jobs waiting, has counted once a frame came
abbrev pub came : (held : ℕ) → Slot → (link cid : ℕ) (head : List ℕ) (count : ℕ) → Tallies
came n x link cid head count = of (dispatch (two x (free 0)) 138 link cid head count)

abbrev pub with : (held : ℕ) → Slot
with n = channel Connected 1 1 (every 1 n 0) (peer 3) idle (both 4 4)

pub record Frame_tallies : Type 0 where
  -- a frame that begins a job, one that is dropped with 21, one without credit; a stranger's, one that finds nobody and one of no slot are not counted; 19 and 9 leave the channel
  pub frames_in : came 3 (with 3) 1 0x40 (9 ∷ 0 ∷ []) 2 ∷ came 3 (with 3) 1 0x40 (2 ∷ 0 ∷ []) 2 ∷ came 0 (with 0) 1 0x40 (2 ∷ 0 ∷ []) 2 ∷ came 3 (with 3) 2 0x40 (2 ∷ 0 ∷ []) 2
      ∷ came 3 (quiet (PeerDisconnecting 8) 1 1) 1 0x40 (2 ∷ 0 ∷ []) 2 ∷ came 3 (with 3) 1 0x3F (2 ∷ 0 ∷ []) 2 ∷ came 3 (with 3) 1 0x40 [] 1 ∷ came 3 (with 3) 1 0x40 (24 ∷ 0 ∷ []) 0 ∷ []
      ≡ tallied 7 5 4 2 ∷ tallied 7 5 4 2 ∷ tallied 7 5 3 3 ∷ stay ∷ stay ∷ stay ∷ untold ∷ untold ∷ []

-- ---- 64 bits, wrapping

abbrev pub most : ℕ
most = 2 ^ 64 - 1

abbrev pub full : Slot → Slot
full = telling (tallied most most most most)

pub record Wrap_tallies : Type 0 where
  -- one more than the most is 0, and two more are 1; nothing is carried from one tally to the next
  pub wraps : sent (full (to 30 23 2)) 2 8 ∷ sent (full (to 30 23 2)) 22 32 ∷ sent (full (to 30 23 0)) 2 8 ∷ begun (full (to 30 23 2)) 22 27 ∷ came 3 (full (with 3)) 1 0x40 (2 ∷ 0 ∷ []) 2 ∷ came 0 (full (with 0)) 1 0x40 (2 ∷ 0 ∷ []) 2 ∷ []
      ≡ tallied 0 most most most ∷ tallied 1 most most most ∷ tallied most 0 most most ∷ tallied 1 most most most ∷ tallied most most 0 most ∷ tallied most most most 0 ∷ []

-- ---- what resets them

-- A slot of link 1 in each of the states, with so many holds, which has counted: what stands after a call.
abbrev pub by : (hold : ℕ) → Call → List Tallies
by h c =
    map (λ k. of (outcome (start (two (telling stay (quiet k 1 h)) (free 0))) c))
    (Disconnected ∷ Connecting 7 ∷ PeerConnecting 7 ∷ Connected ∷ ConnectFailed NoResources ∷ PeerDisconnecting 8 ∷ Disconnecting false ∷ Disconnecting true ∷ [])

abbrev pub hear : List ℕ → Call
hear pdu = ask (signals 1 true true pdu)

pub record Resets : Type 0 where
  -- our side turns Connected into Disconnecting: a hold released to 0, a disconnect by slot or by CID, credits above 65,535 (a frame's 9 and 19, and a later cancel, above)
  pub released : by 1 (ask (releases 0)) ≡ replicate 3 stay ++ (untold ∷ replicate 4 stay)
  pub held_on : by 2 (ask (releases 0)) ≡ replicate 8 stay
  pub by-slot : by 1 (ask (leaves 0)) ≡ replicate 3 stay ++ (untold ∷ replicate 4 stay)
  pub by_cid : by 1 (ask (leaves_cid 0x40)) ≡ replicate 3 stay ++ (untold ∷ replicate 4 stay)
  pub overflow : by 1 (hear (credits 0x40 65535)) ≡ replicate 3 stay ++ (untold ∷ replicate 4 stay)
  -- the peer's disconnect does not
  pub request_in : by 1 (hear (leaving 9 0x40 0x40)) ≡ replicate 8 stay
  -- whenever a slot is freed: link down, the next disconnect of what the peer closed, its response to ours, the opened query, give-up, a pending that is dropped
  pub link_down : by 1 (down 1) ≡ stay ∷ replicate 7 untold
  pub announced : by 1 (ask announces) ≡ replicate 5 stay ++ (untold ∷ stay ∷ stay ∷ [])
  pub gone_in : by 1 (hear (gone 0x40 0x40)) ≡ replicate 6 stay ++ (untold ∷ untold ∷ [])
  pub opened_up : by 0 (ask (opens 0 1 true)) ≡ replicate 4 stay ++ replicate 4 untold
  pub opened_down : by 0 (ask (opens 0 1 false)) ≡ stay ∷ replicate 7 untold
  pub given_up : by 0 (ask (gives 0)) ≡ stay ∷ untold ∷ stay ∷ untold ∷ untold ∷ replicate 3 stay
  pub dropped : by 1 (ask (drops 0)) ≡ stay ∷ stay ∷ untold ∷ replicate 5 stay

-- ---- the four questions, in any state; a slot past the last is refused

pub record Tally_queries : Type 0 where
  pub told-each : Agree (
      (told (tally_sent (two (free 0) (connected 1 1)) 1).answer, answered (Number 7))
      ∷ (told (tally_received (two (free 0) (connected 1 1)) 1).answer, answered (Number 3))
      ∷ (told (tally_blocked_sends (two (free 0) (connected 1 1)) 1).answer, answered (Number 5))
      ∷ (told (tally_blocked_receives (two (free 0) (connected 1 1)) 1).answer, answered (Number 2))
      ∷ (told (tally_sent (two (full (connected 1 1)) (free 0)) 0).answer, answered (Number most))
      ∷ (told (tally_sent (two (free 0) (free 0)) 0).answer, answered (Number 0))
      ∷ (told (tally_sent (two (free 0) (free 0)) 2).answer, refused 6)
      ∷ [])
