-- Worked lines of jobs handed over in portions (Portions.antt): a table of two slots, a call, what it answers and leaves; in them every test of the three
-- calls decides, and every clause of document 02 (i) that older calls got.
use Rattle.std.specs.Prelude.{◌≡◌, Bool, true, false, List, [], ◌∷◌, ◌++◌, ℕ, replicate}
use Rattle.lists.specs.Every as Each
use Rattle.channel.specs.declared.Answer.TheVariants.{Done, Frames, Portion}
use Rattle.channel.specs.declared.ChannelState.TheVariants.{PeerDisconnecting, Connected, Disconnecting}
use Rattle.channel.specs.declared.OpenJob.{OpenJob}
use Rattle.channel.specs.declared.Slot.{Slot}
use Rattle.definition.specs.Mem.{given, size}
use Rattle.definition.specs.Slots.{with_job}
use Rattle.definition.specs.Table.{well_formed}
use Rattle.definition.specs.Frames.{send}
use Rattle.definition.specs.Portions.{start_job, give_portion, cancel_job}
use Rattle.definition.specs.Calls.{Call, portions, down, signals, releases, leaves, starts, cancels}
use Rattle.definition.specs.Line.{◌⊢◌⇒◌, ◌&◌, Hold, Agree, Told, refused, answered, told, ask, window, two, no, yes, slots, writes, cleared0, wiped0, peer, every, idle, none, free, channel, tallied, telling, quiet, connected, credits, leaving}

-- ---- slots with a job open

abbrev pub job : (length taken filled aside : ℕ) → OpenJob
job l t f a = record { length = l; taken = t; filled = f; aside = a }

-- a peer with an MTU and an MPS of its own; and one with an MPS of 4, for which no job is begun, but one that is open goes on
abbrev pub to : (mtu mps credits : ℕ) → Slot
to mtu mps n = channel Connected 1 1 (every 1 3 0) (record { cid = 0x40; mps = mps; mtu = mtu; credits = n }) idle none

abbrev pub narrow : (credits : ℕ) → OpenJob → Slot
narrow n j = with_job j (to 30 4 n)

-- a job of 9 octets: its stream is 11, in frames of 4, 4 and 3
abbrev pub nine : (taken filled aside : ℕ) → Slot
nine t f a = narrow 5 (job 9 t f a)

-- what a start of so many octets with a buffer of so many, a send, a portion and a cancel answer
abbrev pub begun : Slot → (l size : ℕ) → Told
begun x l size = told (start_job (two x (free 0)) 0 l size).answer

abbrev pub sent : Slot → (l out : ℕ) → Told
sent x l out = told (send (two x (free 0)) 0 l out).answer

abbrev pub handed : Slot → (count size : ℕ) → Told
handed x count size = told (give_portion (two x (free 0)) 0 count size).answer

abbrev pub cancelled : Slot → Told
cancelled x = told (cancel_job (two x (free 0)) 138 0).answer

-- the octets that a portion gives out
abbrev pub out : Slot → (count : ℕ) → ℕ
out x count = (give_portion (two x (free 0)) 0 count 99).octets

abbrev pub hear : (link : ℕ) (pdu : List ℕ) → Call
hear l pdu = ask (signals l true true pdu)

abbrev pub fits : Slot → Bool
fits x = well_formed (two x (free 0))

pub record Start_lines : Type 0 where
  pub order : Agree (
      (begun (quiet (Disconnecting false) 1 1) 2 8, refused 11)  -- state
      ∷ (begun (with_job (job 2 0 2 1) (quiet (Disconnecting false) 1 1)) 2 8, refused 11)  -- 11 before 24
      ∷ (begun (with_job (job 2 0 2 1) (to 30 23 3)) 2 99, refused 24)  -- a job open
      ∷ (begun (with_job (job 2 0 2 1) (to 30 23 3)) 31 99, refused 24)  -- 24 before 12
      ∷ (begun (to 30 23 3) 31 99, refused 12)  -- MTU
      ∷ (begun (to 65533 22 0) 65534 0, refused 12)  -- 12 before 23
      ∷ (begun (to 65535 65535 3) 65534 80000, refused 23)  -- longer than 65,533
      ∷ (begun (to 65535 22 3) 65534 0, refused 23)  -- 23 before 20
      ∷ (begun (to 30 22 3) 2 99, refused 20)  -- MPS
      ∷ (begun (to 30 22 0) 2 0, refused 20)  -- 20 before 14
      ∷ (begun (to 30 23 1) 22 99, refused 14)  -- credits
      ∷ (begun (to 30 23 1) 22 0, refused 14)  -- 14 before 3
      ∷ (begun (to 30 23 2) 22 26, refused 3)  -- buffer: 4 + MPS
      ∷ (begun (to 30 23 2) 22 27, answered (Frames 1 2))
      ∷ (begun (to 30 23 1) 5 10, refused 3)  -- 4 + L + 2
      ∷ (begun (to 30 23 1) 5 11, answered (Frames 1 1))
      ∷ (begun (to 65535 65535 1) 65533 65539, answered (Frames 1 1))
      ∷ [])
  pub begins : Hold (
      two (free 0) (connected 2 1) ⊢ ask (starts 1 5) ⇒ yes (Frames 2 1) & slots (free 0) (telling (tallied 8 5 3 2) (with_job (job 5 0 2 1) (channel Connected 2 1 (every 1 3 0) (peer 2) idle none)))
      & writes (7 ∷ 0 ∷ 0x40 ∷ 0 ∷ 5 ∷ 0 ∷ [])
      ∷ two (free 0) (connected 2 1) ⊢ ask (starts 1 22) ⇒ no 3
      ∷ two (free 0) (channel Connected 2 1 (every 1 3 0) (peer 0) idle none) ⊢ ask (starts 1 5) ⇒ no 14 & slots (free 0) (telling (tallied 7 6 3 2) (channel Connected 2 1 (every 1 3 0) (peer 0) idle none))
      ∷ [])
  -- the first frame is MPS octets where there are more
  pub header : (start_job (two (to 30 23 2) (free 0)) 0 22 27).out ≡ given (23 ∷ 0 ∷ 0x40 ∷ 0 ∷ 22 ∷ 0 ∷ []) ∷ []
  pub told_none : (start_job (two (to 30 23 2) (free 0)) 0 22 27).octets ≡ 0
  -- a send finds the job open, behind its state
  pub sends_too : Agree (
      (sent (with_job (job 2 0 2 1) (quiet (Disconnecting false) 1 1)) 2 99, refused 11)
      ∷ (sent (with_job (job 2 0 2 1) (to 30 23 3)) 2 99, refused 24)
      ∷ (sent (with_job (job 2 0 2 1) (to 30 23 3)) 31 99, refused 24)
      ∷ (sent (with_job (job 2 1 2 0) (to 30 23 3)) 2 99, answered (Frames 1 1))  -- none set aside: none open
      ∷ [])

pub record Portion_lines : Type 0 where
  pub order : Agree (
      (handed (with_job (job 9 0 2 3) (quiet (Disconnecting false) 1 1)) 1 99, refused 11)  -- state
      ∷ (handed (quiet (Disconnecting false) 1 1) 1 99, refused 11)  -- 11 before 8
      ∷ (handed (to 30 4 3) 1 0, refused 8)  -- no job open, before 3
      ∷ (handed (nine 0 2 3) 1 7, refused 3)  -- buffer: 4 + MPS
      ∷ (handed (nine 6 0 1) 3 7, refused 3)  -- held to the job, not to the frame at hand
      ∷ (handed (nine 0 2 3) 10 7, refused 3)  -- 3 before 25
      ∷ (handed (nine 0 2 3) 10 8, refused 25)  -- more than stated, though it would take 2
      ∷ (handed (nine 0 2 3) 9 8, answered (Portion 1 2 true))
      ∷ (handed (nine 6 0 1) 4 8, refused 25)
      ∷ [])
  pub fills_up : Hold (
      two (nine 0 2 3) (free 0) ⊢ portions 0 (1 ∷ []) (window 6 8) ⇒ yes (Portion 1 1 false) & slots (nine 1 3 3) (free 0) & writes (replicate 12 9 ++ (1 ∷ []))  -- behind the two that stand
      ∷ two (nine 1 3 3) (free 0) ⊢ portions 0 (2 ∷ 3 ∷ []) (window 0 8) ⇒ yes (Portion 1 1 true) & slots (nine 2 0 2) (free 0) & writes (replicate 7 9 ++ (2 ∷ []))  -- it stops where the frame fills
      ∷ two (nine 2 0 2) (free 0) ⊢ portions 0 [] (window 0 8) ⇒ yes (Portion 1 0 false)  -- an empty one writes no header
      ∷ two (nine 2 0 2) (free 0) ⊢ portions 0 (3 ∷ []) (window 0 8) ⇒ yes (Portion 1 1 false) & slots (nine 3 1 2) (free 0) & writes (4 ∷ 0 ∷ 0x40 ∷ 0 ∷ 3 ∷ [])
      ∷ two (nine 3 1 2) (free 0) ⊢ portions 0 (4 ∷ 5 ∷ 6 ∷ []) (window 0 8) ⇒ yes (Portion 1 3 true) & slots (nine 6 0 1) (free 0) & writes (replicate 5 9 ++ (4 ∷ 5 ∷ 6 ∷ []))
      ∷ two (nine 6 0 1) (free 0) ⊢ portions 0 (7 ∷ 8 ∷ 9 ∷ []) (window 0 8) ⇒ yes (Portion 1 3 true) & slots (to 30 4 5) (free 0) & writes (3 ∷ 0 ∷ 0x40 ∷ 0 ∷ 7 ∷ 8 ∷ 9 ∷ [])  -- the last closes it
      ∷ two (narrow 5 (job 0 0 2 1)) (free 0) ⊢ portions 0 [] (window 0 8) ⇒ yes (Portion 1 0 true) & slots (to 30 4 5) (free 0)  -- a job of 0 octets
      ∷ two (nine 0 2 1) (free 0) ⊢ portions 0 (1 ∷ 2 ∷ []) (window 0 8) ⇒ yes (Portion 1 2 true) & slots (to 30 4 5) (free 0) & writes (replicate 6 9 ++ (1 ∷ 2 ∷ []))  -- no credit left
      ∷ two (nine 0 2 3) (free 0) ⊢ portions 0 (replicate 10 1) (window 0 8) ⇒ no 25
      ∷ [])
  pub given_out : out (nine 0 2 3) 1 ∷ out (nine 1 3 3) 2 ∷ out (nine 2 0 2) 0 ∷ out (nine 6 0 1) 3 ∷ out (narrow 5 (job 0 0 2 1)) 0 ∷ [] ≡ 0 ∷ 8 ∷ 0 ∷ 7 ∷ 6 ∷ []

-- Before the first frame is out, all that was set aside comes back; then none.
pub record Cancel_lines : Type 0 where
  pub order : Agree (
      (cancelled (with_job (job 9 0 2 3) (quiet (Disconnecting false) 1 1)), refused 11)  -- state
      ∷ (cancelled (quiet (Disconnecting false) 1 1), refused 11)  -- 11 before 8
      ∷ (cancelled (to 30 4 3), refused 8)  -- no job open
      ∷ [])
  pub cancels_it : Hold (
      two (nine 0 2 3) (free 0) ⊢ ask (cancels 0) ⇒ yes Done & slots (to 30 4 8) (free 0)
      ∷ two (nine 1 3 3) (free 0) ⊢ ask (cancels 0) ⇒ yes Done & slots (to 30 4 8) (free 0)
      ∷ two (nine 2 0 2) (free 0) ⊢ ask (cancels 0) ⇒ yes Done & slots (channel (Disconnecting false) 1 1 (every 1 3 0) (record { cid = 0x40; mps = 4; mtu = 30; credits = 5 }) idle none) (free 0) & cleared0
      ∷ [])
  -- every way out of Connected closes the job and returns none: by slot, the last hold released, 0x06, and link down, which frees the slot
  pub leaves_it : Hold (
      two (with_job (job 9 0 2 3) (connected 1 1)) (free 0) ⊢ ask (leaves 0) ⇒ yes Done & slots (quiet (Disconnecting false) 1 1) (free 0) & cleared0
      ∷ two (with_job (job 9 0 2 3) (connected 1 1)) (free 0) ⊢ ask (releases 0) ⇒ yes Done & slots (quiet (Disconnecting false) 1 0) (free 0) & cleared0
      ∷ two (with_job (job 9 0 2 3) (connected 1 1)) (free 0) ⊢ hear 1 (leaving 8 0x40 0x40) ⇒ yes Done & slots (quiet (PeerDisconnecting 8) 1 1) (free 0) & cleared0
      ∷ two (with_job (job 9 0 2 3) (connected 1 1)) (free 0) ⊢ down 1 ⇒ yes Done & slots (free 1) (free 0) & wiped0
      ∷ [])
  -- 0x16: 65,530 and 3 set aside leave 2
  pub credit_signal : Hold (
      two (with_job (job 9 0 2 3) (channel Connected 1 1 (every 1 3 0) (peer 65530) idle none)) (free 0) ⊢ hear 1 (credits 0x40 2)
      ⇒ yes Done & slots (with_job (job 9 0 2 3) (channel Connected 1 1 (every 1 3 0) (peer 65532) idle none)) (free 0)
      ∷ two (with_job (job 9 0 2 3) (channel Connected 1 1 (every 1 3 0) (peer 65530) idle none)) (free 0) ⊢ hear 1 (credits 0x40 3)
      ⇒ no 9 & slots (channel (Disconnecting false) 1 1 (every 1 3 0) (peer 65530) idle none) (free 0) & cleared0
      ∷ [])

-- Row 1: of an open job more taken than stated, more in the frame than its MPS, or than was taken with the two octets of the length; credits and those set aside above 65,535
-- (whatever the job). Each broken alone, and each at its limit.
pub record Fit_lines : Type 0 where
  pub unfit : fits (narrow 5 (job 2 3 2 1)) ∷ fits (narrow 5 (job 9 9 5 1)) ∷ fits (narrow 5 (job 9 0 3 1)) ∷ fits (narrow 65535 (job 9 0 2 1)) ∷ [] ≡ replicate 4 false
  pub fit : fits (narrow 5 (job 2 2 2 1)) ∷ fits (narrow 5 (job 9 9 4 1)) ∷ fits (narrow 5 (job 9 1 3 1)) ∷ fits (narrow 65534 (job 9 0 2 1)) ∷ fits (narrow 65535 (job 2 3 9 0)) ∷ [] ≡ replicate 5 true
