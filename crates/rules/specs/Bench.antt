-- Document 01, 'Bench set': one table, one theorem. The rows of credits and CIDs are computed over a worked run; the row of frame counts is crate
-- cutting's, for every job of those lengths.
use Rattle.std.specs.Prelude.{◌≡◌, true, false, List, [], ◌∷◌, ℕ, length, replicate, None}
use Rattle.credit.specs.declared.CreditFlowPolicy.TheVariants.{Every}
use Rattle.sar_cut.specs.Cutting.{payloads}
use Rattle.sar_frames.specs.Theorems as Cut
use Rattle.channel.specs.declared.ChannelState.TheVariants.{Connected, Disconnecting}
use Rattle.channel.specs.declared.L2capChannelConfig.{L2capChannelConfig}
use Rattle.channel.specs.declared.Table.{Table}
use Rattle.definition.specs.Table.{slot_at, is_cid, slot_of}
use Rattle.definition.specs.Outcome.{Outcome}
use Rattle.definition.specs.Asking.{make}
use Rattle.definition.specs.Calls.{frame, plain, Request, register, signals, pends, accepts, decide}
use Rattle.definition.specs.Numbers.{answer_number}

-- N 2, D 1, M 64, and so a room of 232 octets
abbrev pub two : Table
two = (make 2 1 64 (replicate 232 0)).table

-- what a call comes to, with a signal buffer of 18 octets
abbrev pub asked : Table → Request → Outcome
asked t r = decide t (plain r (record { from = 0; size = 0 }) (record { from = 0; size = 0 })) 0 232 18 0

abbrev pub usual : L2capChannelConfig
usual = record { mtu = None; mps = None; policy = Every 1; credits = None }

-- SPSM 128 is registered; link 1's peer asks for a channel, CID 0x50, MTU 100, MPS 23, and gives 65,530 credits; we accept.
abbrev pub open_slot : Table
open_slot =
    let registered = (asked two (register 128)).table in
    let pending = (asked registered (signals 1 true true (0x14 ∷ 7 ∷ 10 ∷ 0 ∷ 128 ∷ 0 ∷ 0x50 ∷ 0 ∷ 100 ∷ 0 ∷ 23 ∷ 0 ∷ 0xFA ∷ 0xFF ∷ []))).table in
    let held = (asked pending (pends 1 true)).table in
    (asked held (accepts 0 usual)).table

-- n more credits for it
abbrev pub credits : ℕ → Outcome
credits n = asked open_slot (signals 1 true true (0x16 ∷ 8 ∷ 4 ∷ 0 ∷ 0x50 ∷ 0 ∷ n ∷ 0 ∷ []))

-- a frame of link 1 for this CID, with k octets behind its length octets
abbrev pub framed : ℕ → List ℕ → ℕ → Outcome
framed cid head k = decide two (frame 1 cid head) k 232 0 0

pub record Bench : Type 0 where
  -- MPS 23, L 0 / 21 / 22 / 44 / 45 / 65,533: 1 (payload 00 00) / 1 / 2 / 2 / 3 / 2,850 frames
  pub counts : (job : ℕ → List ℕ) → ((l : ℕ) → length (job l) ≡ l) → Cut.Bench (λ (l : ℕ). length (payloads 23 (job l))) (payloads 23 [])
  pub held : (slot_at open_slot 0).peer.credits ≡ 65530
  -- 65,530 + 5: 65,535
  pub five_answer : answer_number (credits 5).answer ≡ 0
  pub five : (slot_at (credits 5).table 0).peer.credits ≡ 65535
  pub five_state : (slot_at (credits 5).table 0).state ≡ Connected
  -- 65,530 + 6: refusal 9, Disconnecting, credits kept
  pub six_answer : answer_number (credits 6).answer ≡ 9
  pub six : (slot_at (credits 6).table 0).peer.credits ≡ 65530
  pub six_state : (slot_at (credits 6).table 0).state ≡ Disconnecting false
  -- N 2: CID 0x3F is refused by 7, 0x41 is slot 1, 0x42 is refused by 7
  pub below : (head : List ℕ) (k : ℕ) → answer_number (framed 0x3F head k).answer ≡ 7
  pub names : is_cid two 0x41 ≡ true
  pub one : slot_of 0x41 ≡ 1
  pub one_answer : (head : List ℕ) (k : ℕ) → answer_number (framed 0x41 head k).answer ≡ 0
  pub above : (head : List ℕ) (k : ℕ) → answer_number (framed 0x42 head k).answer ≡ 7
