-- Runs worked out, with job octets and identifiers that may be any: what the calls really do, and that demand 3 isn't empty. One channel
-- from request to link-down; the client's accident, which leaves nothing behind; two phones' signals.
use Rattle.std.specs.Prelude.{true, List, [], ◌∷◌, ◌++◌, map, ℕ, replicate, take, None, Some}
use Rattle.credit.specs.declared.CreditFlowPolicy.TheVariants.{Every}
use Rattle.signal_headers.specs.Headers.{rest_of}
use Rattle.channel.specs.declared.Answer.{Answer}
use Rattle.channel.specs.declared.ChannelState.{ChannelState}
use Rattle.channel.specs.declared.L2capChannelConfig.{L2capChannelConfig}
use Rattle.definition.specs.Calls.{Window, Call, frame, sends, down, plain, register, signals, pends, accepts, creates, releases, leaves, announces, takes}
use Rattle.definition.specs.Run.{State, made, outcomes}

-- ---- what the runs share

abbrev pub window : (from size : ℕ) → Window
window from size = record { from = from; size = size }

abbrev pub unlent : Window
unlent = window 0 0

-- the signal buffer, at the memory's start
abbrev pub buffer : Window
buffer = window 0 18

-- Two slots, one waiting job a slot, packets of 29 octets: places of 23, a room of 92 octets, in which old octets stand.
abbrev pub start : State
start = made 2 1 29 (replicate 92 5) (replicate 30 9)

abbrev pub config : L2capChannelConfig
config = record { mtu = None; mps = None; policy = Every 1; credits = Some 5 }

-- A phone asks for a channel (SPSM 0x80, its CID 0x50, MTU 64, MPS 23, 5 credits), and gets it.
abbrev pub opening : (link id : ℕ) → List Call
opening link id =
    plain (signals link true true (0x14 ∷ id ∷ 10 ∷ 0 ∷ 0x80 ∷ 0 ∷ 0x50 ∷ 0 ∷ 64 ∷ 0 ∷ 23 ∷ 0 ∷ 5 ∷ 0 ∷ [])) buffer unlent
    ∷ plain (pends link true) unlent unlent
    ∷ plain (accepts 0 config) buffer unlent
    ∷ []

abbrev pub answers : State → List Call → List Answer
answers s cs = map (λ o. o.answer) (outcomes s cs)

abbrev pub states : State → List ChannelState
states s = map (λ x. x.state) (take 2 s.table.slots)

-- ---- one channel, from request to link-down. A job of three octets comes in two frames and is taken to places 18 to 20 of the memory;
-- one of two octets is sent; a job of one octet comes, and our side disconnects; the link goes down, and the last hold is released.

abbrev pub calls : (id a b c x y e : ℕ) → List Call
calls id a b c x y e =
    plain (register 0x80) unlent unlent
    ∷ opening 1 id
    ++ (frame 1 0x40 (3 ∷ 0 ∷ a ∷ b ∷ [])
    ∷ frame 1 0x40 (c ∷ [])
    ∷ plain (takes 0) buffer (window 18 4)
    ∷ sends 0 (x ∷ y ∷ []) (window 22 8)
    ∷ frame 1 0x40 (1 ∷ 0 ∷ e ∷ [])
    ∷ plain (leaves 0) unlent unlent
    ∷ plain announces buffer unlent
    ∷ down 1
    ∷ plain (releases 0) unlent unlent
    ∷ [])

-- ---- the client's accident: a phone closes its channel mid-job, and the next phone gets the slot. Nothing of the half is left, and the
-- next phone's job is its own.

abbrev pub accident : (id a b e : ℕ) → List Call
accident id a b e =
    plain (register 0x80) unlent unlent
    ∷ opening 1 id
    ++ (frame 1 0x40 (3 ∷ 0 ∷ a ∷ b ∷ [])
    ∷ plain (signals 1 true true (0x06 ∷ id ∷ 4 ∷ 0 ∷ 0x40 ∷ 0 ∷ 0x50 ∷ 0 ∷ [])) buffer unlent
    ∷ plain announces buffer unlent
    ∷ plain (releases 0) unlent unlent
    ∷ opening 2 id
    ++ (frame 2 0x40 (1 ∷ 0 ∷ e ∷ []) ∷ plain (takes 0) buffer (window 18 4) ∷ []))

-- ---- two phones' signals. Each asks for a channel of its own; a response that matches none frees the attempts of its link alone. Of a PDU
-- of two signals the first call handles the first, and a second call, on the part given back, the second.

abbrev pub response : (id : ℕ) → List ℕ
response id = 0x15 ∷ id ∷ 10 ∷ 0 ∷ 0x60 ∷ 0 ∷ 64 ∷ 0 ∷ 23 ∷ 0 ∷ 5 ∷ 0 ∷ 0 ∷ 0 ∷ []

abbrev pub credits : List ℕ
credits = 0x16 ∷ 5 ∷ 4 ∷ 0 ∷ 0x60 ∷ 0 ∷ 3 ∷ 0 ∷ []

abbrev pub parameters : List ℕ
parameters = 0x12 ∷ 6 ∷ 8 ∷ 0 ∷ 6 ∷ 0 ∷ 8 ∷ 0 ∷ 0 ∷ 0 ∷ 10 ∷ 0 ∷ []

abbrev pub disconnected41 : List ℕ
disconnected41 = 0x07 ∷ 3 ∷ 4 ∷ 0 ∷ 0x60 ∷ 0 ∷ 0x41 ∷ 0 ∷ []

abbrev pub signalling : (id : ℕ) → List Call
signalling id =
    plain (creates 1 0x80 config) buffer unlent
    ∷ plain (creates 2 0x81 config) buffer unlent
    ∷ plain (signals 1 true true (response 9)) buffer unlent
    ∷ plain (signals 2 true true (response 2)) buffer unlent
    ∷ plain (signals 2 true true (credits ++ parameters)) buffer unlent
    ∷ plain (signals 2 true true (rest_of (credits ++ parameters))) buffer unlent
    ∷ plain (leaves 1) unlent unlent
    ∷ plain (signals 1 true true disconnected41) buffer unlent
    ∷ plain (signals 2 true true disconnected41) buffer unlent
    ∷ plain (signals 1 true true (0x01 ∷ id ∷ 2 ∷ 0 ∷ 0 ∷ 0 ∷ [])) buffer unlent
    ∷ plain (signals 1 true true (0x13 ∷ id ∷ 2 ∷ 0 ∷ 0 ∷ 0 ∷ [])) buffer unlent
    ∷ plain (signals 1 true true (0x99 ∷ id ∷ 0 ∷ 0 ∷ [])) buffer unlent
    ∷ []
