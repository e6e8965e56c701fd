-- A worked run with two links and two lives, and where its marks stand after every call: two links whose peers use the same CID, a second
-- life of link 1, buffers that overlap and buffers lent again to another link, a frame that names another link's slot, a refused
-- link-down. So a statement that excepted more than that link's octets, or any octet longer, is refused here.
use Rattle.std.specs.Prelude.{Bool, false, List, [], ◌∷◌, ◌++◌, map, ℕ, suc, replicate, None, Some}
use Rattle.std.proofs.Math.Bool.{true}
use Rattle.credit.specs.declared.CreditFlowPolicy.TheVariants.{Every}
use Rattle.channel.specs.declared.L2capChannelConfig.{L2capChannelConfig}
use Rattle.channel.specs.declared.Table.{Table}
use Rattle.definition.specs.Calls.{Window, Call, frame, sends, down, plain, register, signals, pends, accepts, releases, takes}
use Rattle.definition.specs.Run.{State, outcome, after, made}
use Rattle.isolation.specs.Statement.{Marks, unmarked, marked, Handed}

-- ---- the run

abbrev pub window : (from size : ℕ) → Window
window from size = record { from = from; size = size }

abbrev pub unlent : Window
unlent = window 0 0

-- the signal buffer, at the memory's start
abbrev pub buffer : Window
buffer = window 0 18

-- Two slots, one waiting job a slot, packets of 29 octets: places of 23, a room of 92 octets, in which any octet stands; 30 octets of memory.
abbrev pub start : ℕ → State
start z = made 2 1 29 (replicate 92 z) (replicate 30 9)

abbrev pub config : L2capChannelConfig
config = record { mtu = None; mps = None; policy = Every 1; credits = Some 5 }

-- The link's phone asks for a channel (SPSM 0x80, its CID 0x50, MTU 64, MPS 23, 5 credits), and gets the slot.
abbrev pub opening : (link slot : ℕ) → List Call
opening link s =
    plain (signals link true true (0x14 ∷ 7 ∷ 10 ∷ 0 ∷ 0x80 ∷ 0 ∷ 0x50 ∷ 0 ∷ 64 ∷ 0 ∷ 23 ∷ 0 ∷ 5 ∷ 0 ∷ [])) buffer unlent
    ∷ plain (pends link true) unlent unlent
    ∷ plain (accepts s config) buffer unlent
    ∷ []

-- link 1's octets: a to p in its life 0, e in its life 1; u, v, w are link 2's
abbrev pub calls : (a b c x y p e u v w : ℕ) → List Call
calls a b c x y p e u v w =
    plain (register 0x80) unlent unlent
    ∷ opening 1 0
    ++ (opening 2 1
    ++ (frame 1 0x40 (3 ∷ 0 ∷ a ∷ b ∷ [])
    ∷ frame 2 0x41 (1 ∷ 0 ∷ u ∷ [])
    ∷ frame 2 0x40 (0 ∷ [])  -- link 2 names link 1's slot
    ∷ frame 1 0x40 (c ∷ [])
    ∷ plain (takes 0) buffer (window 10 12)  -- the job buffer overlaps the signal buffer
    ∷ plain (takes 1) buffer (window 12 4)  -- and is lent again, to link 2's take
    ∷ sends 0 (x ∷ y ∷ []) (window 22 8)
    ∷ sends 1 (v ∷ w ∷ []) (window 21 8)  -- and so is the output
    ∷ frame 1 0x40 (2 ∷ 0 ∷ p ∷ [])
    ∷ down 0x0F00  -- refused: no such link
    ∷ down 1
    ∷ plain (releases 0) unlent unlent
    ∷ opening 1 0
    ++ (frame 1 0x40 (1 ∷ 0 ∷ e ∷ []) ∷ plain (takes 0) buffer (window 28 2) ∷ down 1 ∷ [])))

-- ---- where marks stand: how many lives are over, and which octets of room and memory are marked, after each call

pub record Row : Type 0 where
  pub over : ℕ
  pub room : List ℕ
  pub memory : List ℕ

abbrev pub row : ℕ → List ℕ → List ℕ → Row
row n room memory = record { over = n; room = room; memory = memory }

unfoldable pub standing : ℕ → List Bool → List ℕ
standing i [] = []
standing i (false ∷ ms) = standing (suc i) ms
standing i (true ∷ ms) = i ∷ standing (suc i) ms

unfoldable pub rows : (k j : ℕ) → State → Marks → List Call → List Row
rows k j s m [] = []
rows k j s m (c ∷ cs) =
    let n = marked k j s.table (outcome s c) m c in
    row n.over (standing 0 n.room) (standing 0 n.memory) ∷ rows k j (after s c) n cs

abbrev pub trail : (k j : ℕ) → State → List Call → List Row
trail k j s cs = rows k j s (record { over = 0; room = map unmarked s.room; memory = map unmarked s.memory }) cs

-- ---- whose is what, call by call: the numbers of the calls for which a word of the statement holds, in the table that the call finds

unfoldable pub each : {A : Type 0} → (Table → Call → A) → State → List Call → List A
each f s [] = []
each f s (c ∷ cs) = f s.table c ∷ each f (after s c) cs

-- our response to a connection request, and a grant
abbrev pub response : (cid : ℕ) → List ℕ
response cid = 14 ∷ 0 ∷ 5 ∷ 0 ∷ 0x15 ∷ 7 ∷ 10 ∷ 0 ∷ cid ∷ 0 ∷ 23 ∷ 0 ∷ 25 ∷ 0 ∷ 5 ∷ 0 ∷ 0 ∷ 0 ∷ []

abbrev pub gives : (out job : List ℕ) → Handed
gives out job = record { out = out; job = job }

abbrev pub grant : (id cid credits : ℕ) → List ℕ
grant id cid n = 8 ∷ 0 ∷ 5 ∷ 0 ∷ 0x16 ∷ id ∷ 4 ∷ 0 ∷ cid ∷ 0 ∷ n ∷ 0 ∷ []
