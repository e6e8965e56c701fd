-- How a job (an SDU) is cut into K-frames (Core Vol 3 Part A 3.4), and what is planned for a send (document 01, 'Cutting, joining, credits').
-- The stream of a job is its length and then its octets; frame k carries the stream's k-th stretch of MPS octets, the last what is left.
use Rattle.std.specs.Prelude.{List, [], ◌∷◌, ◌++◌, map, ℕ, zero, suc, ◌+◌, ◌-◌, ◌*◌, ◌/◌, ◌≤◌, length, ltb, Result, Ok, Err}
use Rattle.std.proofs.lemmas.List.Edits.{sets}
use Rattle.lists.specs.Choose.{choose}
use Rattle.octets.specs.Octets.{part, le16}
use Rattle.codes.specs.Limits.{size_least}
use Rattle.codes.specs.declared.Refusal.TheVariants as Refusal
use Rattle.sar_cut.specs.declared.Framed.{Framed}
use Rattle.codes.specs.declared.Refusal.{Refusal}

-- ---- how many frames

-- how many stretches of m hold x
unfoldable pub ceil : ℕ → ℕ → ℕ
ceil x m = (x + (m - 1)) / m

-- "n = ceil((L+2)/MPS)"
unfoldable pub frame_count : ℕ → ℕ → ℕ
frame_count l mps = ceil (l + 2) mps

-- the octets of all frames: the stream's, and four before each frame's
unfoldable pub frames_length : ℕ → ℕ → ℕ
frames_length l mps = l + 2 + 4 * frame_count l mps

-- ---- what they carry

-- the SDU's length field (Core 3.4.2), and the SDU
unfoldable pub stream : List ℕ → List ℕ
stream sdu = le16 (length sdu) ++ sdu

-- the k-th stretch of m
unfoldable pub piece_at : {A : Type 0} → ℕ → List A → ℕ → List A
piece_at m xs k = part xs (k * m) m

unfoldable pub pieces_from : {A : Type 0} → ℕ → List A → ℕ → ℕ → List (List A)
pieces_from m xs k zero = []
pieces_from m xs k (suc c) = piece_at m xs k ∷ pieces_from m xs (suc k) c

-- all of them
unfoldable pub pieces : {A : Type 0} → ℕ → List A → List (List A)
pieces m xs = pieces_from m xs 0 (ceil (length xs) m)

unfoldable pub payloads : ℕ → List ℕ → List (List ℕ)
payloads mps sdu = pieces mps (stream sdu)

-- each of these payloads has at most mps octets
abbrev pub AllWithin : (mps : ℕ) → List (List ℕ) → Type 0
AllWithin mps [] = Unit {0}
AllWithin mps (p ∷ ps) = (length p ≤ mps) × AllWithin mps ps

-- ---- what is written

-- a K-frame (Core 3.4.1): the payload's length, the channel, the payload
unfoldable pub frame : ℕ → List ℕ → List ℕ
frame cid p = le16 (length p) ++ le16 cid ++ p

-- one list after the other
unfoldable pub joined : {A : Type 0} → List (List A) → List A
joined [] = []
joined (x ∷ xs) = x ++ joined xs

-- frame k of a job
unfoldable pub frame_at : ℕ → ℕ → List ℕ → ℕ → List ℕ
frame_at cid mps sdu k = frame cid (piece_at mps (stream sdu) k)

-- all octets that a send writes, from its output's start
unfoldable pub frames_of : ℕ → ℕ → List ℕ → List ℕ
frames_of cid mps sdu = joined (map (frame cid) (payloads mps sdu))

-- ---- what is planned

-- the longest job whose frame of one payload has a length of two octets
abbrev pub longest_job : ℕ
longest_job = 65533

-- "Send order: 11, 12, 23, 20, 14, 3", from 12 on: a job of l octets, the peer's MTU, MPS and credits, and the octets of the output
unfoldable pub plan_send : ℕ → ℕ → ℕ → ℕ → ℕ → Result Framed Refusal
plan_send l mtu mps credits room =
    choose (ltb mtu l) (Err Refusal.InsufficientSpace)
    (choose (ltb longest_job l) (Err Refusal.TooLong)
    (choose (ltb mps size_least) (Err Refusal.BadMps)
    (choose (ltb credits (frame_count l mps)) (Err Refusal.Busy)
    (choose (ltb room (frames_length l mps)) (Err Refusal.NoRoom)
    (Ok (record { n = frame_count l mps; octets = frames_length l mps }))))))

-- the output after a plan: the frames at its start, and the rest as it was
unfoldable pub output_after : Result Framed Refusal → ℕ → ℕ → List ℕ → List ℕ → List ℕ
output_after (Err r) cid mps out sdu = out
output_after (Ok framed) cid mps out sdu = sets out 0 (frames_of cid mps sdu)
