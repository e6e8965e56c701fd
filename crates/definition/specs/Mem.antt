-- What a call does to memory, as data: which octets are put where. The places and counts are numbers that the call has worked
-- out; only the functions below touch octets. They work for octets of any kind A, so that the same text also runs on marks
-- (crate isolation).
use Rattle.std.specs.Prelude.{List, [], ◌∷◌, ◌++◌, map, ℕ, ◌+◌, length, take, drop, replicate}
use Rattle.std.proofs.lemmas.List.Edits.{sets}

-- Octets to be put somewhere.
pub data Fill : Type 0 where
  zeros : (count : ℕ) → Fill
  given : (octets : List ℕ) → Fill  -- worked out from table and public input: headers, signals
  job : (from count : ℕ) → Fill  -- job octets handed to this call
  held : (from count : ℕ) → Fill  -- octets of the room: in a slot's move, of that slot's part alone

-- A change of one slot's part of the room.
pub data Move : Type 0 where
  put : (at : ℕ) → Fill → Move
  wipe : Move

-- How many octets.
unfoldable pub size : Fill → ℕ
size (zeros n) = n
size (given xs) = length xs
size (job from n) = n
size (held from n) = n

unfoldable pub sizes : List Fill → ℕ
sizes [] = 0
sizes (f ∷ fs) = size f + sizes fs

module _ {A : Type 0} (octet : ℕ → A) (jobs : List A) where
  unfoldable pub fill : List A → Fill → List A
  fill near (zeros n) = replicate n (octet 0)
  fill near (given xs) = map octet xs
  fill near (job from n) = take n (drop from jobs)
  fill near (held from n) = take n (drop from near)

  unfoldable pub move : List A → Move → List A
  move part (put at f) = sets part at (fill part f)
  move part wipe = map (λ _. octet 0) part

  unfoldable pub moves : List A → List Move → List A
  moves part [] = part
  moves part (m ∷ ms) = moves (move part m) ms

  -- Each slot's moves on its own part: the parts are w octets each and follow one another.
  unfoldable pub parts : ℕ → List (List Move) → List A → List A
  parts w [] room = room
  parts w (ms ∷ mss) room = moves (take w room) ms ++ parts w mss (drop w room)

  -- What is written to a lent buffer, piece after piece, from octet `at` of it on.
  unfoldable pub fills : List A → List Fill → List A
  fills room [] = []
  fills room (f ∷ fs) = fill room f ++ fills room fs

  unfoldable pub written : List A → (at : ℕ) → List Fill → List A → List A
  written room at fs out = sets out at (fills room fs)
