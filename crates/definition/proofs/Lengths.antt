-- Moves keep the length of what they change: a slot's part, and the room. For octets of any kind.
use Rattle.std.specs.Prelude.{◌≡◌, ℕ, ◌+◌, take, drop}
use Rattle.std.proofs.Math.Path.{refl, sym, ap}
use Rattle.std.proofs.Common.{◌∙◌, take-append-drop}
use mathlib.Core.List.{List, [], ◌∷◌}
use Rattle.std.proofs.Math.ListN.{length, length-append, length-map}
use Rattle.std.proofs.Math.Seq.{length-sets}
use Rattle.definition.specs.Mem.{Move, put, wipe, fill, move, moves, parts}

module _ {A : Type 0} (octet : ℕ → A) (js : List A) where
  pub length-move : (part : List A) (m : Move) → length (move octet js part m) ≡ length part
  unfolding move
  length-move part (put at f) = length-sets part at (fill octet js part f)
  length-move part wipe = length-map part (λ _. octet 0)

  pub length-moves : (part : List A) (ms : List Move) → length (moves octet js part ms) ≡ length part
  unfolding moves
  length-moves part [] = refl
  length-moves part (m ∷ ms) = length-moves (move octet js part m) ms ∙ length-move part m

  pub length-parts : (w : ℕ) (mss : List (List Move)) (room : List A) → length (parts octet js w mss room) ≡ length room
  unfolding parts
  length-parts w [] room = refl
  length-parts w (ms ∷ mss) room =
      length-append (moves octet js (take w room) ms) (parts octet js w mss (drop w room))
      ∙ ap (λ (n : ℕ). n + length (parts octet js w mss (drop w room))) (length-moves (take w room) ms)
      ∙ ap (λ (n : ℕ). length (take w room) + n) (length-parts w mss (drop w room))
      ∙ sym (length-append (take w room) (drop w room))
      ∙ ap length (take-append-drop w room)
