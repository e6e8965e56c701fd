-- A slot's moves as the code makes them: on its part of the room, lent as a slice, or at places counted from the room's start. For
-- octets of any kind; they rest on the laws of `sets` and `part` (crate octets).
use Rattle.std.specs.Prelude.{◌≡◌, length, replicate}
use Rattle.std.proofs.Math.Path.{refl, sym, ap, ap₂}
use Rattle.std.proofs.Common.{◌∙◌, suc-mul, zero-mul, arith, length-take, length-append, drop_of_length-le, drop-drop, take-add, take_at, drop_at}
use mathlib.Core.List.{List, [], ◌∷◌, ◌++◌, append_assoc, append-nil, map}
use Prim.Native.Nat.{ℕ, zero, suc, ◌+◌, ◌-◌, ◌*◌, ◌≤◌}
use Rattle.std.proofs.Math.Nat.{zero-add, add_comm}
use Rattle.std.proofs.Math.ListN.{take, drop}
use Rattle.std.proofs.lemmas.List.{length-replicate}
use Rattle.std.proofs.lemmas.List.Edits.{sets, sets-eq}
use borrow.Rule.Slice.PartMut.{mid_of, put_mid, Post-is}
use Rattle.octets.specs.Octets.{part}
use Rattle.octets.specs.Sets.{store, cut_at, mid_part, part_length}
use Rattle.definition.specs.Mem.{Fill, Move, put, fill, move, moves, parts}
use Rattle.definition.proofs.Lengths.{length-moves}
use Rattle.definition.specs.Outcome.{only}

-- zeros all over
zeros_all : {A : Type 0} (z : A) (xs : List A) → replicate (length xs) z ≡ map (λ _. z) xs
zeros_all z [] = refl
zeros_all z (x ∷ xs) = ap (λ r. z ∷ r) (zeros_all z xs)

pub wiped : {A : Type 0} (z : A) (w : ℕ) (xs : List A) → length xs ≡ w → sets xs 0 (replicate w z) ≡ map (λ _. z) xs
wiped z w xs e =
    let l : length (replicate w z) ≡ length xs = length-replicate w z ∙ sym e in
    let k : length xs ≤ 0 + length (replicate w z) = omega arith in
    sets-eq (replicate w z) xs 0 (omega arith)
    ∙ ap (λ r. replicate w z ++ r) (drop_of_length-le xs k) ∙ append-nil (replicate w z)
    ∙ ap (λ n. replicate n z) (sym e) ∙ zeros_all z xs

module _ {A : Type 0} (octet : ℕ → A) (js : List A) where
  pub moves-append : (ms ns : List Move) (xs : List A) → moves octet js xs (ms ++ ns) ≡ moves octet js (moves octet js xs ms) ns
  unfolding moves
  moves-append [] ns xs = refl
  moves-append (m ∷ ms) ns xs = moves-append ms ns (move octet js xs m)

  -- moves in slot s alone, told of the whole room
  pub parts-only : (w s : ℕ) (ms : List Move) (room : List A)
      → parts octet js w (only s ms) room ≡ take (s * w) room ++ moves octet js (part room (s * w) w) ms ++ drop (s * w + w) room
  unfolding parts moves only
  parts-only w zero ms room = rw (zero-mul w, zero-add w)
  parts-only w (suc s) ms room =
      let m = moves octet js (take w (drop (s * w) (drop w room))) ms in
      let e : w + s * w ≡ suc s * w = add_comm w (s * w) ∙ sym (suc-mul s w) in
      let g : w + (s * w + w) ≡ suc s * w + w = omega (arith, e) in
      ap (λ (r : List A). take w room ++ r) (parts-only w s ms (drop w room))
      ∙ sym (append_assoc (take w room) (take (s * w) (drop w room) ++ m) (drop (s * w + w) (drop w room)))
      ∙ ap₂ (λ (p q : List A). p ++ q)
      (sym (append_assoc (take w room) (take (s * w) (drop w room)) m)
      ∙ ap₂ (λ (p q : List A). p ++ moves octet js (take w q) ms)
      (sym (take-add w (s * w) room) ∙ ap (λ (n : ℕ). take n room) e)
      (drop-drop (s * w) w room ∙ ap (λ (n : ℕ). drop n room) e))
      (drop-drop (s * w + w) w room ∙ ap (λ (n : ℕ). drop n room) g)

  -- no move
  pub parts-still : (w s : ℕ) (room : List A) → room ≡ parts octet js w (only s []) room
  unfolding moves
  parts-still w s room = sym (parts-only w s [] room ∙ cut_at (s * w) w room)

  -- slot s's part lent, `&mut room[at..end]`, to a function that makes its moves: what the room holds when the part is back
  pub parts-lent : (w s : ℕ) (ms : List Move) (room back : List A) → back ≡ moves octet js (mid_of (s * w) (s * w + w - s * w) room) ms
      → put_mid (s * w) (s * w + w - s * w) room back ≡ parts octet js w (only s ms) room
  parts-lent w s ms room back e =
      ap (λ (r : List A). take (s * w) room ++ (back ++ r)) (Post-is (s * w) (s * w + w) room (omega arith))
      ∙ sym (append_assoc (take (s * w) room) back (drop (s * w + w) room))
      ∙ ap (λ (r : List A). take (s * w) room ++ r ++ drop (s * w + w) room) (e ∙ ap (λ (p : List A). moves octet js p ms) (mid_part room (s * w) w))
      ∙ sym (parts-only w s ms room)

  -- one put in slot s, as a store in the room
  pub parts_put : (w s at : ℕ) (f : Fill) (room : List A) → s * w + w ≤ length room → at + length (fill octet js (part room (s * w) w) f) ≤ w
      → parts octet js w (only s (put at f ∷ [])) room ≡ sets room (s * w + at) (fill octet js (part room (s * w) w) f)
  unfolding moves move
  parts_put w s at f room h g = parts-only w s (put at f ∷ []) room ∙ store (s * w) w room (fill octet js (part room (s * w) w) f) at h g

  -- slot s after its part changed: the part, and what lies around it
  module _ (w s : ℕ) (room new : List A) (h : s * w + w ≤ length room) (l : length new ≡ w) where
    abbrev after : List A
    after = take (s * w) room ++ new ++ drop (s * w + w) room

    lx : length (take (s * w) room) ≡ s * w
    lx = length-take (s * w) room ∙ omega arith

    whole : after ≡ take (s * w) room ++ (new ++ drop (s * w + w) room)
    whole = append_assoc (take (s * w) room) new (drop (s * w + w) room)

    pub before-part : take (s * w) after ≡ take (s * w) room
    before-part = ap (take (s * w)) whole ∙ take_at (take (s * w) room) (new ++ drop (s * w + w) room) (s * w) lx

    pub new_part : part after (s * w) w ≡ new
    new_part =
        ap (λ (r : List A). part r (s * w) w) whole ∙ ap (take w) (drop_at (take (s * w) room) (new ++ drop (s * w + w) room) (s * w) lx)
        ∙ take_at new (drop (s * w + w) room) w l

    pub behind_part : drop (s * w + w) after ≡ drop (s * w + w) room
    behind_part = drop_at (take (s * w) room ++ new) (drop (s * w + w) room) (s * w + w) (length-append (take (s * w) room) new ∙ omega (arith, lx))

  -- a slot's moves one after the other
  pub parts_more : (w s : ℕ) (ms ns : List Move) (room : List A) → s * w + w ≤ length room
      → parts octet js w (only s (ms ++ ns)) room ≡ parts octet js w (only s ns) (parts octet js w (only s ms) room)
  parts_more w s ms ns room h =
      let x = take (s * w) room in
      let y = part room (s * w) w in
      let z = drop (s * w + w) room in
      let y' = moves octet js y ms in
      let l : length y' ≡ w = length-moves octet js y ms ∙ part_length room (s * w) w h in
      parts-only w s (ms ++ ns) room
      ∙ ap (λ (r : List A). x ++ r ++ z) (moves-append ms ns y)
      ∙ sym (ap (parts octet js w (only s ns)) (parts-only w s ms room)
      ∙ parts-only w s ns (x ++ y' ++ z)
      ∙ ap₂ (λ (p q : List A). p ++ q)
      (ap₂ (λ (p q : List A). p ++ moves octet js q ns) (before-part w s room y' h l) (new_part w s room y' h l))
      (behind_part w s room y' h l))

  -- a slot's first put, as a store in the room; the slot's other moves follow
  pub parts_step : (w s at : ℕ) (f : Fill) (ms : List Move) (room : List A) → s * w + w ≤ length room → at + length (fill octet js (part room (s * w) w) f) ≤ w
      → parts octet js w (only s (put at f ∷ ms)) room ≡ parts octet js w (only s ms) (sets room (s * w + at) (fill octet js (part room (s * w) w) f))
  parts_step w s at f ms room h g = parts_more w s (put at f ∷ []) ms room h ∙ ap (parts octet js w (only s ms)) (parts_put w s at f room h g)
