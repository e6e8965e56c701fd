-- The loop that makes every slot's moves, slot after slot. Its invariant: with the moves of the slots to come, it is all of them.
use Rattle.std.specs.Prelude.{◌≡◌, refl, List, ◌++◌, map, ℕ, suc, ◌+◌, ◌*◌, ◌≤◌, ◌<◌, get_or, take, drop}
use Rattle.std.proofs.Math.Path.{sym}
use Rattle.std.proofs.Common.{◌∙◌, ap, ap₂, append_assoc, suc-mul, zero-mul, add-one, arith, take-append-drop, length-append, length-take, drop_of_length-le, drop-cons, drop-drop, take_at, drop_at, get_or-take, length-take-le}
use Rattle.std.proofs.Math.ListN.{length, get_or-map}
use Rattle.std.proofs.lemmas.List.{length-map}
use Rattle.octets.specs.Octets.{part}
use Rattle.octets.specs.Sets.{part_length}
use Rattle.definition.specs.Mem.{Move, moves, parts}
use Rattle.definition.specs.Outcome.{only}
use Rattle.definition.proofs.Lengths.{length-moves}
use Rattle.table_room.specs.Parts.{parts-only}

-- the moves mss of the slots from i on
abbrev from : {A : Type 0} → (ℕ → A) → List A → ℕ → ℕ → List (List Move) → List A → List A
from octet js w i mss room = take (i * w) room ++ parts octet js w mss (drop (i * w) room)

-- slot i's moves are made: those of the slots behind it are left
one : {A : Type 0} (octet : ℕ → A) (js : List A) (w i : ℕ) (mss : List (List Move)) (none : List Move) (room room' : List A)
    → i < length mss → i * w + w ≤ length room → room' ≡ parts octet js w (only i (get_or mss i none)) room
    → from octet js w (i + 1) (drop (i + 1) mss) room' ≡ from octet js w i (drop i mss) room
unfolding parts
one {A} octet js w i mss none room room' h l r =
    let ms = get_or mss i none in
    let rest = drop (suc i) mss in
    let x = take (i * w) room in
    let y = moves octet js (part room (i * w) w) ms in
    let z = drop (i * w + w) room in
    let n : (i + 1) * w ≡ i * w + w = rw (add-one i) (suc-mul i w) in
    let m : length (x ++ y) ≡ i * w + w =
    length-append x y ∙ omega (arith, length-take (i * w) room, length-moves octet js (part room (i * w) w) ms, part_length room (i * w) w l) in
    let g : room' ≡ x ++ y ++ z = r ∙ parts-only octet js w i ms room in
    let t : take ((i + 1) * w) room' ≡ x ++ y = ap₂ take n g ∙ take_at (x ++ y) z (i * w + w) m in
    let d : drop ((i + 1) * w) room' ≡ z = ap₂ drop n g ∙ drop_at (x ++ y) z (i * w + w) m in
    let old : from octet js w i (drop i mss) room ≡ x ++ (y ++ parts octet js w rest z) =
    ap (λ (u : List (List Move)). x ++ parts octet js w u (drop (i * w) room)) (drop-cons mss i none h)
    ∙ ap (λ (u : List A). x ++ (y ++ parts octet js w rest u)) (drop-drop w (i * w) room) in
    ap (λ (j : ℕ). take ((i + 1) * w) room' ++ parts octet js w (drop j mss) (drop ((i + 1) * w) room')) (add-one i)
    ∙ ap₂ (λ (u v : List A). u ++ parts octet js w rest v) t d
    ∙ append_assoc x y (parts octet js w rest z)
    ∙ sym old

-- The moves are worked out from a list, a slot each, of which the first n count; the slots below i have made theirs.
pub record Swept {A X : Type 0} (octet : ℕ → A) (js : List A) (w : ℕ) (f : X → List Move) (n : ℕ) (xs : List X) (room₀ : List A) (i : ℕ) (room : List A) : Type 0 where
  pub long : length room ≡ length room₀
  pub is : from octet js w i (drop i (map f (take n xs))) room ≡ parts octet js w (map f (take n xs)) room₀

pub swept_none : {A X : Type 0} {octet : ℕ → A} {js : List A} {w : ℕ} {f : X → List Move} {n : ℕ} {xs : List X} {room : List A} → Swept octet js w f n xs room 0 room
swept_none {A} {X} {octet} {js} {w} = record { long = refl; is = rw (zero-mul w) }

module _ {A X : Type 0} {octet : ℕ → A} {js : List A} {w : ℕ} {f : X → List Move} {n : ℕ} {xs : List X} {room₀ room : List A} {i : ℕ}
    (e : Swept octet js w f n xs room₀ i room) where
  all : n ≤ length xs → length (map f (take n xs)) ≡ n
  all h = length-map (take n xs) f ∙ length-take-le n xs h

  pub swept_more : {room' : List A} (d : X) → room' ≡ parts octet js w (only i (f (get_or xs i d))) room → length room' ≡ length room
      → i < n → n ≤ length xs → i * w + w ≤ length room₀ → Swept octet js w f n xs room₀ (i + 1) room'
  swept_more {room'} d r k h l q =
      let g : get_or (map f (take n xs)) i (f d) ≡ f (get_or xs i d) = get_or-map f (take n xs) i d ∙ ap f (get_or-take n xs i d h) in
      let s = r ∙ ap (λ ms. parts octet js w (only i ms) room) (sym g) in
      record {
        long = k ∙ e.long;
        is = one octet js w i (map f (take n xs)) (f d) room room' (omega (arith, all l)) (omega (arith, e.long)) s ∙ e.is;
      }

  pub swept_all : n ≤ i → n ≤ length xs → room ≡ parts octet js w (map f (take n xs)) room₀
  unfolding parts
  swept_all h l =
      let m : length (map f (take n xs)) ≤ i = omega (arith, all l) in
      sym (take-append-drop (i * w) room) ∙ (rw (drop_of_length-le (map f (take n xs)) m) at e.is)
