-- Laws of a played call: it is read off the call's end; and what was read from a word stands at the buffer's start.
use Rattle.std.specs.Prelude.{◌≡◌, refl, Bool, true, false, List, [], ◌∷◌, ℕ, suc, length, take}
use Rattle.std.specs.Option.{unwrap_or}
use Rattle.std.proofs.Common.{sym, ap, subst, ◌∙◌, arith}
use Rattle.std.proofs.lemmas.List.Edits.{sets}
use Rattle.std.proofs.Math.Seq.{take-nil}
use Rattle.lists.specs.Choose.{choose}
use Rattle.octets.specs.Sets.{sets-out, sets_append_right}
use Rattle.text_hex_words.specs.HexWords.{is_hex_word}
use Rattle.text_hex.specs.Hex.{octets_of, hex_read, hex_octets}
use Rattle.definition.specs.Ending.{End}
use Rattle.run_play.specs.declared.Played.{Played}
use Rattle.run_play.specs.Plays.{Play, Plays}

-- a call's end is what its contract says
pub by_end : (f : End → Play) {x y : End} {row room' row' : List ℕ} {r : Played} → x ≡ y → Plays (f x) row r room' row' → Plays (f y) row r room' row'
by_end f {x} {y} {row} {room'} {row'} {r} e h = subst (λ (z : End). Plays (f z) row r room' row') e h

-- ---- words

sets_front : (x : ℕ) (l xs : List ℕ) → sets (x ∷ l) 1 xs ≡ x ∷ sets l 0 xs
sets_front x l xs = sets_append_right xs (x ∷ []) l 0

take-sets : (l xs : List ℕ) → take (length xs) (sets l 0 xs) ≡ take (length l) xs
take-sets l [] = sym (take-nil (length l))
take-sets [] (x ∷ xs) = ap (take (suc (length xs))) (sets-out [] 1 xs (omega arith))
take-sets (y ∷ l) (x ∷ xs) = ap (take (suc (length xs))) (sets_front x l xs) ∙ ap (λ (r : List ℕ). x ∷ r) (take-sets l xs)

-- as many octets of the buffer as were read are the word's, none of a bad word
pub read_octets : (w l : List ℕ) → take (unwrap_or (hex_read w) 0) (sets l 0 (hex_octets w)) ≡ take (length l) (hex_octets w)
unfolding hex_read hex_octets choose
read_octets w l = go (is_hex_word w) refl
  where
    go : (b : Bool) → is_hex_word w ≡ b → take (unwrap_or (hex_read w) 0) (sets l 0 (hex_octets w)) ≡ take (length l) (hex_octets w)
    go true e = rw e (take-sets l (octets_of w))
    go false e = rw e (take-sets l [])
