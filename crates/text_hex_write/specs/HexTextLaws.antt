-- Laws of octets written as hex: one octet more is two digits more.
use Rattle.std.specs.Prelude.{◌≡◌, refl, List, [], ◌∷◌, ◌++◌, ℕ, ◌+◌, ◌/◌, ◌%◌, ◌<◌, length, take, get_or}
use Rattle.std.proofs.Common.{sym, ◌∙◌, append_assoc, add-one, arith, take-suc}
use Rattle.text_write.specs.Text.{text}
use Rattle.text_hex_write.specs.HexText.{digit_of, hex_digits, hex_text}

digits_append : (xs ys : List ℕ) → hex_digits (xs ++ ys) ≡ hex_digits xs ++ hex_digits ys
unfolding hex_digits
digits_append [] ys = refl
digits_append (x ∷ xs) ys = rw (digits_append xs ys)

-- one octet more is two digits more
pub digits_more : (xs : List ℕ) (i : ℕ) → i < length xs → hex_digits (take (i + 1) xs) ≡ (hex_digits (take i xs) ++ digit_of (get_or xs i 0 / 16) ∷ []) ++ digit_of (get_or xs i 0 % 16) ∷ []
unfolding hex_digits
digits_more xs i h =
    rw (add-one i, take-suc xs i 0 h) (digits_append (take i xs) (get_or xs i 0 ∷ []) ∙ sym (append_assoc (hex_digits (take i xs)) (digit_of (get_or xs i 0 / 16) ∷ []) (digit_of (get_or xs i 0 % 16) ∷ [])))

pub text-none : (xs : List ℕ) → length xs ≡ 0 → hex_text xs ≡ text "-"
unfolding hex_text
text-none [] h = refl
text-none (x ∷ xs) h = absurd (omega arith)

pub text-digits : (xs : List ℕ) → 0 < length xs → hex_text xs ≡ hex_digits xs
unfolding hex_text
text-digits [] h = absurd (omega arith)
text-digits (x ∷ xs) h = refl
