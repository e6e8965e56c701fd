-- A law of the view: one slot more is one line more.
use Rattle.std.specs.Prelude.{◌≡◌, List, [], ◌∷◌, ◌++◌, ℕ, zero, suc, ◌+◌, ◌<◌, length, take, get_or}
use Rattle.std.proofs.Common.{sym, ap, ◌∙◌, append_assoc, append-nil, add-zero, add-one, arith, length-take, take-suc}
use Rattle.channel.specs.declared.Slot.{Slot}
use Rattle.definition.specs.Table.{gap}
use Rattle.row_view_slot.specs.SlotLine.{slot_text}
use Rattle.row_view.specs.View.{slots_text}

slots-append : (s : ℕ) (xs ys : List Slot) → slots_text s (xs ++ ys) ≡ slots_text s xs ++ slots_text (s + length xs) ys
unfolding slots_text
slots-append s [] ys = rw (add-zero s)
slots-append s (x ∷ xs) ys =
    ap (λ (r : List ℕ). slot_text s x ++ r) (slots-append (suc s) xs ys ∙ ap (λ (n : ℕ). slots_text (suc s) xs ++ slots_text n ys) (omega arith))
    ∙ sym (append_assoc (slot_text s x) (slots_text (suc s) xs) (slots_text (s + suc (length xs)) ys))

pub slots-more : (xs : List Slot) (i : ℕ) → i < length xs → slots_text zero (take (i + 1) xs) ≡ slots_text zero (take i xs) ++ slot_text i (get_or xs i gap)
unfolding slots_text
slots-more xs i h =
    let e : zero + length (take i xs) ≡ i = rw length-take (omega arith) in
    rw (add-one i, take-suc xs i gap h)
    (slots-append zero (take i xs) (get_or xs i gap ∷ [])
    ∙ rw e (ap (λ (r : List ℕ). slots_text zero (take i xs) ++ r) (append-nil (slot_text i (get_or xs i gap)))))
