-- All rows written are the columns, whatever stood there before; with the head before them they are the spelling of the table.
use Rattle.std.specs.Prelude.{◌≡◌, refl, Bool, true, false, List, [], map, ℕ, suc, ◌+◌, ◌-◌, ◌*◌, ◌/◌, ◌%◌, ◌≤◌, ◌<◌, ltb, length, get_or, drop}
use Rattle.std.proofs.Common.{sym, ◌∙◌, zero-add, arith, drop-cons, ext_get_or, ltb-true, ltb-false}
use Rattle.std.proofs.Math.Numerals.{add-one}
use Rattle.std.proofs.lemmas.List.Edits.{sets}
use Rattle.std.proofs.Math.Seq.{length-sets, drop-length}
use Rattle.octets.specs.Sets.{sets-append, sets-before, sets-after, sets_inside}
use Rattle.channel.specs.Limits.{slots_most}
use Rattle.channel.specs.declared.Slot.{Slot}
use Rattle.channel.specs.declared.Table.{Table}
use Rattle.edge_layout.specs.Layout.{spsm_octets, head_octets, column_count, table_octets, cell, row, head, columns, spell}
use Rattle.edge_layout.proofs.Columns.{columns-length, column_at}
use Rattle.edge_layout_write.specs.Puts.{puts}
use Rattle.edge_layout_write.specs.Cells.{place, put_rows, puts-length, rows-length, rows_other, rows_same}

-- ---- all rows

below_or : {P : Type 0} (a b : ℕ) → (a < b → P) → (b ≤ a → P) → P
below_or {P} a b f g = go (ltb a b) refl
  where
    go : (t : Bool) → ltb a b ≡ t → P
    go true e = f (ltb-true a b e)
    go false e = g (ltb-false a b e)

module _ (o : List ℕ) (xs : List Slot) (fits : table_octets ≤ length o) (all : length xs ≡ slots_most) where
  -- an octet in no column
  apart : (k : ℕ) → ((j e : ℕ) → j < slots_most → e < column_count → k ≡ place j e → ⊥) → get_or (put_rows o 0 xs) k 0 ≡ get_or o k 0
  apart k f = rows_other o 0 xs k (λ j e g h. f j e (omega arith))

  -- an octet of the columns
  inside : (k : ℕ) → k < slots_most * column_count → get_or (put_rows o 0 xs) (head_octets + k) 0 ≡ get_or (columns xs) k 0
  inside k h =
      let j = k % slots_most in
      let c = k / slots_most in
      let e : head_octets + k ≡ place j c = omega arith in
      let r : cell (put_rows o 0 xs) (0 + j) c ≡ get_or (get_or (map row xs) j []) c 0 = rows_same o 0 xs j c fits (omega arith) (omega arith) (omega arith) in
      rw e (rw zero-add at r) ∙ sym (column_at xs k h)

  rows_at : (k : ℕ) → get_or (put_rows o 0 xs) k 0 ≡ get_or (sets o head_octets (columns xs)) k 0
  rows_at k =
      let l = columns-length xs in
      below_or k head_octets
      (λ h. apart k (λ j e g q r. omega arith) ∙ sym (sets-before 0 o head_octets (columns xs) k h))
      (λ h. below_or k table_octets
      (λ g.
      let q = k - head_octets in
      let e : k ≡ head_octets + q = omega arith in
      rw e (inside q (omega arith) ∙ sym (sets_inside 0 o head_octets (columns xs) q (omega arith) (omega arith))))
      (λ g. apart k (λ j e m q r. omega arith) ∙ sym (sets-after 0 o head_octets (columns xs) k (omega arith))))

  pub rows-columns : put_rows o 0 xs ≡ sets o head_octets (columns xs)
  rows-columns = ext_get_or 0 _ _ (rows-length o 0 xs ∙ sym (length-sets o head_octets (columns xs))) (λ k h. rows_at k)

-- ---- the whole table

pub head-length : (t : Table) → length t.spsms ≡ spsm_octets → length (head t) ≡ head_octets
unfolding head
head-length t e = omega arith

pub table-parts : (o : List ℕ) (t : Table) → table_octets ≤ length o → length t.slots ≡ slots_most → length t.spsms ≡ spsm_octets → put_rows (sets o 0 (head t)) 0 t.slots ≡ sets o 0 (spell t)
unfolding spell
table-parts o t h e s =
    let l = head-length t s in
    rows-columns (sets o 0 (head t)) t.slots (omega (arith, length-sets o 0 (head t))) e
    ∙ sym (rw (l, zero-add) at (sets-append o 0 (head t) (columns t.slots)))

-- ---- the loop over the slots

-- The first i are written: with the rest written too, they are all.
pub record Rowing (o₀ : List ℕ) (xs : List Slot) (i : ℕ) (o : List ℕ) : Type 0 where
  pub long : length o ≡ length o₀
  pub is : put_rows o i (drop i xs) ≡ put_rows o₀ 0 xs

pub rowing_none : {o : List ℕ} {xs : List Slot} → Rowing o xs 0 o
rowing_none = record { long = refl; is = refl }

module _ {o₀ o : List ℕ} {xs : List Slot} {i : ℕ} (w : Rowing o₀ xs i o) where
  pub rowing_more : (d : Slot) → i < length xs → Rowing o₀ xs (i + 1) (puts o i 0 (row (get_or xs i d)))
  unfolding put_rows
  rowing_more d h =
      let r : put_rows (puts o i 0 (row (get_or xs i d))) (suc i) (drop (suc i) xs) ≡ put_rows o₀ 0 xs = rw (drop-cons xs i d h) at w.is in
      record { long = puts-length o i 0 (row (get_or xs i d)) ∙ w.long; is = rw add-one r }

  pub rowing_end : i ≡ length xs → o ≡ put_rows o₀ 0 xs
  unfolding put_rows
  rowing_end e = rw (e, drop-length) at w.is
