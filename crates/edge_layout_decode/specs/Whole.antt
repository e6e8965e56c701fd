-- Octets pass the tests exactly where they are the spelling of the table that they say.
use Rattle.std.specs.Prelude.{◌≡◌, refl, Bool, ◌&&◌, ℕ, ◌+◌, ◌*◌, ◌-◌, ◌/◌, ◌%◌, ◌<◌, min, length, drop, replicate}
use Rattle.std.proofs.Math.Path.{sym, ap}
use Rattle.std.proofs.Common.{◌∙◌, length-take, length-drop, take-append-drop, take-add, get_or-take, get_or-drop, length-take-le}
use Rattle.std.proofs.Math.Bool.{true, false, false≢true}
use mathlib.Core.List.{List, ◌∷◌, ◌++◌}
use native.Mathlib.Omega.{arith}
use Rattle.std.proofs.Math.Dec.{eqb}
use Rattle.std.proofs.Math.ListN.{get_or, take}
use borrow.Author.Tests.{eqb-true}
use Rattle.lists.specs.Choose.{choose}
use Rattle.lists.specs.Both.{and_left, and_right, false_unless}
use Rattle.octets.specs.Octets.{part, u16_at}
use Rattle.octets.specs.Numbers.{lo_back, hi_back}
use Rattle.channel.specs.Limits.{slots_most}
use Rattle.channel.specs.declared.Slot.{Slot}
use Rattle.channel.specs.declared.Table.{Table}
use Rattle.definition.specs.Table.{fresh}
use Rattle.definition.specs.Asking.{no_slots}
use Rattle.edge_layout.specs.declared.Decoded.{Decoded}
use Rattle.edge_layout.specs.Layout.{layout_number, head_octets, spsm_octets, column_count, table_octets, row, tabulate, head, columns, spell, cell, slot_in, taken, same, read}
use Rattle.edge_layout.specs.Spelled.{row_spelled, all_below, head_spelled, rows_spelled}
use Rattle.edge_layout.proofs.Rows.{row-passes, row_forth}
use Rattle.edge_layout.specs.Columns.{column_octet}
use Rattle.edge_layout.proofs.Columns.{tabulate-length, tabulate-at, tabulated, column_octet_lem, spell-length, cell_at}
use Rattle.edge_layout.proofs.Back.{same_refl, same_eq}
use Rattle.edge_layout_decode.specs.Loops.{all_below_lem, all_each}

abbrev pub spelled : List ℕ → Bool
spelled o = head_spelled o && rows_spelled o

-- what stands for octets that are no spelling
abbrev pub not_read : Decoded
not_read = record { ok = false; table = no_slots }

-- ---- a spelling passes the tests

pub head-passes : (t : Table) → head_spelled (spell t) ≡ true
unfolding head_spelled all_below spell head
head-passes t = refl

same_rows : (f g : ℕ → ℕ) → ((c : ℕ) → c < column_count → f c ≡ g c) → row_spelled f ≡ row_spelled g
unfolding row_spelled
same_rows f g h = rw (h 0 (omega arith), h 1 (omega arith), h 10 (omega arith))

pub rows_pass : (t : Table) → length t.spsms ≡ spsm_octets → length t.slots ≡ slots_most → rows_spelled (spell t) ≡ true
unfolding rows_spelled
rows_pass t p s =
    all_below_lem (λ i. row_spelled (cell (spell t) i)) slots_most
    (λ i h. let x = get_or t.slots i (fresh 0) in same_rows (cell (spell t) i) (λ c. get_or (row x) c 0) (λ c g. cell_at t (fresh 0) i c p s h g) ∙ row-passes x)

-- ---- octets that pass them are a spelling

slots-long : (o : List ℕ) → length (taken o).slots ≡ slots_most
unfolding taken
slots-long o = tabulate-length (λ i. slot_in (cell o i)) slots_most

slot-at : (o : List ℕ) (i : ℕ) → i < slots_most → get_or (taken o).slots i (fresh 0) ≡ slot_in (cell o i)
unfolding taken
slot-at o i h = tabulate-at (fresh 0) (λ i. slot_in (cell o i)) slots_most i h

spsms_long : (o : List ℕ) → length (taken o).spsms ≡ min spsm_octets (length o - 16)
unfolding taken
spsms_long o = rw (length-take, length-drop)

module _ (o : List ℕ) (long : length o ≡ table_octets) (octets : (k : ℕ) → get_or o k 0 < 256) where
  line : head_spelled o ≡ true → layout_number ∷ get_or o 1 0 % 256 ∷ get_or o 2 0 % 256 ∷ u16_at o 3 % 256 ∷ u16_at o 3 / 256 % 256 ∷ get_or o 5 0 ∷ replicate 10 0 ≡ tabulate (λ k. get_or o k 0) 16
  unfolding head_spelled tabulate
  line h =
      let first : get_or o 0 0 ≡ layout_number = eqb-true (get_or o 0 0) layout_number (and_left (eqb (get_or o 0 0) layout_number) (all_below (λ k. eqb (get_or o (k + 6) 0) 0) 10) h) in
      let rest = and_right (eqb (get_or o 0 0) layout_number) (all_below (λ k. eqb (get_or o (k + 6) 0) 0) 10) h in
      let none : (k : ℕ) → k < 10 → get_or o (k + 6) 0 ≡ 0 = λ k l. eqb-true (get_or o (k + 6) 0) 0 (all_each (λ k. eqb (get_or o (k + 6) 0) 0) 10 rest k l) in
      let z0 : get_or o 6 0 ≡ 0 = none 0 (omega arith) in
      let z1 : get_or o 7 0 ≡ 0 = none 1 (omega arith) in
      let z2 : get_or o 8 0 ≡ 0 = none 2 (omega arith) in
      let z3 : get_or o 9 0 ≡ 0 = none 3 (omega arith) in
      let z4 : get_or o 10 0 ≡ 0 = none 4 (omega arith) in
      let z5 : get_or o 11 0 ≡ 0 = none 5 (omega arith) in
      let z6 : get_or o 12 0 ≡ 0 = none 6 (omega arith) in
      let z7 : get_or o 13 0 ≡ 0 = none 7 (omega arith) in
      let z8 : get_or o 14 0 ≡ 0 = none 8 (omega arith) in
      let z9 : get_or o 15 0 ≡ 0 = none 9 (omega arith) in
      let n : get_or o 1 0 % 256 ≡ get_or o 1 0 = omega (arith, octets 1) in
      let d : get_or o 2 0 % 256 ≡ get_or o 2 0 = omega (arith, octets 2) in
      let low : u16_at o 3 % 256 ≡ get_or o 3 0 = lo_back (get_or o 3 0) (get_or o 4 0) (octets 3) in
      let above : u16_at o 3 / 256 ≡ get_or o 4 0 = hi_back (get_or o 3 0) (get_or o 4 0) (octets 3) in
      let high : u16_at o 3 / 256 % 256 ≡ get_or o 4 0 = rw above (omega (arith, octets 4)) in
      rw (first, n, d, low, high, z0, z1, z2, z3, z4, z5, z6, z7, z8, z9)

  head_forth : head_spelled o ≡ true → head (taken o) ≡ take head_octets o
  unfolding head taken
  head_forth h =
      let e : tabulate (λ k. get_or o k 0) 16 ≡ take 16 o = tabulated 0 (λ k. get_or o k 0) 16 (take 16 o) (length-take-le 16 o (omega arith)) (λ i k. sym (get_or-take 16 o i 0 k)) in
      ap (λ (l : List ℕ). l ++ part o 16 spsm_octets) (line h ∙ e) ∙ sym (take-add 16 spsm_octets o)

  columns_forth : rows_spelled o ≡ true → columns (taken o).slots ≡ drop head_octets o
  unfolding rows_spelled columns
  columns_forth h =
      tabulated 0 (column_octet (taken o).slots) (slots_most * column_count) (drop head_octets o) (length-drop head_octets o ∙ omega arith) octet
    where
      octet : (k : ℕ) → k < slots_most * column_count → column_octet (taken o).slots k ≡ get_or (drop head_octets o) k 0
      octet k l =
          let i = k % slots_most in
          let c = k / slots_most in
          let inside : k % slots_most < slots_most = omega arith in
          let within : k / slots_most < column_count = omega arith in
          let passes = all_each (λ i. row_spelled (cell o i)) slots_most h (k % slots_most) inside in
          let e : k % slots_most + (head_octets + slots_most * (k / slots_most)) ≡ head_octets + k = omega arith in
          column_octet_lem (taken o).slots (fresh 0) k (slots-long o)
          ∙ ap (λ (x : Slot). get_or (row x) c 0) (slot-at o i inside)
          ∙ ap (λ (r : List ℕ). get_or r c 0) (row_forth (cell o i) (λ c. octets (i + (head_octets + slots_most * c))) passes)
          ∙ tabulate-at 0 (cell o i) column_count c within
          ∙ ap (λ (n : ℕ). get_or o n 0) e
          ∙ sym (get_or-drop head_octets o k 0)

  spell_forth : spelled o ≡ true → spell (taken o) ≡ o
  unfolding spell
  spell_forth h =
      let a = head_forth (and_left (head_spelled o) (rows_spelled o) h) in
      let b = columns_forth (and_right (head_spelled o) (rows_spelled o) h) in
      rw (a, b) (take-append-drop head_octets o)

  -- and others are not
  spell-passes : spell (taken o) ≡ o → spelled o ≡ true
  spell-passes e =
      let p : length (taken o).spsms ≡ spsm_octets = omega (arith, spsms_long o) in
      let a : head_spelled o ≡ true = ap head_spelled (sym e) ∙ head-passes (taken o) in
      let b : rows_spelled o ≡ true = ap rows_spelled (sym e) ∙ rows_pass (taken o) p (slots-long o) in
      rw (a, b)

  pub read-passes : spelled o ≡ true → read o ≡ record { ok = true; table = taken o }
  unfolding read choose
  read-passes h =
      let e : same (spell (taken o)) o ≡ true = ap (λ (l : List ℕ). same l o) (spell_forth h) ∙ same_refl o in
      rw e

  pub read-fails : spelled o ≡ false → read o ≡ not_read
  unfolding read choose
  read-fails h =
      let e : same (spell (taken o)) o ≡ false =
      false_unless (same (spell (taken o)) o) (λ s. false≢true (sym h ∙ spell-passes (same_eq (spell (taken o)) o s))) in
      rw e

-- too few or too many
pub read_other : (o : List ℕ) → (length o ≡ table_octets → ⊥) → read o ≡ not_read
unfolding read choose
read_other o h =
    let e : same (spell (taken o)) o ≡ false =
    false_unless (same (spell (taken o)) o)
    (λ s. h (omega (arith, ap length (same_eq (spell (taken o)) o s), spell-length (taken o), spsms_long o))) in
    rw e
