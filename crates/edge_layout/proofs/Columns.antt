-- Laws of `tabulate`, and which octet of a spelling is which octet of which row.
use Rattle.std.specs.Prelude.{◌≡◌, List, [], ◌++◌, map, length, get_or}
use Rattle.std.proofs.Math.Path.{refl, ap}
use Rattle.std.proofs.Common.{sym, ◌∙◌, le_of_suc-le-suc, not-suc-le-zero, arith, length-append, ext_get_or, get_or-append-add}
use Prim.Native.Nat.{ℕ, zero, suc, ◌+◌, ◌*◌, ◌/◌, ◌%◌, ◌<◌}
use Rattle.std.proofs.lemmas.List.{length-map}
use Rattle.std.proofs.Math.ListN.{get_or-map}
use Rattle.lists.specs.Any.{get_d_any}
use Rattle.channel.specs.Limits.{slots_most}
use Rattle.channel.specs.declared.Slot.{Slot}
use Rattle.channel.specs.declared.Table.{Table}
use Rattle.edge_layout.specs.Layout.{head_octets, spsm_octets, column_count, row, tabulate, head, columns, spell, cell}
use Rattle.edge_layout.specs.Columns.{column_octet}

-- ---- f 0, f 1, ..

module _ {A : Type 0} where
  pub tabulate-length : (f : ℕ → A) (n : ℕ) → length (tabulate f n) ≡ n
  unfolding tabulate
  tabulate-length f zero = refl
  tabulate-length f (suc n) = ap suc (tabulate-length (λ k. f (suc k)) n)

  pub tabulate-at : (d : A) (f : ℕ → A) (n i : ℕ) → i < n → get_or (tabulate f n) i d ≡ f i
  unfolding tabulate
  tabulate-at d f zero i h = absurd (not-suc-le-zero h)
  tabulate-at d f (suc n) zero h = refl
  tabulate-at d f (suc n) (suc i) h = tabulate-at d (λ k. f (suc k)) n i (le_of_suc-le-suc h)

  -- a list whose elements they are
  pub tabulated : (d : A) (f : ℕ → A) (n : ℕ) (l : List A) → length l ≡ n → ((i : ℕ) → i < n → f i ≡ get_or l i d) → tabulate f n ≡ l
  tabulated d f n l e h =
      ext_get_or d (tabulate f n) l (tabulate-length f n ∙ sym e)
      (λ i k. let m : i < n = rw (tabulate-length f n) at k in tabulate-at d f n i m ∙ h i m)

pub column_octet_lem : (xs : List Slot) (d : Slot) (k : ℕ) → length xs ≡ slots_most → column_octet xs k ≡ get_or (row (get_or xs (k % slots_most) d)) (k / slots_most) 0
column_octet_lem xs d k e =
    let h : k % slots_most < length (map row xs) = rw (length-map xs row, e) (omega arith) in
    ap (λ (r : List ℕ). get_or r (k / slots_most) 0) (get_d_any (map row xs) (k % slots_most) [] (row d) h ∙ get_or-map row xs (k % slots_most) d)

pub columns-length : (xs : List Slot) → length (columns xs) ≡ slots_most * column_count
unfolding columns
columns-length xs = tabulate-length (column_octet xs) (slots_most * column_count)

pub column_at : (xs : List Slot) (k : ℕ) → k < slots_most * column_count → get_or (columns xs) k 0 ≡ column_octet xs k
unfolding columns
column_at xs k h = tabulate-at 0 (column_octet xs) (slots_most * column_count) k h

pub columns-at : (xs : List Slot) (d : Slot) (i c : ℕ) → length xs ≡ slots_most → i < slots_most → c < column_count → get_or (columns xs) (i + slots_most * c) 0 ≡ get_or (row (get_or xs i d)) c 0
columns-at xs d i c e h g =
    let a : (i + slots_most * c) % slots_most ≡ i = omega arith in
    let b : (i + slots_most * c) / slots_most ≡ c = omega arith in
    let o : get_or (row (get_or xs ((i + slots_most * c) % slots_most) d)) ((i + slots_most * c) / slots_most) 0 ≡ get_or (row (get_or xs i d)) c 0 = rw (a, b) in
    column_at xs (i + slots_most * c) (omega arith) ∙ column_octet_lem xs d (i + slots_most * c) e ∙ o

pub head-length : (t : Table) → length (head t) ≡ 16 + length t.spsms
unfolding head
head-length t = omega arith

pub spell-length : (t : Table) → length (spell t) ≡ 16 + length t.spsms + slots_most * column_count
unfolding spell
spell-length t = length-append (head t) (columns t.slots) ∙ omega (arith, head-length t, columns-length t.slots)

-- the octet of slot i in column c
pub cell_at : (t : Table) (d : Slot) (i c : ℕ) → length t.spsms ≡ spsm_octets → length t.slots ≡ slots_most → i < slots_most → c < column_count → cell (spell t) i c ≡ get_or (row (get_or t.slots i d)) c 0
unfolding spell
cell_at t d i c p s h g =
    let e : i + (head_octets + slots_most * c) ≡ length (head t) + (i + slots_most * c) = omega (arith, head-length t) in
    ap (λ (k : ℕ). get_or (head t ++ columns t.slots) k 0) e
    ∙ get_or-append-add (head t) (columns t.slots) (i + slots_most * c) 0
    ∙ columns-at t.slots d i c s h g
