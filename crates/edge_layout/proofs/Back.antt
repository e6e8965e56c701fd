-- A table is read back from its spelling, and it has one. So octets from which a table was read stay where that table is written back to them.
use Rattle.std.specs.Prelude.{◌≡◌, Bool, true, false, List, [], ◌∷◌, ℕ, ◌/◌, ◌%◌, ◌≤◌, eqb, ltb, get_or}
use Rattle.std.proofs.Math.Path.{refl}
use Rattle.std.proofs.Common.{sym, ap, ◌∙◌, arith, eqb-true, eq-eqb, le-ltb}
use Rattle.std.proofs.lemmas.Bool.{false≢true}
use Rattle.std.proofs.Math.ListN.{length, take}
use Rattle.std.proofs.lemmas.List.Edits.{sets}
use Rattle.std.proofs.Math.Seq.{take_at}
use Rattle.lists.specs.Choose.{choose}
use Rattle.lists.specs.Both.{and_left, and_right}
use Rattle.octets.specs.Octets.{part, u16_at}
use Rattle.octets.specs.Numbers.{le16_back}
use Rattle.octets.specs.Sets.{part_same, sets-whole}
use Rattle.channel.specs.Limits.{slots_most, depth_most}
use Rattle.channel.specs.declared.Slot.{Slot}
use Rattle.channel.specs.declared.Table.{Table}
use Rattle.definition.specs.Table.{fresh}
use Rattle.edge_layout.specs.declared.Decoded.{Decoded}
use Rattle.edge_layout.specs.Layout.{spsm_octets, column_count, table_octets, row, tabulate, head, columns, spell, cell, slot_in, taken, same, read, written}
use Rattle.edge_layout.proofs.Rows.{row-length, row_back}
use Rattle.edge_layout.proofs.Columns.{tabulated, spell-length, cell_at}
use Rattle.edge_layout.specs.Back.{Sized}

-- ---- same

pub same_refl : (xs : List ℕ) → same xs xs ≡ true
unfolding same
same_refl [] = refl
same_refl (x ∷ xs) = rw (eq-eqb x x refl, same_refl xs)

pub same_eq : (xs ys : List ℕ) → same xs ys ≡ true → xs ≡ ys
unfolding same
same_eq [] [] e = refl
same_eq [] (y ∷ ys) e = absurd (false≢true e)
same_eq (x ∷ xs) [] e = absurd (false≢true e)
same_eq (x ∷ xs) (y ∷ ys) e =
    let a = eqb-true x y (and_left (eqb x y) (same xs ys) e) in
    let b = same_eq xs ys (and_right (eqb x y) (same xs ys) e) in
    rw (a, b)

-- a slot is read from its row's octets as from a list of them
listed : (f : ℕ → ℕ) → slot_in f ≡ slot_in (λ c. get_or (tabulate f column_count) c 0)
unfolding slot_in tabulate
listed f = refl

slot_back : (f : ℕ → ℕ) (x : Slot) → tabulate f column_count ≡ row x → length x.queue.lens ≡ depth_most → slot_in f ≡ x
slot_back f x e h = listed f ∙ ap (λ (l : List ℕ). slot_in (λ c. get_or l c 0)) e ∙ row_back x h

module _ (t : Table) (w : Sized t) where
  slots_back : tabulate (λ i. slot_in (cell (spell t) i)) slots_most ≡ t.slots
  slots_back =
      tabulated (fresh 0) (λ i. slot_in (cell (spell t) i)) slots_most t.slots w.slots
      (λ i h. slot_back (cell (spell t) i) (get_or t.slots i (fresh 0))
      (tabulated 0 (cell (spell t) i) column_count (row (get_or t.slots i (fresh 0))) (row-length (get_or t.slots i (fresh 0))) (λ c g. cell_at t (fresh 0) i c w.spsms w.slots h g))
      (w.lens i h))

  n_back : get_or (spell t) 1 0 ≡ t.n
  unfolding spell head
  n_back = omega (arith, w.n)

  d_back : get_or (spell t) 2 0 ≡ t.d
  unfolding spell head
  d_back = omega (arith, w.d)

  m_back : u16_at (spell t) 3 ≡ t.m
  unfolding spell head
  m_back = let e : t.m / 256 % 256 ≡ t.m / 256 = omega (arith, w.m) in rw e (le16_back t.m)

  identifier_back : get_or (spell t) 5 0 ≡ t.identifier
  unfolding spell head
  identifier_back = refl

  spsms_back : part (spell t) 16 spsm_octets ≡ t.spsms
  unfolding spell head
  spsms_back = take_at t.spsms (columns t.slots) spsm_octets w.spsms

  taken_back : taken (spell t) ≡ t
  unfolding taken
  taken_back = rw (slots_back, n_back, d_back, m_back, identifier_back, spsms_back)

  pub read_back : read (spell t) ≡ record { ok = true; table = t }
  unfolding read choose
  read_back = rw (taken_back, same_refl (spell t))

  -- where it fits, it is read back from what it was written to
  pub read-written : (o : List ℕ) → table_octets ≤ length o → read (take table_octets (written o t)) ≡ record { ok = true; table = t }
  unfolding written choose
  read-written o h =
      let long : length (spell t) ≡ table_octets = spell-length t ∙ omega (arith, w.spsms) in
      let p : take table_octets (sets o 0 (spell t)) ≡ spell t = rw long at (part_same 0 o 0 (spell t) (omega (arith, long))) in
      rw (le-ltb (length o) table_octets h, p) read_back

-- octets that are read as a table are its spelling
pub one-spelling : (o : List ℕ) (t : Table) → read o ≡ record { ok = true; table = t } → o ≡ spell t
unfolding read choose
one-spelling o t e = go (same (spell (taken o)) o) refl
  where
    go : (b : Bool) → same (spell (taken o)) o ≡ b → o ≡ spell t
    go true s =
        let q : taken o ≡ t = ap (λ (x : Decoded). x.table) (rw s at e) in
        sym (same_eq (spell (taken o)) o s) ∙ ap spell q
    go false s = absurd (false≢true (ap (λ (x : Decoded). x.ok) (rw s at e)))

-- written back as it was read, a table changes no octet
pub written_back : (o : List ℕ) → choose (read o).ok (written o (read o).table) o ≡ o
unfolding read written choose
written_back o = go (same (spell (taken o)) o) refl
  where
    -- octets written over themselves
    over : (b : Bool) → choose b o (sets o 0 o) ≡ o
    over true = refl
    over false = sets-whole o o refl

    go : (b : Bool) → same (spell (taken o)) o ≡ b → choose (read o).ok (written o (read o).table) o ≡ o
    go true s = rw (s, same_eq (spell (taken o)) o s) (over (ltb (length o) table_octets))
    go false s = rw s
