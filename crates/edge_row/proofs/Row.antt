-- A table's octets with one row written are the spelling of the table with that slot put; and the row says that slot.
use Rattle.std.specs.Prelude.{◌≡◌, Bool, List, ◌++◌, ℕ, ◌+◌, ◌-◌, ◌/◌, ◌%◌, ◌≤◌, ◌<◌, min, eqb, ltb, get_or, set, take, drop}
use Rattle.std.proofs.Math.Path.{refl, sym, ap}
use Rattle.std.proofs.Common.{◌∙◌, zero-add, arith, length-set, length-drop, ext_get_or, get_or-set_same, get_or-set_other, eqb-true, ltb-true, ltb-false, le-ltb}
use Rattle.std.proofs.Math.Bool.{true, false}
use Rattle.std.proofs.lemmas.Bool.{false≢true, eqb-false}
use Rattle.std.proofs.Math.ListN.{length, length-take, get_or-append}
use Rattle.lists.specs.Choose.{choose}
use Rattle.octets.specs.Octets.{le16, u16_at}
use Rattle.octets.specs.Sets.{sets-whole}
use Rattle.channel.specs.Limits.{slots_most}
use Rattle.channel.specs.declared.OpenJob.{OpenJob}
use Rattle.channel.specs.declared.Slot.{Slot}
use Rattle.channel.specs.declared.Table.{Table}
use Rattle.definition.specs.Table.{gap, slot_at, put_slot, next_id, id_after, spent, with_peer_credits, with_job}
use Rattle.edge_layout.specs.Layout.{head_octets, spsm_octets, column_count, table_octets, row, job_octets, head, columns, spell, cell, slot_in, taken, same, read, written}
use Rattle.edge_layout.proofs.Rows.{row-length}
use Rattle.edge_layout.proofs.Columns.{tabulate-length, tabulate-at, head-length, spell-length, cell_at}
use Rattle.edge_layout.proofs.Back.{one-spelling}
use Rattle.edge_layout_write.specs.Puts.{puts}
use Rattle.edge_layout_write.specs.Cells.{place, puts-length, puts_other, puts-same}
use Rattle.edge_row.proofs.Parts.{part_put}
use Rattle.edge_row.proofs.Spent.{spell-spent}

-- ---- one slot put, in the spelling

module _ (t : Table) (i : ℕ) (x : Slot) (p : length t.spsms ≡ spsm_octets) (s : length t.slots ≡ slots_most) (h : i < slots_most) where
  -- an octet of the head
  at_head : (k : ℕ) → k < head_octets → get_or (spell (put_slot t i x)) k 0 ≡ get_or (puts (spell t) i 0 (row x)) k 0
  unfolding spell head
  at_head k l =
      let m : k < length (head t) = omega (arith, head-length t) in
      get_or-append (head t) (columns (set t.slots i x)) 0 k m
      ∙ sym (get_or-append (head t) (columns t.slots) 0 k m)
      ∙ sym (puts_other (head t ++ columns t.slots) i 0 (row x) k (λ e f g q. omega arith))

  put_at : (j c : ℕ) → j < slots_most → c < column_count → cell (spell (put_slot t i x)) j c ≡ get_or (row (get_or (set t.slots i x) j gap)) c 0
  put_at j c l g = cell_at (put_slot t i x) gap j c p (length-set t.slots i x ∙ s) l g

  long : length (spell t) ≡ table_octets
  long = spell-length t ∙ omega (arith, p)

  -- of the row
  at_row : (c : ℕ) → c < column_count → cell (spell (put_slot t i x)) i c ≡ get_or (puts (spell t) i 0 (row x)) (place i c) 0
  at_row c g =
      put_at i c h g
      ∙ ap (λ (y : Slot). get_or (row y) c 0) (get_or-set_same t.slots i x gap (omega arith))
      ∙ sym (rw (zero-add c) at (puts-same (spell t) i 0 (row x) c (rw (row-length x) g) (omega (arith, long, row-length x)) h))

  -- of another row
  at_other : (j c : ℕ) → j < slots_most → c < column_count → (j ≡ i → ⊥) → cell (spell (put_slot t i x)) j c ≡ get_or (puts (spell t) i 0 (row x)) (place j c) 0
  at_other j c l g apart =
      put_at j c l g
      ∙ ap (λ (y : Slot). get_or (row y) c 0) (get_or-set_other t.slots i j x gap apart)
      ∙ sym (cell_at t gap j c p s l g)
      ∙ sym (puts_other (spell t) i 0 (row x) (place j c) (λ e f k q. apart (omega arith)))

  at-cell : (j c : ℕ) → j < slots_most → c < column_count → (b : Bool) → eqb j i ≡ b → cell (spell (put_slot t i x)) j c ≡ get_or (puts (spell t) i 0 (row x)) (place j c) 0
  at-cell j c l g true e = rw (eqb-true j i e) (at_row c g)
  at-cell j c l g false e = at_other j c l g (eqb-false j i e)

  at_place : (k : ℕ) → k < table_octets → (b : Bool) → ltb k head_octets ≡ b → get_or (spell (put_slot t i x)) k 0 ≡ get_or (puts (spell t) i 0 (row x)) k 0
  at_place k l true e = at_head k (ltb-true k head_octets e)
  at_place k l false e =
      let f = ltb-false k head_octets e in
      let j = (k - head_octets) % slots_most in
      let c = (k - head_octets) / slots_most in
      let q : k ≡ place j c = omega arith in
      rw q (at-cell j c (omega arith) (omega arith) (eqb j i) refl)

  -- THE SPELLING WITH ONE SLOT PUT
  pub spell_put : spell (put_slot t i x) ≡ puts (spell t) i 0 (row x)
  spell_put =
      let put-long : length (spell (put_slot t i x)) ≡ table_octets = spell-length (put_slot t i x) ∙ omega (arith, p) in
      ext_get_or 0 _ _ (put-long ∙ sym (puts-length (spell t) i 0 (row x) ∙ long)) (λ k l. at_place k (omega (arith, put-long)) (ltb k head_octets) refl)

-- ---- of octets that were read

module _ (o : List ℕ) (ok : (read o).ok ≡ true) where
  pub table_taken : (read o).table ≡ taken o
  unfolding read choose
  table_taken = go (same (spell (taken o)) o) refl
    where
      go : (b : Bool) → same (spell (taken o)) o ≡ b → (read o).table ≡ taken o
      go true e = rw e
      go false e = absurd (false≢true (rw e at ok))

  pub spelling : o ≡ spell (read o).table
  spelling = one-spelling o (read o).table (ap (λ (b : Bool). record { ok = b; table = (read o).table }) ok)

  pub slots-long : length (read o).table.slots ≡ slots_most
  unfolding taken
  slots-long = rw table_taken (tabulate-length (λ i. slot_in (cell o i)) slots_most)

  spsms_are : length (read o).table.spsms ≡ min spsm_octets (length o - 16)
  unfolding taken
  spsms_are = rw (table_taken, length-take, length-drop)

  pub spsms_long : length (read o).table.spsms ≡ spsm_octets
  spsms_long = omega (arith, spsms_are, ap length spelling, spell-length (read o).table)

  pub octets_long : length o ≡ table_octets
  octets_long = ap length spelling ∙ spell-length (read o).table ∙ omega (arith, spsms_long)

  -- a table of as many octets, written over them all
  whole : (t : Table) → length t.spsms ≡ spsm_octets → written o t ≡ spell t
  unfolding written choose
  whole t p =
      let long : length o ≡ length (spell t) = octets_long ∙ sym (spell-length t ∙ omega (arith, p)) in
      rw (le-ltb (length o) table_octets (omega (arith, octets_long))) (sets-whole o (spell t) long)

  -- the sizes stand in line 0
  pub slots-told : (read o).table.n ≡ get_or o 1 0
  unfolding taken
  slots-told = ap (λ (t : Table). t.n) table_taken

  pub depth_told : (read o).table.d ≡ get_or o 2 0
  unfolding taken
  depth_told = ap (λ (t : Table). t.d) table_taken

  pub packet_told : (read o).table.m ≡ u16_at o 3
  unfolding taken
  packet_told = ap (λ (t : Table). t.m) table_taken

  -- and the next identifier
  pub identifier_told : (read o).table.identifier ≡ get_or o 5 0
  unfolding taken
  identifier_told = ap (λ (t : Table). t.identifier) table_taken

  module _ (i : ℕ) (h : i < slots_most) where
    -- THE ROW SAYS ITS SLOT
    pub slot_read : slot_at (read o).table i ≡ slot_in (cell o i)
    unfolding taken
    slot_read = ap (λ (t : Table). slot_at t i) table_taken ∙ tabulate-at gap (λ i. slot_in (cell o i)) slots_most i h

    pub holds : (c : ℕ) → c < column_count → cell o i c ≡ get_or (row (slot_at (read o).table i)) c 0
    holds c g = ap (λ (l : List ℕ). cell l i c) spelling ∙ cell_at (read o).table gap i c spsms_long slots-long h g

    -- ONE ROW WRITTEN IS THE TABLE WITH THAT SLOT PUT
    pub row_written : (x : Slot) → written o (put_slot (read o).table i x) ≡ puts o i 0 (row x)
    row_written x =
        let t = (read o).table in
        whole (put_slot t i x) spsms_long ∙ spell_put t i x spsms_long slots-long h ∙ ap (λ (l : List ℕ). puts l i 0 (row x)) (sym spelling)

    -- of a slot that differs in the columns from c on alone, these are written
    pub part-written : (x : Slot) (c : ℕ) (ys : List ℕ) → c + length ys ≤ column_count
        → row x ≡ take c (row (slot_at (read o).table i)) ++ (ys ++ drop (c + length ys) (row (slot_at (read o).table i)))
        → written o (put_slot (read o).table i x) ≡ puts o i c ys
    part-written x c ys l e =
        let y = slot_at (read o).table i in
        row_written x ∙ ap (puts o i 0) e ∙ part_put o i (row y) (λ c g. holds c (rw (row-length y) at g)) c ys (rw (row-length y) l)

    -- the peer's credits are columns 24 and 25
    pub credits-written : (n : ℕ) → written o (put_slot (read o).table i (with_peer_credits n (slot_at (read o).table i))) ≡ puts o i 24 (le16 n)
    unfolding row
    credits-written n = part-written (with_peer_credits n (slot_at (read o).table i)) 24 (le16 n) (omega arith) refl

    -- the open job's numbers are columns 39 to 46
    pub job-written : (j : OpenJob) → written o (put_slot (read o).table i (with_job j (slot_at (read o).table i))) ≡ puts o i 39 (job_octets j)
    unfolding row
    job-written j = part-written (with_job j (slot_at (read o).table i)) 39 (job_octets j) (omega arith) refl

    -- THE OCTET OF THE NEXT IDENTIFIER WRITTEN is the table with that identifier used
    pub spent-written : (x : Slot) → written o (put_slot (spent (read o).table) i x) ≡ set (written o (put_slot (read o).table i x)) 5 (id_after (next_id (read o).table))
    spent-written x =
        let t = (read o).table in
        whole (put_slot (spent t) i x) spsms_long ∙ spell-spent t i x ∙ ap (λ (l : List ℕ). set l 5 (id_after (next_id t))) (sym (whole (put_slot t i x) spsms_long))
