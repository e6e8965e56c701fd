-- A valid table's octets with one slot put are a valid table's, if that slot is one that refusal 1 lets pass: so a run of calls tests its table once.
use Rattle.std.specs.Prelude.{◌≡◌, refl, Bool, true, false, List, [], ◌∷◌, ℕ, zero, suc, ◌<◌, eqb, leb, length, get_or, set, take}
use Rattle.std.proofs.Common.{sym, ap, ◌∙◌, arith, length-set, get_or-set_same, get_or-set_other, eqb-true, leb-true}
use Rattle.std.proofs.lemmas.Bool.{eqb-false}
use Rattle.lists.specs.Both.{and_left, and_right, and_both}
use Rattle.lists.specs.Every.{every}
use Rattle.channel.specs.Limits.{slots_most, depth_most}
use Rattle.channel.specs.declared.Slot.{Slot}
use Rattle.channel.specs.declared.Table.{Table}
use Rattle.definition.specs.Table.{place_of, gap, slot_at, put_slot, sizes_fit, slot_fits, well_formed}
use Rattle.edge_layout.specs.Layout.{row, slot_in, spell, read, written}
use Rattle.edge_layout.specs.Back.{Sized}
use Rattle.edge_layout.proofs.Back.{read_back}
use Rattle.edge_layout_write.specs.Puts.{puts}
use Rattle.edge_scan.specs.Scan.{valid_octets}
use Rattle.edge_row.proofs.Row.{spell_put, spelling, slots-long, spsms_long, slot_read, row_written}
use Rattle.edge_row.proofs.Gate.{valid_read, valid_formed}

-- one put among the first n that pass, which passes
every_put : {A : Type 0} (p : A → Bool) (n : ℕ) (xs : List A) (s : ℕ) (y : A) → every p (take n xs) ≡ true → p y ≡ true → every p (take n (set xs s y)) ≡ true
unfolding every
every_put p zero xs s y e f = refl
every_put p (suc n) [] s y e f = refl
every_put p (suc n) (x ∷ xs) zero y e f = and_both (p y) _ f (and_right (p x) _ e)
every_put p (suc n) (x ∷ xs) (suc s) y e f = and_both (p x) _ (and_left (p x) _ e) (every_put p n xs s y (and_right (p x) _ e) f)

pub formed_put : (t : Table) (s : ℕ) (y : Slot) → well_formed t ≡ true → slot_fits t.d (place_of t) y ≡ true → well_formed (put_slot t s y) ≡ true
unfolding well_formed
formed_put t s y e f =
    let sizes = sizes_fit t.n t.d t.m in
    and_both sizes _ (and_left sizes _ e) (every_put (slot_fits t.d (place_of t)) t.n t.slots s y (and_right sizes _ e) f)

module _ (o : List ℕ) (v : valid_octets o ≡ true) (s : ℕ) (h : s < slots_most) (y : Slot) (fit : slot_fits (read o).table.d (place_of (read o).table) y ≡ true) (long : length y.queue.lens ≡ depth_most) where
  abbrev t : Table
  t = (read o).table

  abbrev ok : (read o).ok ≡ true
  ok = valid_read o v

  -- each slot that was read has the lengths of D jobs
  lens_read : (i : ℕ) → i < slots_most → length (slot_at t i).queue.lens ≡ depth_most
  unfolding slot_in
  lens_read i g = rw (slot_read o ok i g)

  lens_put : (i : ℕ) → i < slots_most → (b : Bool) → eqb i s ≡ b → length (get_or (set t.slots s y) i gap).queue.lens ≡ depth_most
  lens_put i g true e =
      let q = eqb-true i s e in
      let l = slots-long o ok in
      rw q (rw (get_or-set_same t.slots s y gap (omega arith)) long)
  lens_put i g false e = rw (get_or-set_other t.slots s i y gap (eqb-false i s e)) (lens_read i g)

  bounds : (n d m : ℕ) → sizes_fit n d m ≡ true → (n < 256) × ((d < 256) × (m < 65536))
  bounds n d m e =
      let a = and_right (leb 1 n) _ e in
      let b = and_right (leb n slots_most) _ a in
      let c = and_right (leb 1 d) _ b in
      let f = and_right (leb d depth_most) _ c in
      (omega (arith, leb-true n slots_most (and_left (leb n slots_most) _ a)), (omega (arith, leb-true d depth_most (and_left (leb d depth_most) _ c)), omega (arith, leb-true m _ (and_right (leb _ m) _ f))))

  sizes-read : sizes_fit t.n t.d t.m ≡ true
  unfolding well_formed
  sizes-read = and_left (sizes_fit t.n t.d t.m) _ (valid_formed o v)

  put_sized : Sized (put_slot t s y)
  put_sized =
      let b = bounds t.n t.d t.m sizes-read in
      record {
        slots = length-set t.slots s y ∙ slots-long o ok;
        lens = λ i g. lens_put i g (eqb i s) refl;
        spsms = spsms_long o ok;
        n = b.0;
        d = b.1.0;
        m = b.1.1;
      }

  put_spelled : written o (put_slot t s y) ≡ spell (put_slot t s y)
  put_spelled =
      row_written o ok s h y
      ∙ ap (λ (l : List ℕ). puts l s 0 (row y)) (spelling o ok)
      ∙ sym (spell_put t s y (spsms_long o ok) (slots-long o ok) h)

  -- IT IS READ BACK
  pub put_read : read (written o (put_slot t s y)) ≡ record { ok = true; table = put_slot t s y }
  put_read = ap read put_spelled ∙ read_back (put_slot t s y) put_sized

  -- AND IT IS VALID
  pub valid_put : valid_octets (written o (put_slot t s y)) ≡ true
  unfolding valid_octets
  valid_put = rw put_read (formed_put t s y (valid_formed o v) fit)
