-- The first refusals, told from the table's octets, and what stays then: for calls that don't read the whole table.
use Rattle.std.specs.Prelude.{◌≡◌, refl, Bool, true, false, not, List, ℕ, ◌≤◌, eqb, leb, length, get_or, Err, None, Ok, Option, Result, Some}
use Rattle.std.proofs.Common.{sym, ap, ◌∙◌, arith, leb-true}
use Rattle.std.proofs.lemmas.Bool.{false≢true}
use Rattle.lists.specs.Choose.{choose}
use Rattle.lists.specs.Both.{and_left, and_right}
use Rattle.lists.specs.Every.{every}
use Rattle.octets.specs.Octets.{u16_at}
use Rattle.codes.specs.declared.Refusal.{Refusal}
use Rattle.codes.specs.declared.Refusal.TheVariants.{BadTable, BadRoom, NoRoom, BadHandle, BadSlot}
use Rattle.channel.specs.Limits.{slots_most}
use Rattle.channel.specs.declared.Answer.{Answer}
use Rattle.channel.specs.declared.Answer.TheVariants.{Refused}
use Rattle.channel.specs.declared.Table.{Table}
use Rattle.channel_answer.specs.Tells.{answer_number}
use Rattle.definition.specs.Table.{place_of, room_width, live, sizes_fit, slot_fits, well_formed}
use Rattle.definition.specs.Asking.{no_slots}
use Rattle.definition.specs.Outcome.{Outcome, verdict, passed, gate}
use Rattle.definition.specs.Ending.{End, end, end_of, gave}
use Rattle.definition.proofs.Ending.{end-still}
use Rattle.edge_layout.specs.Layout.{table_octets, taken, spell, same, read, written}
use Rattle.edge_layout.proofs.Back.{written_back}
use Rattle.edge_answer.specs.Answers.{answer_octets}
use Rattle.edge.specs.Edge.{edge, lifted, on_table}
use Rattle.edge_scan.specs.Scan.{valid_octets}
use Rattle.edge_row.proofs.Row.{octets_long, slots-told, depth_told, packet_told}
use Rattle.edge_row.specs.Gate.{Beyond, NoSlot, OtherRoom, Short, answered, sized_verdict}

-- A CALL THAT GIVES BACK THE TABLE THAT IT WAS GIVEN: the table's octets stay
pub stays : (o a room out job : List ℕ) (call : Table → End) (x : Answer) (n : ℕ) → call (read o).table ≡ end (gave x (read o).table n) room out job
    → edge (answer_number x) o (answered a x n) room out job ≡ on_table o a call
unfolding on_table lifted answer_octets
stays o a room out job call x n e = rw (e, written_back o)

-- A CALL THAT CHANGES IT: the octets are those of the table after it
pub changes : (o a room out job : List ℕ) (call : Table → End) (x : Answer) (t : Table) (n : ℕ) {o' : List ℕ} → (read o).ok ≡ true → call (read o).table ≡ end (gave x t n) room out job → o' ≡ written o t
    → edge (answer_number x) o' (answered a x n) room out job ≡ on_table o a call
unfolding on_table lifted answer_octets choose
changes o a room out job call x t n ok e w = rw (e, w, ok)

-- a table of no slots stands for octets that are none
not-ok : (o : List ℕ) → (read o).ok ≡ false → (read o).table ≡ no_slots
unfolding read choose
not-ok o e = go (same (spell (taken o)) o) refl
  where
    go : (b : Bool) → same (spell (taken o)) o ≡ b → (read o).table ≡ no_slots
    go true s = absurd (false≢true (sym (rw s at e)))
    go false s = rw s

no-slots : well_formed no_slots ≡ false
unfolding well_formed
no-slots = refl

pub not_valid : (o : List ℕ) → valid_octets o ≡ false → well_formed (read o).table ≡ false
unfolding valid_octets
not_valid o e = go (read o).ok refl
  where
    go : (b : Bool) → (read o).ok ≡ b → well_formed (read o).table ≡ false
    go true k = rw k at e
    go false k = ap well_formed (not-ok o k) ∙ no-slots

pub valid_read : (o : List ℕ) → valid_octets o ≡ true → (read o).ok ≡ true
unfolding valid_octets
valid_read o e = and_left (read o).ok (well_formed (read o).table) e

pub valid_formed : (o : List ℕ) → valid_octets o ≡ true → well_formed (read o).table ≡ true
unfolding valid_octets
valid_formed o e = and_right (read o).ok (well_formed (read o).table) e

-- they are as many as a table's, and their slots are at most the most
pub valid_long : (o : List ℕ) → valid_octets o ≡ true → length o ≡ table_octets
valid_long o e = octets_long o (valid_read o e)

formed_slots : (t : Table) → well_formed t ≡ true → t.n ≤ slots_most
unfolding well_formed
formed_slots t e =
    let sizes = and_left (sizes_fit t.n t.d t.m) (every (slot_fits t.d (place_of t)) (live t)) e in
    leb-true t.n slots_most (and_left (leb t.n slots_most) _ (and_right (leb 1 t.n) _ sizes))

pub valid_slots : (o : List ℕ) → valid_octets o ≡ true → get_or o 1 0 ≤ slots_most
valid_slots o e = omega (arith, formed_slots (read o).table (valid_formed o e), slots-told o (valid_read o e))

-- a call that the gate stops
pub stopped : (o a room out job : List ℕ) (jobs : Table → List ℕ) (f : Table → Outcome) (roomed signal link slot : Option ℕ) (r : Refusal)
    → verdict (read o).table roomed signal link slot ≡ Err r
    → edge (answer_number (Refused r)) o (answered a (Refused r) 0) room out job ≡ on_table o a (λ t. end_of t (jobs t) room out job (gate t roomed signal link slot (f t)))
stopped o a room out job jobs f roomed signal link slot r e =
    let t = (read o).table in
    stays o a room out job (λ t. end_of t (jobs t) room out job (gate t roomed signal link slot (f t))) (Refused r) 0
    (ap (λ (v : Result (Unit {0}) Refusal). end_of t (jobs t) room out job (passed t v (f t))) e ∙ end-still t t (Refused r) (jobs t) room out job)

-- REFUSAL 1
pub refused_1 : (o : List ℕ) → valid_octets o ≡ false → (roomed signal link slot : Option ℕ) → verdict (read o).table roomed signal link slot ≡ Err BadTable
unfolding verdict choose
refused_1 o e roomed signal link slot = rw (not_valid o e)

-- THE GATE, TOLD FROM THE OCTETS: the sizes stand in line 0
pub verdict-told : (o : List ℕ) → valid_octets o ≡ true → (roomed signal link slot : Option ℕ)
    → verdict (read o).table roomed signal link slot ≡ sized_verdict (get_or o 1 0) (get_or o 2 0) (u16_at o 3) roomed signal link slot
unfolding verdict sized_verdict choose
verdict-told o e roomed signal link slot =
    let ok = valid_read o e in
    rw (valid_formed o e, slots-told o ok, depth_told o ok, packet_told o ok)

module _ (n d m : ℕ) (roomed signal link slot : Option ℕ) where
  sized_2 : OtherRoom n d m roomed true → sized_verdict n d m roomed signal link slot ≡ Err BadRoom
  unfolding sized_verdict choose
  sized_2 r = rw r

  sized_3 : OtherRoom n d m roomed false → Short signal true → sized_verdict n d m roomed signal link slot ≡ Err NoRoom
  unfolding sized_verdict choose
  sized_3 r s = rw (r, s)

  sized_4 : OtherRoom n d m roomed false → Short signal false → Beyond link true → sized_verdict n d m roomed signal link slot ≡ Err BadHandle
  unfolding sized_verdict choose
  sized_4 r s l = rw (r, s, l)

  sized_6 : OtherRoom n d m roomed false → Short signal false → Beyond link false → NoSlot n slot true → sized_verdict n d m roomed signal link slot ≡ Err BadSlot
  unfolding sized_verdict choose
  sized_6 r s l k = rw (r, s, l, k)

  sized_pass : OtherRoom n d m roomed false → Short signal false → Beyond link false → NoSlot n slot false → sized_verdict n d m roomed signal link slot ≡ Ok tt
  unfolding sized_verdict choose
  sized_pass r s l k = rw (r, s, l, k)

module _ (o : List ℕ) (v : valid_octets o ≡ true) (roomed signal link slot : Option ℕ) where
  abbrev Says : Result (Unit {0}) Refusal → Type 0
  Says x = verdict (read o).table roomed signal link slot ≡ x

  told : Says (sized_verdict (get_or o 1 0) (get_or o 2 0) (u16_at o 3) roomed signal link slot)
  told = verdict-told o v roomed signal link slot

  pub stops_2 : OtherRoom (get_or o 1 0) (get_or o 2 0) (u16_at o 3) roomed true → Says (Err BadRoom)
  stops_2 r = told ∙ sized_2 (get_or o 1 0) (get_or o 2 0) (u16_at o 3) roomed signal link slot r

  module _ (r : OtherRoom (get_or o 1 0) (get_or o 2 0) (u16_at o 3) roomed false) where
    pub stops_3 : Short signal true → Says (Err NoRoom)
    stops_3 s = told ∙ sized_3 (get_or o 1 0) (get_or o 2 0) (u16_at o 3) roomed signal link slot r s

    module _ (s : Short signal false) where
      pub stops_4 : Beyond link true → Says (Err BadHandle)
      stops_4 l = told ∙ sized_4 (get_or o 1 0) (get_or o 2 0) (u16_at o 3) roomed signal link slot r s l

      pub stops_6 : Beyond link false → NoSlot (get_or o 1 0) slot true → Says (Err BadSlot)
      stops_6 l k = told ∙ sized_6 (get_or o 1 0) (get_or o 2 0) (u16_at o 3) roomed signal link slot r s l k

      pub passes : Beyond link false → NoSlot (get_or o 1 0) slot false → Says (Ok tt)
      passes l k = told ∙ sized_pass (get_or o 1 0) (get_or o 2 0) (u16_at o 3) roomed signal link slot r s l k

-- REFUSAL 2, whatever else the call is given
pub refused_2 : (o : List ℕ) → valid_octets o ≡ true → (long : ℕ) (signal link slot : Option ℕ) → eqb long (room_width (get_or o 1 0) (get_or o 2 0) (u16_at o 3)) ≡ false
    → verdict (read o).table (Some long) signal link slot ≡ Err BadRoom
refused_2 o e long signal link slot k = stops_2 o e (Some long) signal link slot (ap not k)

-- of a call that is given a slot alone: refusal 6, or none
module _ (o : List ℕ) (e : valid_octets o ≡ true) (slot : ℕ) where
  pub refused_6 : leb (get_or o 1 0) slot ≡ true → verdict (read o).table None None None (Some slot) ≡ Err BadSlot
  refused_6 k = stops_6 o e None None None (Some slot) refl refl refl k

  pub passes_6 : leb (get_or o 1 0) slot ≡ false → verdict (read o).table None None None (Some slot) ≡ Ok tt
  passes_6 k = passes o e None None None (Some slot) refl refl refl k
