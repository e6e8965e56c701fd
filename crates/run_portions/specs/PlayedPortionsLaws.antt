-- How each way of a line comes to its definition: a call's end, the tests of `n`, and the stretch of the buffers that is lent.
use Rattle.std.specs.Prelude.{◌≡◌, Bool, true, false, ℕ, ◌+◌, ◌-◌, ◌≤◌, ◌<◌, length}
use Rattle.std.proofs.Math.Path.{refl, ap₂, subst}
use Rattle.std.proofs.Common.{◌∙◌, arith}
use mathlib.Core.List.{List, []}
use Rattle.std.proofs.lemmas.List.Edits.{sets}
use borrow.Author.Tests.{le-leb, lt-leb}
use borrow.Rule.Slice.PartMut.{mid_of, put_mid}
use Rattle.lists.specs.Choose.{choose}
use Rattle.octets.specs.Octets.{part}
use Rattle.octets.specs.Sets.{part_length, put_sets}
use Rattle.text_write.specs.Rows.{Writes}
use Rattle.codes.specs.declared.Refusal.TheVariants.{BadTable, BadSlot}
use Rattle.channel.specs.declared.Answer.TheVariants.{Refused}
use Rattle.channel.specs.declared.Slot.{Slot}
use Rattle.channel.specs.declared.Table.{Table}
use Rattle.definition.specs.Table.{sizes_fit, slot_at}
use Rattle.definition.specs.Ending.{End}
use Rattle.row_call.specs.Printed.{row_text, filling_text}
use Rattle.run_play.specs.declared.Played.{Played}
use Rattle.text_words.specs.declared.Word.{Word}
use Rattle.script_commands.specs.Commands.{buffer_most}
use Rattle.script_commands.specs.declared.Portions.{Portions}
use Rattle.script_commands.specs.declared.Portions.TheVariants as Portions
use Rattle.run_play.specs.Plays.{spelled_of}
use Rattle.run_portions.specs.PlayedPortions.{Filled, Fills, start_of, give_of, show_of, buffer_at, lent_size, lent_of, PlaysLent, within, portions_of}

-- a call's end is what its contract says
pub by_end : (f : End → Filled) {x y : End} {row buffer' row' : List ℕ} {r : Played} → x ≡ y → Fills (f x) row r buffer' row' → Fills (f y) row r buffer' row'
by_end f {x} {y} {row} {buffer'} {row'} {r} e h = subst (λ (z : End). Fills (f z) row r buffer' row') e h

-- ---- `n`

module _ (t : Table) (slot : ℕ) (buffer : List ℕ) {r : ℕ} {row row' : List ℕ} {fit : Bool} where
  pub no_table : fit ≡ sizes_fit t.n t.d t.m → fit ≡ false
      → Writes row 0 (row_text (Refused BadTable) []) r row' → Writes row 0 (show_of t slot buffer) r row'
  unfolding show_of choose
  no_table e h w = rw (← e, h) w

  pub past_slots : fit ≡ sizes_fit t.n t.d t.m → fit ≡ true → t.n ≤ slot
      → Writes row 0 (row_text (Refused BadSlot) []) r row' → Writes row 0 (show_of t slot buffer) r row'
  unfolding show_of choose
  past_slots e h k w = rw (← e, h, le-leb t.n slot k) w

  pub job-shown : {x : Slot} → fit ≡ sizes_fit t.n t.d t.m → fit ≡ true → slot < t.n → x ≡ slot_at t slot
      → Writes row 0 (filling_text x.job buffer) r row' → Writes row 0 (show_of t slot buffer) r row'
  unfolding show_of choose
  job-shown {x} e h k s w = rw (← e, h, lt-leb t.n slot k, ← s) w

-- ---- a line by its command, and the stretch of the buffers that it is lent

module _ (t : Table) (room line octets buffers : List ℕ) {row row' part' : List ℕ} {r : Played} {at end : ℕ} where
  in_buffer : (slot size : ℕ) (f : List ℕ → Filled) → at ≡ buffer_at slot (length buffers) → end ≡ buffer_at slot (length buffers) + lent_size slot size (length buffers)
      → length part' ≡ length (mid_of at (end - at) buffers) → Fills (f (mid_of at (end - at) buffers)) row r part' row'
      → PlaysLent (within t room line octets buffers slot (f (lent_of buffers slot size))) row r room (put_mid at (end - at) buffers part') row'
  in_buffer slot size f a b k p =
      let wide : end - at ≡ lent_size slot size (length buffers) = omega (arith, a, b) in
      let before : at ≤ end = omega (arith, a, b) in
      let inside : end ≤ length buffers = omega (arith, a, b) in
      let own : part buffers at (end - at) ≡ lent_of buffers slot size = ap₂ (λ (i n : ℕ). part buffers i n) a wide in
      let long : length part' ≡ end - at = k ∙ part_length buffers at (end - at) (omega arith) in
      let q : Fills (f (lent_of buffers slot size)) row r part' row' = subst (λ (xs : List ℕ). Fills (f xs) row r part' row') own p in
      record {
        plays = record { table = q.table; room = refl; text = q.text };
        buffers = put_sets buffers at end part' before inside long ∙ ap₂ (λ (i : ℕ) (xs : List ℕ). sets buffers i xs) a q.buffer;
      }

  pub starts : {c : Portions} {slot stated size : ℕ} → c ≡ Portions.StartJob slot stated size
      → at ≡ buffer_at slot (length buffers) → end ≡ buffer_at slot (length buffers) + lent_size slot size (length buffers)
      → length part' ≡ length (mid_of at (end - at) buffers) → Fills (start_of t slot stated (mid_of at (end - at) buffers)) row r part' row'
      → PlaysLent (portions_of t room line octets buffers c) row r room (put_mid at (end - at) buffers part') row'
  unfolding portions_of
  starts {c} {slot} {stated} {size} e a b k p = rw e (in_buffer slot size (start_of t slot stated) a b k p)

  pub gives : {c : Portions} {slot size : ℕ} {portion : Word} → c ≡ Portions.GivePortion slot size portion
      → at ≡ buffer_at slot (length buffers) → end ≡ buffer_at slot (length buffers) + lent_size slot size (length buffers)
      → length part' ≡ length (mid_of at (end - at) buffers)
      → Fills (give_of t slot (spelled_of (length octets) line portion) (mid_of at (end - at) buffers)) row r part' row'
      → PlaysLent (portions_of t room line octets buffers c) row r room (put_mid at (end - at) buffers part') row'
  unfolding portions_of
  gives {c} {slot} {size} {portion} e a b k p = rw e (in_buffer slot size (give_of t slot (spelled_of (length octets) line portion)) a b k p)

module _ (t : Table) (room line octets buffers : List ℕ) {row row' own : List ℕ} {n at end : ℕ} where
  pub shows : {c : Portions} {slot : ℕ} → c ≡ Portions.ShowJob slot
      → at ≡ buffer_at slot (length buffers) → end ≡ buffer_at slot (length buffers) + lent_size slot buffer_most (length buffers)
      → own ≡ part buffers at (end - at) → Writes row 0 (show_of t slot own) n row'
      → PlaysLent (portions_of t room line octets buffers c) row (record { table = t; octets = n }) room buffers row'
  unfolding portions_of
  shows {c} {slot} e a b o w =
      let wide : end - at ≡ lent_size slot buffer_most (length buffers) = omega (arith, a, b) in
      let is : own ≡ lent_of buffers slot buffer_most = o ∙ ap₂ (λ (i n : ℕ). part buffers i n) a wide in
      rw e (record { plays = record { table = refl; room = refl; text = subst (λ (xs : List ℕ). Writes row 0 (show_of t slot xs) n row') is w }; buffers = refl })
