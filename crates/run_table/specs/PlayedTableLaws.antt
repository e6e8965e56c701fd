-- How each way of a line comes to its definition: by the tests on it.
use Rattle.std.specs.Prelude.{◌≡◌, Bool, true, false, ℕ, ◌+◌, ◌-◌, ◌*◌, ◌≤◌, ◌<◌, length, take, drop}
use Rattle.std.proofs.Math.Path.{ap}
use Rattle.std.proofs.Common.{subst, ◌∙◌}
use mathlib.Core.List.{List, []}
use native.Mathlib.Omega.{arith}
use borrow.Author.Tests.{lt-ltb, le-ltb, le-leb, lt-leb}
use Rattle.lists.specs.Choose.{choose}
use Rattle.octets.specs.Octets.{part}
use Rattle.text_write.specs.Rows.{Writes}
use Rattle.codes.specs.declared.Refusal.TheVariants.{BadTable, BadSlot}
use Rattle.channel.specs.declared.Answer.TheVariants.{Done, Refused}
use Rattle.channel.specs.declared.Served.{Served}
use Rattle.channel.specs.declared.Table.{Table}
use Rattle.definition.specs.Table.{part_width, sizes_fit}
use Rattle.definition.specs.Asking.{make, no_slots}
use Rattle.definition.specs.Ending.{end, end_made}
use Rattle.row_call.specs.Printed.{row_text}
use Rattle.run_play.specs.declared.Played.{Played}
use Rattle.run_play.specs.Plays.{play, Plays, size_of}
use Rattle.run_play.specs.PlaysLaws.{by_end}
use Rattle.run_table.specs.PlayedTable.{before, made_of, part_of}

-- ---- `T`

module _ (n d m : ℕ) (room : List ℕ) {size : ℕ} {row room' row' : List ℕ} {r : Played} where
  pub not_made : size ≡ size_of n d m → length room < size
      → Plays (play no_slots room (row_text (Refused BadTable) [])) row r room' row' → Plays (made_of n d m room) row r room' row'
  unfolding made_of choose
  not_made e h p = rw (← e, lt-ltb (length room) size h) p

  pub is_made : {s : Served} {part' : List ℕ} → size ≡ size_of n d m → size ≤ length room
      → end s part' [] [] ≡ end_made (make n d m (take size room))
      → Plays (before (drop size room) (end s part' [] [])) row r room' row' → Plays (made_of n d m room) row r room' row'
  unfolding made_of choose
  is_made {s} {part'} e h made p = rw (← e, le-ltb (length room) size h) (by_end (before (drop size room)) made p)

-- ---- `M`

module _ (t : Table) (slot : ℕ) (room : List ℕ) {r : ℕ} {row row' : List ℕ} {fit : Bool} where
  pub no_part : fit ≡ sizes_fit t.n t.d t.m → fit ≡ false
      → Writes row 0 (row_text (Refused BadTable) []) r row' → Writes row 0 (part_of t slot room) r row'
  unfolding part_of choose
  no_part e h w = rw (← e, h) w

  pub past_parts : fit ≡ sizes_fit t.n t.d t.m → fit ≡ true → t.n ≤ slot
      → Writes row 0 (row_text (Refused BadSlot) []) r row' → Writes row 0 (part_of t slot room) r row'
  unfolding part_of choose
  past_parts e h k w = rw (← e, h, le-leb t.n slot k) w

  pub part-shown : {at wide : ℕ} {octets : List ℕ} → fit ≡ sizes_fit t.n t.d t.m → fit ≡ true → slot < t.n
      → at ≡ slot * part_width t.d t.m → wide ≡ part_width t.d t.m → octets ≡ part room at (at + wide - at)
      → Writes row 0 (row_text Done octets) r row' → Writes row 0 (part_of t slot room) r row'
  unfolding part_of choose
  part-shown {at} {wide} {octets} e h k a v o w =
      let same : at + wide - at ≡ wide = omega arith in
      let is : octets ≡ part room (slot * part_width t.d t.m) (part_width t.d t.m) = o ∙ ap (part room at) (same ∙ v) ∙ ap (λ k. part room k (part_width t.d t.m)) a in
      rw (← e, h, lt-leb t.n slot k) (subst (λ (xs : List ℕ). Writes row 0 (row_text Done xs) r row') is w)
