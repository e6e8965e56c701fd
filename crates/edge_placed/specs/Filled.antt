-- A start and a portion on the table's octets where they stand: one row read, the work on its slot and on the job's frame buffer, and what it changes of the row written.
use Rattle.std.specs.Prelude.{◌≡◌, refl, true, false, ℕ, leb, length, get_or, Err, None, Result, Some}
use Rattle.std.proofs.Common.{sym, ◌∙◌}
use Rattle.std.proofs.Math.Path.{ap}
use mathlib.Core.List.{List, []}
use Rattle.codes.specs.declared.Refusal.{Refusal}
use Rattle.channel.specs.declared.Answer.TheVariants.{Refused}
use Rattle.channel.specs.declared.OpenJob.{OpenJob}
use Rattle.channel.specs.declared.Slot.{Slot}
use Rattle.channel.specs.declared.Table.{Table}
use Rattle.channel_answer.specs.Tells.{answer_number}
use Rattle.definition.specs.Table.{slot_at, put_slot, with_job}
use Rattle.definition.specs.Outcome.{Outcome, verdict, passed, gate}
use Rattle.definition.specs.Ending.{end, end_of, gave}
use Rattle.definition.specs.Portions.{start_job, start_on, give_portion, portion_on}
use Rattle.slot_work.specs.declared.Worked.{Worked}
use Rattle.slot_work.specs.Work.{sending_as}
use Rattle.slot_portion.specs.Filled.{Filled, After, after, after_of, in_table, fills_in}
use Rattle.slot_portion.specs.Starting.{start_of}
use Rattle.slot_portion.specs.Giving.{portion_of}
use Rattle.slot_portion.specs.Into.{start-into, portion-into}
use Rattle.slot_portion.specs.Alone.{start-alone, portion-alone}
use Rattle.edge_layout.specs.Layout.{cell, slot_in, job_octets, read, written}
use Rattle.edge_layout_write.specs.Puts.{puts, job_row}
use Rattle.edge.specs.Edge.{Edge, edge, on_table}
use Rattle.edge_scan.specs.Scan.{valid_octets}
use Rattle.edge_row.proofs.Row.{slot_read, job-written}
use Rattle.edge_row.proofs.Jobbed.{jobbed_written}
use Rattle.edge_row.specs.Gate.{answered}
use Rattle.edge_row.proofs.Gate.{changes, stopped, valid_read, passes_6}
use Rattle.edge_placed.specs.Frames.{start_edge, portion_edge}
use Rattle.edge_placed.specs.Sent.{slot-within}

-- ---- either call: `on` is what stands behind its gate

module _ (o a jobs buffer : List ℕ) (slot : ℕ) (on : Table → Outcome) where
  abbrev fill_edge : Edge
  fill_edge = on_table o a (λ t. end_of t jobs [] buffer [] (gate t None None None (Some slot) (on t)))

  -- one that the gate stops leaves the octets
  fill_stopped : (r : Refusal) → verdict (read o).table None None None (Some slot) ≡ Err r → edge (answer_number (Refused r)) o (answered a (Refused r) 0) [] buffer [] ≡ fill_edge
  fill_stopped r e = stopped o a [] buffer [] (λ t. jobs) on None None None (Some slot) r e

  -- the work on the slot, put into the table
  fill_placed : (v : valid_octets o ≡ true) → leb (get_or o 1 0) slot ≡ false → (w : Filled) {r : Worked} {buffer' o' : List ℕ}
      → end_of (read o).table jobs [] buffer [] (on (read o).table) ≡ end_of (read o).table jobs [] buffer [] (in_table (read o).table slot w)
      → after r buffer' ≡ after_of w jobs buffer → o' ≡ written o (put_slot (read o).table slot r.slot)
      → edge (answer_number r.answer) o' (answered a r.answer r.octets) [] buffer' [] ≡ fill_edge
  fill_placed v n w {r} {buffer'} into worked put =
      let t = (read o).table in
      let ends : end_of t jobs [] buffer [] (gate t None None None (Some slot) (on t)) ≡ end (gave r.answer (put_slot t slot r.slot) r.octets) [] buffer' [] =
      ap (λ (x : Result (Unit {0}) Refusal). end_of t jobs [] buffer [] (passed t x (on t))) (passes_6 o v slot n) ∙ into ∙ sym (fills_in t slot w jobs buffer refl worked) in
      changes o a [] buffer' [] (λ t. end_of t jobs [] buffer [] (gate t None None None (Some slot) (on t))) r.answer (put_slot t slot r.slot) r.octets (valid_read o v) ends put

-- ---- a start

module _ (o a buffer : List ℕ) (slot l : ℕ) where
  pub start_stopped : (r : Refusal) → verdict (read o).table None None None (Some slot) ≡ Err r → edge (answer_number (Refused r)) o (answered a (Refused r) 0) [] buffer [] ≡ start_edge o a buffer slot l
  unfolding start_job
  start_stopped r e = fill_stopped o a [] buffer slot (λ t. start_on t slot l (length buffer)) r e

  -- THE PEER'S CREDITS, THE OPEN JOB'S NUMBERS AND WHAT IS COUNTED OF SENDS WRITTEN ARE THE TABLE AFTER THE START
  pub start_placed : valid_octets o ≡ true → leb (get_or o 1 0) slot ≡ false → {r : Worked} {buffer' : List ℕ} → after r buffer' ≡ after_of (start_of (slot_in (cell o slot)) l (length buffer)) [] buffer
      → edge (answer_number r.answer) (job_row o slot r.slot) (answered a r.answer r.octets) [] buffer' [] ≡ start_edge o a buffer slot l
  unfolding start_job
  start_placed v n {r} {buffer'} worked =
      let t = (read o).table in
      let ok = valid_read o v in
      let h = slot-within o slot v n in
      let x = slot_at t slot in
      let w = start_of x l (length buffer) in
      let here : after r buffer' ≡ after_of w [] buffer = worked ∙ ap (λ (x : Slot). after_of (start_of x l (length buffer)) [] buffer) (sym (slot_read o ok slot h)) in
      let same : r.slot ≡ w.slot = ap (λ (l : After). l.gave.slot) here in
      let alone : r.slot ≡ with_job r.slot.job (sending_as r.slot x) =
      same ∙ start-alone x l (length buffer) ∙ ap (λ (y : Slot). with_job y.job (sending_as y x)) (sym same) in
      fill_placed o a [] buffer slot (λ t. start_on t slot l (length buffer)) v n w (start-into t slot [] [] buffer [] l (length buffer)) here
      (sym (ap (λ (y : Slot). written o (put_slot t slot y)) alone ∙ jobbed_written o ok slot h r.slot.peer.credits r.slot.tallies.sends r.slot.job))

-- ---- a portion

module _ (o a buffer : List ℕ) (slot : ℕ) (octets : List ℕ) where
  pub portion_stopped : (r : Refusal) → verdict (read o).table None None None (Some slot) ≡ Err r → edge (answer_number (Refused r)) o (answered a (Refused r) 0) [] buffer [] ≡ portion_edge o a buffer slot octets
  unfolding give_portion
  portion_stopped r e = fill_stopped o a octets buffer slot (λ t. portion_on t slot (length octets) (length buffer)) r e

  -- THE OPEN JOB'S NUMBERS WRITTEN ARE THE TABLE AFTER THE PORTION
  pub portion_placed : valid_octets o ≡ true → leb (get_or o 1 0) slot ≡ false → {r : Worked} {buffer' : List ℕ}
      → after r buffer' ≡ after_of (portion_of (slot_in (cell o slot)) (length octets) (length buffer)) octets buffer
      → edge (answer_number r.answer) (puts o slot 39 (job_octets r.slot.job)) (answered a r.answer r.octets) [] buffer' [] ≡ portion_edge o a buffer slot octets
  unfolding give_portion
  portion_placed v n {r} {buffer'} worked =
      let t = (read o).table in
      let ok = valid_read o v in
      let h = slot-within o slot v n in
      let x = slot_at t slot in
      let w = portion_of x (length octets) (length buffer) in
      let here : after r buffer' ≡ after_of w octets buffer = worked ∙ ap (λ (x : Slot). after_of (portion_of x (length octets) (length buffer)) octets buffer) (sym (slot_read o ok slot h)) in
      let same : r.slot ≡ w.slot = ap (λ (l : After). l.gave.slot) here in
      let alone : r.slot ≡ with_job r.slot.job x = same ∙ portion-alone x (length octets) (length buffer) ∙ ap (λ (j : OpenJob). with_job j x) (ap (λ (y : Slot). y.job) (sym same)) in
      fill_placed o a octets buffer slot (λ t. portion_on t slot (length octets) (length buffer)) v n w (portion-into t slot octets [] buffer [] (length octets) (length buffer)) here
      (sym (ap (λ (y : Slot). written o (put_slot t slot y)) alone ∙ job-written o ok slot h r.slot.job))
