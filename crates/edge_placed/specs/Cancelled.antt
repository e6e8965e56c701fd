-- A cancel on the table's octets where they stand: one row read, the work on its slot and its part of the room, and the row written.
use Rattle.std.specs.Prelude.{◌≡◌, true, false, ℕ, leb, length, get_or, Err, None, Ok, Result, Some}
use Rattle.std.proofs.Math.Path.{refl, sym, ap}
use Rattle.std.proofs.Common.{◌∙◌}
use mathlib.Core.List.{List, []}
use Rattle.octets.specs.Octets.{u16_at}
use Rattle.codes.specs.declared.Refusal.{Refusal}
use Rattle.channel.specs.declared.Answer.TheVariants.{Refused}
use Rattle.channel.specs.declared.Table.{Table}
use Rattle.channel_answer.specs.Tells.{answer_number}
use Rattle.definition.specs.Mem.{sizes, parts}
use Rattle.definition.specs.Table.{place_size, place_of, part_width, slot_at, put_slot}
use Rattle.definition.specs.Outcome.{verdict, passed, only}
use Rattle.definition.specs.Ending.{itself, end, end_of, gave}
use Rattle.definition.proofs.Ending.{written_none}
use Rattle.definition.specs.Portions.{cancel_job, cancel_on}
use Rattle.slot_work.specs.Work.{Work, worked_of, works_in}
use Rattle.slot_portion.specs.Cancelling.{cancel_of, cancel_quiet}
use Rattle.slot_portion.specs.Into.{cancel_into}
use Rattle.edge_layout.specs.Layout.{cell, row, slot_in, read}
use Rattle.edge_layout_write.specs.Puts.{puts}
use Rattle.edge.specs.Edge.{Edge, edge}
use Rattle.edge_scan.specs.Scan.{valid_octets}
use Rattle.edge_row.proofs.Row.{depth_told, packet_told, slot_read, row_written}
use Rattle.edge_row.specs.Gate.{answered}
use Rattle.edge_row.proofs.Gate.{changes, stopped, valid_read}
use Rattle.edge_placed.specs.Frames.{cancel_edge}
use Rattle.edge_placed.specs.Sent.{slot-within}

-- what the work on the slot of row s leaves, in the octets and in the room
unfoldable pub cancelled_edge : (table answer room : List ℕ) (d m s : ℕ) → Edge
cancelled_edge o a room d m s =
    let w = cancel_of (place_size m) (slot_in (cell o s)) in
    edge (answer_number w.answer) (puts o s 0 (row w.slot)) (answered a w.answer 0) (parts itself [] (part_width d m) (only s w.moves) room) [] []

module _ (o a room : List ℕ) (slot : ℕ) where
  abbrev t : Table
  t = (read o).table

  abbrev Gate : Result (Unit {0}) Refusal → Type 0
  Gate x = verdict t (Some (length room)) None None (Some slot) ≡ x

  -- a cancel that the gate stops leaves the octets
  pub cancel_stopped : (r : Refusal) → Gate (Err r) → edge (answer_number (Refused r)) o (answered a (Refused r) 0) room [] [] ≡ cancel_edge o a room slot
  unfolding cancel_job
  cancel_stopped r e = stopped o a room [] [] (λ t. []) (λ t. cancel_on t slot) (Some (length room)) None None (Some slot) r e

  module _ (v : valid_octets o ≡ true) (p : Gate (Ok tt)) (n : leb (get_or o 1 0) slot ≡ false) where
    abbrev w : Work
    w = cancel_of (place_of t) (slot_at t slot)

    quiet : 0 ≡ sizes w.out
    unfolding sizes
    quiet = ap sizes (sym (cancel_quiet (place_of t) (slot_at t slot)))

    ends : end_of t [] room [] [] (cancel_job t (length room) slot) ≡ end (gave w.answer (put_slot t slot w.slot) 0) (parts itself [] (part_width t.d t.m) (only slot w.moves) room) [] []
    unfolding cancel_job
    ends =
        ap (λ (x : Result (Unit {0}) Refusal). end_of t [] room [] [] (passed t x (cancel_on t slot))) p
        ∙ cancel_into t slot [] room [] []
        ∙ sym (works_in t slot w [] room [] [] {r = worked_of w} (ap (λ (k : ℕ). gave w.answer (put_slot t slot w.slot) k) quiet) refl refl
        (rw (cancel_quiet (place_of t) (slot_at t slot)) (sym (written_none [] room []))))

    -- ITS ROW WRITTEN IS THE TABLE AFTER THE CANCEL
    pub cancel_placed : cancelled_edge o a room (get_or o 2 0) (u16_at o 3) slot ≡ cancel_edge o a room slot
    unfolding cancelled_edge
    cancel_placed =
        let ok = valid_read o v in
        let h = slot-within o slot v n in
        rw (← depth_told o ok, ← packet_told o ok, ← slot_read o ok slot h)
        (changes o a (parts itself [] (part_width t.d t.m) (only slot w.moves) room) [] [] (λ t. end_of t [] room [] [] (cancel_job t (length room) slot)) w.answer (put_slot t slot w.slot) 0 ok ends (sym (row_written o ok slot h w.slot)))
