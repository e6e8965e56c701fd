-- A take on the table's octets where they stand: the first refusals told from the octets, one row read, the work on its slot, and its account, its queue and the next
-- identifier written.
use Rattle.std.specs.Prelude.{◌≡◌, Bool, ℕ, ◌<◌, eqb, leb, ltb, length, get_or, Err, None, Result, Some}
use Rattle.std.proofs.Math.Path.{refl, sym, ap}
use Rattle.std.proofs.Common.{◌∙◌, leb-false}
use Rattle.std.proofs.Math.Bool.{true, false, not}
use mathlib.Core.List.{List, []}
use Rattle.std.proofs.Math.ListN.{set}
use Rattle.lists.specs.Choose.{choose}
use Rattle.octets.specs.Octets.{u16_at}
use Rattle.codes.specs.declared.Refusal.{Refusal}
use Rattle.codes.specs.declared.Refusal.TheVariants.{NoRoom, BadSlot}
use Rattle.channel.specs.Limits.{slots_most, signal_most}
use Rattle.channel.specs.declared.Answer.TheVariants.{Refused}
use Rattle.channel.specs.declared.Slot.{Slot}
use Rattle.channel.specs.declared.Table.{Table}
use Rattle.channel_answer.specs.Tells.{answer_number}
use Rattle.definition.specs.Mem.{sizes, parts}
use Rattle.definition.specs.Mem as mem
use Rattle.definition.specs.Table.{part_width, room_width, slot_at, put_slot, next_id, id_after, spent}
use Rattle.definition.specs.Outcome.{verdict, passed, only}
use Rattle.definition.specs.Ending.{itself, end, end_of, gave}
use Rattle.definition.specs.Frames.{receive, taken_on}
use Rattle.table_room.specs.Placed.{Placed}
use Rattle.slot_work.specs.declared.Worked.{Worked}
use Rattle.slot_work.specs.Work.{worked_of}
use Rattle.slot_take.specs.Taking.{Take, take_of, id_then, table_then, Took}
use Rattle.slot_take.specs.Taken.{takes_in, take-alone}
use Rattle.edge_layout.specs.Layout.{cell, slot_in, read, written}
use Rattle.edge_layout_write.specs.Puts.{taken_row}
use Rattle.edge.specs.Edge.{Edge, edge}
use Rattle.edge_scan.specs.Scan.{valid_octets}
use Rattle.edge_row.proofs.Row.{depth_told, packet_told, identifier_told, slot_read, spent-written}
use Rattle.edge_row.proofs.Taken.{taken-written, identifier_kept}
use Rattle.edge_row.specs.Gate.{answered}
use Rattle.edge_row.proofs.Gate.{changes, stopped, valid_read, stops_3, stops_6, passes}
use Rattle.edge_row.proofs.Room as Room
use Rattle.edge_placed.specs.Frames.{receive_edge}

-- the work on the slot of row s, by what the octets say
abbrev pub take_of_slot : (table : List ℕ) (d m s size : ℕ) → Take
take_of_slot o d m s size = take_of d m s (choose (eqb (get_or o 5 0) 0) 1 (get_or o 5 0)) (slot_in (cell o s)) size

-- what a take leaves, in the octets, in the room and in the two buffers, where line 0 says the identifier `next`
abbrev leaves : (table answer room signal job : List ℕ) (w s next : ℕ) → Take → Edge
leaves o a room out job w s next k =
    let n = sizes k.work.out in
    edge (answer_number k.work.answer) (set (taken_row o s k.work.slot) 5 (id_then next n)) (answered a k.work.answer n)
    (parts itself [] w (only s k.work.moves) room) (mem.written itself [] room 0 k.work.out out) (mem.written itself [] room 0 k.job job)

unfoldable pub taken_edge : (table answer room signal job : List ℕ) (d m s : ℕ) → Edge
taken_edge o a room out job d m s = leaves o a room out job (part_width d m) s (get_or o 5 0) (take_of_slot o d m s (length job))

-- by which the code's proof reads it
took_leaves : (o a room out job : List ℕ) (w s next : ℕ) (k : Take) {r : Worked} {room' out' job' : List ℕ} → Took w s k room out job r room' out' job'
    → edge (answer_number r.answer) (set (taken_row o s r.slot) 5 (id_then next r.octets)) (answered a r.answer r.octets) room' out' job' ≡ leaves o a room out job w s next k
took_leaves o a room out job w s next k h = rw (h.moved, h.told, h.handed, h.gave)

pub taken-edge : (o a room out job : List ℕ) (d m s : ℕ) {x : Slot} {next id : ℕ} {r : Worked} {room' out' job' : List ℕ}
    → x ≡ slot_in (cell o s) → next ≡ get_or o 5 0 → id ≡ choose (eqb next 0) 1 next
    → Took (part_width d m) s (take_of d m s id x (length job)) room out job r room' out' job'
    → edge (answer_number r.answer) (set (taken_row o s r.slot) 5 (id_then next r.octets)) (answered a r.answer r.octets) room' out' job' ≡ taken_edge o a room out job d m s
unfolding taken_edge
taken-edge o a room out job d m s {x} {next} {id} {r} said stands given took =
    took_leaves o a room out job (part_width d m) s next (take_of d m s id x (length job)) took
    ∙ ap (λ (i : ℕ). leaves o a room out job (part_width d m) s next (take_of d m s i x (length job))) given
    ∙ ap (λ (i : ℕ). leaves o a room out job (part_width d m) s i (take_of d m s (choose (eqb i 0) 1 i) x (length job))) stands
    ∙ ap (λ (y : Slot). leaves o a room out job (part_width d m) s (get_or o 5 0) (take_of d m s (choose (eqb (get_or o 5 0) 0) 1 (get_or o 5 0)) y (length job))) said

-- a take that the gate stops leaves the octets
pub take_stopped : (o a room out job : List ℕ) (slot : ℕ) (r : Refusal) → verdict (read o).table (Some (length room)) (Some (length out)) None (Some slot) ≡ Err r
    → edge (answer_number (Refused r)) o (answered a (Refused r) 0) room out job ≡ receive_edge o a room out job slot
unfolding receive
take_stopped o a room out job slot r e = stopped o a room out job (λ t. []) (λ t. taken_on t slot (length job)) (Some (length room)) (Some (length out)) None (Some slot) r e

module _ (o a room out job : List ℕ) (s : ℕ) (v : valid_octets o ≡ true) (e : eqb (length room) (room_width (get_or o 1 0) (get_or o 2 0) (u16_at o 3)) ≡ true) where
  abbrev t : Table
  t = (read o).table

  -- REFUSALS 3 AND 6
  pub take_3 : ltb (length out) signal_most ≡ true → edge (answer_number (Refused NoRoom)) o (answered a (Refused NoRoom) 0) room out job ≡ receive_edge o a room out job s
  take_3 f = take_stopped o a room out job s NoRoom (stops_3 o v (Some (length room)) (Some (length out)) None (Some s) (ap not e) f)

  pub take_6 : ltb (length out) signal_most ≡ false → leb (get_or o 1 0) s ≡ true
      → edge (answer_number (Refused BadSlot)) o (answered a (Refused BadSlot) 0) room out job ≡ receive_edge o a room out job s
  take_6 f g = take_stopped o a room out job s BadSlot (stops_6 o v (Some (length room)) (Some (length out)) None (Some s) (ap not e) f refl g)

  -- ---- behind them

  module _ (f : ltb (length out) signal_most ≡ false) (g : leb (get_or o 1 0) s ≡ false) where
    -- the slot is one of the rows, and its part lies in the room
    pub take_row : s < slots_most
    take_row = Room.row_low o v s (leb-false (get_or o 1 0) s g)

    pub take_part : Placed (get_or o 2 0) (u16_at o 3) s (length room)
    take_part = Room.part_placed o v s (leb-false (get_or o 1 0) s g) (length room) e

    abbrev k : Take
    k = take_of t.d t.m s (next_id t) (slot_at t s) (length job)

    abbrev n : ℕ
    n = sizes k.work.out

    ends : end_of t [] room out job (receive t (length room) (length out) s (length job))
        ≡ end (gave k.work.answer (put_slot (table_then t n) s k.work.slot) n)
        (parts itself [] (part_width t.d t.m) (only s k.work.moves) room) (mem.written itself [] room 0 k.work.out out) (mem.written itself [] room 0 k.job job)
    unfolding receive
    ends =
        ap (λ (x : Result (Unit {0}) Refusal). end_of t [] room out job (passed t x (taken_on t s (length job)))) (passes o v (Some (length room)) (Some (length out)) None (Some s) (ap not e) f refl g)
        ∙ sym (takes_in t s room out job {r = worked_of k.work} refl refl refl (record { gave = refl; moved = refl; told = refl; handed = refl }))

    -- the row written, for the slot that the take leaves
    row_is : written o (put_slot t s k.work.slot) ≡ taken_row o s k.work.slot
    row_is =
        let y = k.work.slot in
        let alone = take-alone t.d t.m s (next_id t) (slot_at t s) (length job) in
        ap (λ (x : Slot). written o (put_slot t s x)) alone
        ∙ taken-written o (valid_read o v) s take_row y.account y.queue
        ∙ ap (λ (x : Slot). taken_row o s x) (sym alone)

    -- and the next identifier: as it stood where no signal was written
    table_is : (b : Bool) → written o (put_slot (choose b t (spent t)) s k.work.slot) ≡ set (taken_row o s k.work.slot) 5 (choose b t.identifier (id_after (next_id t)))
    unfolding choose
    table_is true = row_is ∙ sym (ap (set (taken_row o s k.work.slot) 5) (identifier_told o (valid_read o v)) ∙ identifier_kept o s k.work.slot)
    table_is false = spent-written o (valid_read o v) s take_row k.work.slot ∙ ap (λ (l : List ℕ). set l 5 (id_after (next_id t))) row_is

    -- THE COLUMNS AND THE IDENTIFIER WRITTEN ARE THE TABLE AFTER THE TAKE
    pub take_placed : taken_edge o a room out job (get_or o 2 0) (u16_at o 3) s ≡ receive_edge o a room out job s
    unfolding taken_edge
    take_placed =
        let ok = valid_read o v in
        rw (← depth_told o ok, ← packet_told o ok, ← slot_read o ok s take_row, ← identifier_told o ok)
        (changes o a (parts itself [] (part_width t.d t.m) (only s k.work.moves) room) (mem.written itself [] room 0 k.work.out out) (mem.written itself [] room 0 k.job job)
        (λ t. end_of t [] room out job (receive t (length room) (length out) s (length job))) k.work.answer (put_slot (table_then t n) s k.work.slot) n ok ends (sym (table_is (eqb n 0))))
