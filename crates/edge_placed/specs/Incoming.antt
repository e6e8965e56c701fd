-- A frame in on the table's octets where they stand: the first refusals told from the octets, one row read, the work on its slot, and the columns written that a
-- frame can change.
use Rattle.std.specs.Prelude.{◌≡◌, refl, Bool, true, false, not, ◌&&◌, ℕ, ◌≤◌, ◌<◌, eqb, leb, ltb, length, get_or, Err, None, Ok, Result, Some}
use Rattle.std.proofs.Math.Path.{sym, ap}
use Rattle.std.proofs.Common.{◌∙◌}
use Rattle.std.proofs.lemmas.Bool.{false≢true}
use mathlib.Core.List.{List, []}
use Rattle.lists.specs.Choose.{if_cases}
use Rattle.octets.specs.Octets.{u16_at}
use Rattle.codes.specs.declared.Refusal.{Refusal}
use Rattle.codes.specs.declared.Refusal.TheVariants.{BadHandle, InvalidChannelId}
use Rattle.credit.specs.declared.CreditFlowControl.{CreditFlowControl}
use Rattle.sar_join.specs.declared.Joined.{Joined}
use Rattle.sar_join.specs.declared.Joined.TheVariants as Joined
use Rattle.sar_join.specs.Joining.{job_octets}
use Rattle.channel.specs.Limits.{slots_most, handle_most, cid_base}
use Rattle.channel.specs.declared.Answer.TheVariants.{Refused}
use Rattle.channel.specs.declared.Slot.{Slot}
use Rattle.channel.specs.declared.Table.{Table}
use Rattle.channel_answer.specs.Tells.{answer_number}
use Rattle.definition.specs.Mem.{Fill, sizes, parts}
use Rattle.definition.specs.Table.{place_size, part_width, room_width, place_of, slot_at, slot_of, is_cid, is_connected, with_account, count_received, put_slot}
use Rattle.definition.specs.Outcome.{verdict, passed, only}
use Rattle.definition.specs.Ending.{itself, end, end_of, gave}
use Rattle.definition.proofs.Ending.{written_none}
use Rattle.definition.specs.Frames.{dispatch, admitted}
use Rattle.definition.specs.Calls.{frame, head_of, jobs, frame_in}
use Rattle.definition.proofs.Tells.{cid_within}
use Rattle.table_gate.specs.Fits.{have-fits}
use Rattle.table_room.specs.Placed.{Placed}
use Rattle.slot_work.specs.Work.{Work, worked, worked_of, works_in}
use Rattle.slot_work.specs.declared.Worked.{Worked}
use Rattle.slot_frame.specs.FrameIn.{joined_to, frame_of}
use Rattle.slot_frame.specs.Admitted.{frame-quiet, frame-admitted, frame_astray}
use Rattle.edge_layout.specs.Layout.{cell, slot_in, read, written}
use Rattle.edge_layout_write.specs.Puts.{framed_row}
use Rattle.edge.specs.Edge.{Edge, edge}
use Rattle.edge_scan.specs.Scan.{valid_octets}
use Rattle.edge_row.proofs.Row.{slots-told, depth_told, packet_told, slot_read}
use Rattle.edge_row.specs.Framed.{local_of, peer_of, middle_of}
use Rattle.edge_row.proofs.Framed.{framed-written}
use Rattle.edge_row.specs.Gate.{answered}
use Rattle.edge_row.proofs.Gate.{stays, changes, stopped, valid_read, valid_formed, stops_4, passes}
use Rattle.edge_row.proofs.Room as Room
pub use Rattle.edge_row.proofs.Room.{sized-told}
use Rattle.edge_placed.specs.Frames.{dispatch_edge}

-- what the work on the slot of row s leaves, in the octets and in the room
unfoldable pub framed_edge : (table answer room : List ℕ) (d m s link : ℕ) (payload : List ℕ) → Edge
framed_edge o a room d m s link p =
    let x = slot_in (cell o s) in
    let w = frame_of d (place_size m) x link p in
    edge (answer_number w.answer) (framed_row o s w.slot) (answered a w.answer 0) (parts itself (job_octets x.assembly p) (part_width d m) (only s w.moves) room) [] []

-- by which the code's proof reads it
module _ (o a room p : List ℕ) (d m s link : ℕ) where
  -- what stands once that is left of slot x
  abbrev framed_with : Slot → Worked → Edge
  framed_with x r =
      edge (answer_number r.answer) (framed_row o s r.slot) (answered a r.answer r.octets)
      (parts itself (job_octets x.assembly p) (part_width d m) (only s (frame_of d (place_size m) x link p).moves) room) [] []

  quiet-with : (x : Slot) → framed_with x (worked_of (frame_of d (place_size m) x link p)) ≡ framed_with x (worked (frame_of d (place_size m) x link p).answer (frame_of d (place_size m) x link p).slot 0)
  unfolding sizes
  quiet-with x = ap (λ (fs : List Fill). framed_with x (worked (frame_of d (place_size m) x link p).answer (frame_of d (place_size m) x link p).slot (sizes fs))) (frame-quiet d (place_size m) x link p)

  pub framed-edge : {x : Slot} {r : Worked} {n : ℕ} {o' a' room' : List ℕ} → x ≡ slot_in (cell o s) → r ≡ worked_of (frame_of d (place_size m) x link p)
      → room' ≡ parts itself (job_octets x.assembly p) (part_width d m) (only s (frame_of d (place_size m) x link p).moves) room
      → o' ≡ framed_row o s r.slot → n ≡ answer_number r.answer → a' ≡ answered a r.answer r.octets
      → edge n o' a' room' [] [] ≡ framed_edge o a room d m s link p
  unfolding framed_edge
  framed-edge {x} {r} {n} {o'} {a'} {room'} said gave moved put told wrote =
      ap (λ (k : ℕ). edge k o' a' room' [] []) told
      ∙ ap (λ (l : List ℕ). edge (answer_number r.answer) l a' room' [] []) put
      ∙ ap (λ (l : List ℕ). edge (answer_number r.answer) (framed_row o s r.slot) l room' [] []) wrote
      ∙ ap (λ (l : List ℕ). edge (answer_number r.answer) (framed_row o s r.slot) (answered a r.answer r.octets) l [] []) moved
      ∙ ap (framed_with x) gave
      ∙ quiet-with x
      ∙ ap (λ (y : Slot). framed_with y (worked (frame_of d (place_size m) y link p).answer (frame_of d (place_size m) y link p).slot 0)) said

-- a frame leaves link, SPSM, our sizes, holds and the peer's side as they were, and the open job and what is counted of sends where the channel stays
abbrev Same : Slot → Work → Type 0
Same x w = (local_of w.slot ≡ local_of x) × ((peer_of w.slot ≡ peer_of x) × (is_connected w.slot.state ≡ true → middle_of w.slot ≡ middle_of x))

joined_local : (place : ℕ) (x : Slot) (k : CreditFlowControl) (count : ℕ) (j : Result Joined Refusal) → Same x (joined_to place (count_received (with_account k x)) count j)
unfolding joined_to
joined_local place x k count (Err r) = (refl, (refl, λ e. absurd (false≢true e)))
joined_local place x k count (Ok (Joined.Assembling a)) = (refl, (refl, λ _. refl))
joined_local place x k count (Ok (Joined.Finished len)) = (refl, (refl, λ _. refl))
joined_local place x k count (Ok Joined.Dropped) = (refl, (refl, λ _. refl))

frame_local : (d place : ℕ) (x : Slot) (link : ℕ) (p : List ℕ) → Same x (frame_of d place x link p)
unfolding frame_of
frame_local d place x link p =
    if_cases (Same x) (not (is_connected x.state)) (λ _. (refl, (refl, λ _. refl)))
    (λ _. if_cases (Same x) (not (eqb x.link link)) (λ _. (refl, (refl, λ _. refl)))
    (λ _. if_cases (Same x) (eqb x.account.credits 0) (λ _. (refl, (refl, λ _. refl))) (λ _. joined_local place x _ _ _)))

-- ---- what the gate says of a call that is given a room and a link

module _ (o : List ℕ) (v : valid_octets o ≡ true) (long link : ℕ) where
  abbrev Says : Result (Unit {0}) Refusal → Type 0
  Says x = verdict (read o).table (Some long) None (Some link) None ≡ x

  pub refused_4 : eqb long (room_width (get_or o 1 0) (get_or o 2 0) (u16_at o 3)) ≡ true → ltb handle_most link ≡ true → Says (Err BadHandle)
  refused_4 e f = stops_4 o v (Some long) None (Some link) None (ap not e) refl f

  pub passes_4 : eqb long (room_width (get_or o 1 0) (get_or o 2 0) (u16_at o 3)) ≡ true → ltb handle_most link ≡ false → Says (Ok tt)
  passes_4 e f = passes o v (Some long) None (Some link) None (ap not e) refl f refl

-- a frame that the gate stops leaves the octets
pub frame_stopped : (o a room p : List ℕ) (link cid : ℕ) (r : Refusal) → verdict (read o).table (Some (length room)) None (Some link) None ≡ Err r
    → edge (answer_number (Refused r)) o (answered a (Refused r) 0) room [] [] ≡ dispatch_edge o a room link cid p
unfolding dispatch
frame_stopped o a room p link cid r e =
    stopped o a room [] [] (λ t. jobs t (frame link cid p)) (λ t. admitted t link cid (head_of t cid p) (length (jobs t (frame link cid p)))) (Some (length room)) None (Some link) None r e

-- the test of the CID, by the slots in line 0
pub cid_told : (o : List ℕ) → valid_octets o ≡ true → (cid : ℕ) {n : ℕ} {b : Bool} → n ≡ get_or o 1 0 → b ≡ (leb cid_base cid && ltb (slot_of cid) n) → b ≡ is_cid (read o).table cid
cid_told o v cid e f = rw (slots-told o (valid_read o v), ← e) f

-- ---- behind it

module _ (o a room p : List ℕ) (link cid : ℕ) (v : valid_octets o ≡ true) (e : eqb (length room) (room_width (get_or o 1 0) (get_or o 2 0) (u16_at o 3)) ≡ true) (f : ltb handle_most link ≡ false) where
  abbrev t : Table
  t = (read o).table

  behind : end_of t (jobs t (frame link cid p)) room [] [] (frame_in t (length room) link cid p)
      ≡ end_of t (jobs t (frame link cid p)) room [] [] (admitted t link cid (head_of t cid p) (length (jobs t (frame link cid p))))
  unfolding dispatch
  behind = ap (λ (x : Result (Unit {0}) Refusal). end_of t (jobs t (frame link cid p)) room [] [] (passed t x (admitted t link cid (head_of t cid p) (length (jobs t (frame link cid p)))))) (passes_4 o v (length room) link e f)

  -- REFUSAL 7
  pub refused_7 : is_cid t cid ≡ false → edge (answer_number (Refused InvalidChannelId)) o (answered a (Refused InvalidChannelId) 0) room [] [] ≡ dispatch_edge o a room link cid p
  unfolding sizes
  refused_7 n =
      stays o a room [] [] (λ t. end_of t (jobs t (frame link cid p)) room [] [] (frame_in t (length room) link cid p)) (Refused InvalidChannelId) 0
      (behind ∙ sym (frame_astray t link cid p room n))

  module _ (n : is_cid t cid ≡ true) where
    abbrev s : ℕ
    s = slot_of cid

    abbrev w : Work
    w = frame_of t.d (place_of t) (slot_at t s) link p

    abbrev js : List ℕ
    js = job_octets (slot_at t s).assembly p

    -- the slot is one of the rows, and its part lies in the room
    in_use : s < get_or o 1 0
    in_use = rw (← slots-told o (valid_read o v)) (cid_within t cid n)

    pub row_low : s < slots_most
    row_low = Room.row_low o v s in_use

    pub part_placed : Placed (get_or o 2 0) (u16_at o 3) s (length room)
    part_placed = Room.part_placed o v s in_use (length room) e

    pub have_placed : (slot_in (cell o s)).assembly.have ≤ place_size (u16_at o 3)
    have_placed = rw (slot_read o (valid_read o v) s row_low, packet_told o (valid_read o v)) at (have-fits t s (valid_formed o v) (cid_within t cid n))

    quiet : 0 ≡ sizes w.out
    unfolding sizes
    quiet = ap sizes (sym (frame-quiet t.d (place_of t) (slot_at t s) link p))

    ends : end_of t (jobs t (frame link cid p)) room [] [] (frame_in t (length room) link cid p)
        ≡ end (gave w.answer (put_slot t s w.slot) 0) (parts itself js (part_width t.d t.m) (only s w.moves) room) [] []
    ends =
        behind
        ∙ sym (frame-admitted t link cid p room n)
        ∙ sym (works_in t s w js room [] [] {r = worked_of w} (ap (λ (k : ℕ). gave w.answer (put_slot t s w.slot) k) quiet) refl refl
        (rw (frame-quiet t.d (place_of t) (slot_at t s) link p) (sym (written_none js room []))))

    -- what the frame leaves, with its slot put into the table
    pub frame-table : edge (answer_number w.answer) (written o (put_slot t s w.slot)) (answered a w.answer 0) (parts itself js (part_width t.d t.m) (only s w.moves) room) [] [] ≡ dispatch_edge o a room link cid p
    frame-table =
        changes o a (parts itself js (part_width t.d t.m) (only s w.moves) room) [] [] (λ t. end_of t (jobs t (frame link cid p)) room [] [] (frame_in t (length room) link cid p))
        w.answer (put_slot t s w.slot) 0 (valid_read o v) ends refl

    -- THE COLUMNS WRITTEN ARE THE TABLE AFTER THE FRAME
    pub frame_placed : framed_edge o a room (get_or o 2 0) (u16_at o 3) s link p ≡ dispatch_edge o a room link cid p
    unfolding framed_edge
    frame_placed =
        let ok = valid_read o v in
        let same = frame_local t.d (place_of t) (slot_at t s) link p in
        rw (← depth_told o (valid_read o v), ← packet_told o (valid_read o v), ← slot_read o ok s row_low)
        (changes o a (parts itself js (part_width t.d t.m) (only s w.moves) room) [] [] (λ t. end_of t (jobs t (frame link cid p)) room [] [] (frame_in t (length room) link cid p))
        w.answer (put_slot t s w.slot) 0 ok ends (sym (framed-written o ok s row_low w.slot same.0 same.1.0 same.1.1)))
