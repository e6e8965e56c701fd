-- A credit signal on the table's octets where they stand: the row that is searched for, the work on its slot, and the columns written that it changes.
use Rattle.std.specs.Prelude.{◌≡◌, refl, Bool, true, false, ℕ, ◌+◌, ◌≤◌, ◌<◌, eqb, leb, ltb, length, get_or, take, Err, None, Ok, Option, Result, Some}
use Rattle.std.proofs.Math.Path.{sym, ap}
use Rattle.std.proofs.Common.{◌∙◌, arith, length-take, get_or-take, eqb-true, leb-false}
use mathlib.Core.List.{List, []}
use Rattle.lists.specs.Choose.{choose, if_cases}
use Rattle.lists.specs.Both.{and_left}
use Rattle.lists.specs.First.{first, first_passes}
use Rattle.octets.specs.Octets.{le16, u16_at}
use Rattle.codes.specs.declared.Refusal.{Refusal}
use Rattle.codes.specs.declared.Refusal.TheVariants.{NotFound}
use Rattle.codes.specs.Codes.{result_of}
use Rattle.signal_forms.specs.declared.LeCreditFlowInd.{LeCreditFlowInd}
use Rattle.channel.specs.Limits.{slots_most, credits_most}
use Rattle.channel.specs.declared.Answer.TheVariants.{Refused}
use Rattle.channel.specs.declared.ChannelState.{ChannelState}
use Rattle.channel.specs.declared.Slot.{Slot}
use Rattle.channel.specs.declared.Table.{Table}
use Rattle.channel_answer.specs.Tells.{answer_number}
use Rattle.definition.specs.Mem.{sizes, parts}
use Rattle.definition.specs.Table.{when◌then◌else◌, gap, place_size, place_of, part_width, slot_at, found, is_connected, connected_to, put_slot}
use Rattle.definition.specs.Outcome.{verdict, passed, gate, only}
use Rattle.definition.specs.Ending.{itself, end, end_of, gave}
use Rattle.definition.proofs.Ending.{end-still, written_none}
use Rattle.definition.specs.Signals.{on_credits}
use Rattle.slot_work.specs.Work.{Work, worked_of, in_table, works_in}
use Rattle.slot_credits.specs.Crediting.{credits_of}
use Rattle.slot_credits.specs.Into.{credits-quiet, credits_astray, credits-into}
use Rattle.edge_layout.specs.Layout.{cell, state_of, failed_by, slot_in, taken, read, written}
use Rattle.edge_layout.proofs.Columns.{tabulate-length, tabulate-at}
use Rattle.edge_layout_write.specs.Puts.{puts, left_row}
use Rattle.edge.specs.Edge.{Edge, edge, on_table}
use Rattle.edge_scan.specs.Scan.{valid_octets}
use Rattle.edge_row.proofs.Row.{table_taken, slots-told, depth_told, packet_told, slot_read, credits-written}
use Rattle.edge_row.proofs.Framed.{left-written}
use Rattle.edge_row.specs.Gate.{answered}
use Rattle.edge_row.proofs.Gate.{stays, changes, stopped, valid_read, valid_slots}
use Rattle.edge_row.proofs.Room.{row_low}
use Rattle.codes.specs.declared.LeCreditConnResultCode.{LeCreditConnResultCode}

-- What the call leaves for a PDU that begins with a good credit signal. (Its identifier is of no account: no reply is written.)
abbrev pub credits_edge : (table answer room signal : List ℕ) (link : ℕ) → LeCreditFlowInd → Edge
credits_edge table answer room signal link ind =
    on_table table answer (λ t. end_of t [] room signal [] (gate t (Some (length room)) (Some (length signal)) (Some link) None (on_credits t link 0 (Some ind))))

-- ---- the row

failed-apart : (r : Option LeCreditConnResultCode) → is_connected (failed_by r) ≡ false
failed-apart (Some result) = refl
failed-apart None = refl

-- a Connected slot has kind 3, whatever stands beside it
module _ (kind value : ℕ) where
  abbrev Kind : ChannelState → Type 0
  Kind k = is_connected k ≡ eqb kind 3

  pub connected_kind : is_connected (state_of kind value) ≡ eqb kind 3
  unfolding state_of
  connected_kind =
      if_cases Kind (eqb kind 1) (λ e. rw (eqb-true kind 1 e))
      (λ _. if_cases Kind (eqb kind 2) (λ e. rw (eqb-true kind 2 e))
      (λ _. if_cases Kind (eqb kind 3) (λ e. sym e)
      (λ n. if_cases Kind (eqb kind 4) (λ _. failed-apart (result_of value) ∙ sym n)
      (λ _. if_cases Kind (eqb kind 5) (λ _. sym n)
      (λ _. if_cases Kind (eqb kind 6) (λ _. sym n) (λ _. sym n))))))

-- the first of n rows that says a Connected slot of this link with that peer CID, and n where none does
abbrev pub row_of : List ℕ → (n link cid : ℕ) → ℕ
row_of o n link cid = first (connected_to link cid) (take n (taken o).slots)

module _ (o : List ℕ) where
  pub rows_long : length (taken o).slots ≡ slots_most
  unfolding taken
  rows_long = tabulate-length (λ i. slot_in (cell o i)) slots_most

  pub row-says : (i : ℕ) → i < slots_most → get_or (taken o).slots i gap ≡ slot_in (cell o i)
  unfolding taken
  row-says i h = tabulate-at gap (λ i. slot_in (cell o i)) slots_most i h

  -- IT IS THE SLOT THAT THE DEFINITION SEARCHES FOR
  pub row-found : (read o).ok ≡ true → (link cid : ℕ) → found (connected_to link cid) (read o).table ≡ row_of o (get_or o 1 0) link cid
  row-found ok link cid = rw (slots-told o ok, table_taken o ok)

  row-connected : (n link cid : ℕ) → n ≤ slots_most → row_of o n link cid < n → is_connected (slot_in (cell o (row_of o n link cid))).state ≡ true
  row-connected n link cid l h =
      let s = row_of o n link cid in
      let p = connected_to link cid in
      let long : length (take n (taken o).slots) ≡ n = length-take n (taken o).slots ∙ omega (arith, rows_long) in
      let on : p (get_or (take n (taken o).slots) s gap) ≡ true = first_passes p gap (take n (taken o).slots) (rw long h) in
      let here : get_or (take n (taken o).slots) s gap ≡ slot_in (cell o s) = get_or-take n (taken o).slots s gap h ∙ row-says s (omega arith) in
      and_left (is_connected (slot_in (cell o s)).state) _ (rw here at on)

-- ---- what is written

-- the columns of row i that a credit signal changes, with those of slot x: the peer's credits, or of a channel that is left those that change then
abbrev pub credited_row : List ℕ → ℕ → Slot → List ℕ
credited_row o i x = when is_connected x.state then puts o i 24 (le16 x.peer.credits) else left_row o i x

-- THE TABLE WITH THAT SLOT PUT
credited_written : (o : List ℕ) → (read o).ok ≡ true → (s : ℕ) → s < slots_most → (place more : ℕ) → is_connected (slot_at (read o).table s).state ≡ true
    → written o (put_slot (read o).table s (credits_of place (slot_at (read o).table s) more).slot) ≡ credited_row o s (credits_of place (slot_at (read o).table s) more).slot
unfolding credits_of choose
credited_written o ok s h place more on = go (ltb credits_most ((slot_at (read o).table s).peer.credits + (slot_at (read o).table s).job.aside + more)) refl
  where
    go : (b : Bool) → ltb credits_most ((slot_at (read o).table s).peer.credits + (slot_at (read o).table s).job.aside + more) ≡ b
        → written o (put_slot (read o).table s (credits_of place (slot_at (read o).table s) more).slot) ≡ credited_row o s (credits_of place (slot_at (read o).table s) more).slot
    go true e = rw e (left-written o ok s h _ refl refl)
    go false e = rw (e, on) (credits-written o ok s h ((slot_at (read o).table s).peer.credits + more))

-- what the work on the slot of row s leaves, in the octets and in the room
unfoldable pub credited_edge : (table answer room signal : List ℕ) (d m s more : ℕ) → Edge
credited_edge o a room signal d m s more =
    let w = credits_of (place_size m) (slot_in (cell o s)) more in
    edge (answer_number w.answer) (credited_row o s w.slot) (answered a w.answer 0) (parts itself [] (part_width d m) (only s w.moves) room) signal []

-- ---- the call

module _ (o a room signal : List ℕ) (link : ℕ) (ind : LeCreditFlowInd) where
  abbrev t : Table
  t = (read o).table

  abbrev Gate : Result (Unit {0}) Refusal → Type 0
  Gate x = verdict t (Some (length room)) (Some (length signal)) (Some link) None ≡ x

  -- a signal that the gate stops leaves the octets
  pub credits_stopped : (r : Refusal) → Gate (Err r) → edge (answer_number (Refused r)) o (answered a (Refused r) 0) room signal [] ≡ credits_edge o a room signal link ind
  credits_stopped r e = stopped o a room signal [] (λ t. []) (λ t. on_credits t link 0 (Some ind)) (Some (length room)) (Some (length signal)) (Some link) None r e

  module _ (v : valid_octets o ≡ true) (p : Gate (Ok tt)) where
    behind : end_of t [] room signal [] (gate t (Some (length room)) (Some (length signal)) (Some link) None (on_credits t link 0 (Some ind)))
        ≡ end_of t [] room signal [] (on_credits t link 0 (Some ind))
    behind = ap (λ (x : Result (Unit {0}) Refusal). end_of t [] room signal [] (passed t x (on_credits t link 0 (Some ind)))) p

    abbrev s : ℕ
    s = row_of o (get_or o 1 0) link ind.cid

    tested : (b : Bool) → leb (get_or o 1 0) s ≡ b → leb t.n (found (connected_to link ind.cid) t) ≡ b
    tested b e = rw (row-found o (valid_read o v) link ind.cid, slots-told o (valid_read o v)) e

    -- REFUSAL 8
    pub refused_8 : leb (get_or o 1 0) s ≡ true → edge (answer_number (Refused NotFound)) o (answered a (Refused NotFound) 0) room signal [] ≡ credits_edge o a room signal link ind
    refused_8 n =
        stays o a room signal [] (λ t. end_of t [] room signal [] (gate t (Some (length room)) (Some (length signal)) (Some link) None (on_credits t link 0 (Some ind)))) (Refused NotFound) 0
        (behind ∙ ap (end_of t [] room signal []) (credits_astray t link 0 ind (tested true n)) ∙ end-still t t (Refused NotFound) [] room signal [])

    module _ (n : leb (get_or o 1 0) s ≡ false) where
      abbrev w : Work
      w = credits_of (place_of t) (slot_at t s) ind.credits

      in_use : s < get_or o 1 0
      in_use = leb-false (get_or o 1 0) s n

      low : s < slots_most
      low = row_low o v s in_use

      quiet : 0 ≡ sizes w.out
      unfolding sizes
      quiet = ap sizes (sym (credits-quiet (place_of t) (slot_at t s) ind.credits))

      into : on_credits t link 0 (Some ind) ≡ in_table t s w
      into = rw (row-found o (valid_read o v) link ind.cid) at (credits-into t link 0 ind (tested false n))

      ends : end_of t [] room signal [] (gate t (Some (length room)) (Some (length signal)) (Some link) None (on_credits t link 0 (Some ind)))
          ≡ end (gave w.answer (put_slot t s w.slot) 0) (parts itself [] (part_width t.d t.m) (only s w.moves) room) signal []
      ends =
          behind
          ∙ ap (end_of t [] room signal []) into
          ∙ sym (works_in t s w [] room signal [] {r = worked_of w} (ap (λ (k : ℕ). gave w.answer (put_slot t s w.slot) k) quiet) refl refl
          (rw (credits-quiet (place_of t) (slot_at t s) ind.credits) (sym (written_none [] room signal))))

      connected : is_connected (slot_at t s).state ≡ true
      connected = rw (slot_read o (valid_read o v) s low) (row-connected o (get_or o 1 0) link ind.cid (valid_slots o v) in_use)

      -- THE COLUMNS WRITTEN ARE THE TABLE AFTER THE SIGNAL
      pub credits_placed : credited_edge o a room signal (get_or o 2 0) (u16_at o 3) s ind.credits ≡ credits_edge o a room signal link ind
      unfolding credited_edge
      credits_placed =
          let ok = valid_read o v in
          rw (← depth_told o ok, ← packet_told o ok, ← slot_read o ok s low)
          (changes o a (parts itself [] (part_width t.d t.m) (only s w.moves) room) signal [] (λ t. end_of t [] room signal [] (gate t (Some (length room)) (Some (length signal)) (Some link) None (on_credits t link 0 (Some ind))))
          w.answer (put_slot t s w.slot) 0 ok ends (sym (credited_written o ok s low (place_of t) ind.credits connected)))
