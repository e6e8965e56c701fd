-- A send on the table's octets where they stand: one row read, the work on its slot, and the peer's credits and what is counted of sends written.
use Rattle.std.specs.Prelude.{◌≡◌, refl, true, false, ℕ, ◌≤◌, ◌<◌, leb, length, get_or, Err, None, Ok, Result, Some}
use Rattle.std.proofs.Common.{sym, ◌∙◌, arith, leb-false}
use Rattle.std.proofs.Math.Path.{ap}
use mathlib.Core.List.{List, []}
use Rattle.codes.specs.declared.Refusal.{Refusal}
use Rattle.channel.specs.Limits.{slots_most}
use Rattle.channel.specs.declared.Answer.TheVariants.{Refused}
use Rattle.channel.specs.declared.Slot.{Slot}
use Rattle.channel.specs.declared.Table.{Table}
use Rattle.channel_answer.specs.Tells.{answer_number}
use Rattle.definition.specs.Table.{slot_at, put_slot}
use Rattle.definition.specs.Outcome.{verdict, passed}
use Rattle.definition.specs.Ending.{End, end_of}
use Rattle.definition.proofs.Ending.{end-still}
use Rattle.definition.specs.Frames.{send, sent_on}
use Rattle.edge_layout.specs.Layout.{cell, slot_in, read, written}
use Rattle.edge_layout_write.specs.Puts.{sent_row}
use Rattle.edge.specs.Edge.{edge}
use Rattle.slot_work.specs.declared.Worked.{Worked}
use Rattle.slot_work.specs.Work.{sending_as}
use Rattle.slot_send.specs.Sending.{Work, work, sent_from}
use Rattle.slot_send.specs.Into.{into, sent-into, sends_alone, sent-within}
use Rattle.edge_scan.specs.Scan.{valid_octets}
use Rattle.edge_row.proofs.Row.{slot_read}
use Rattle.edge_row.proofs.Jobbed.{sent-written}
use Rattle.edge_row.specs.Gate.{answered}
use Rattle.edge_row.proofs.Gate.{changes, stopped, valid_read, valid_slots, passes_6}
use Rattle.edge_placed.specs.Frames.{send_edge, sent_octets}

-- a slot in use is one of the rows
pub slot-within : (o : List ℕ) (slot : ℕ) → valid_octets o ≡ true → leb (get_or o 1 0) slot ≡ false → slot < slots_most
slot-within o slot v n = omega (arith, valid_slots o v, leb-false (get_or o 1 0) slot n)

-- a send that the gate stops leaves the octets
pub send_stopped : (o a out sdu : List ℕ) (slot : ℕ) (r : Refusal) → verdict (read o).table None None None (Some slot) ≡ Err r
    → edge (answer_number (Refused r)) o (answered a (Refused r) 0) [] out [] ≡ send_edge o a out slot sdu
unfolding send
send_stopped o a out sdu slot r e = stopped o a [] out [] (λ t. sdu) (λ t. sent_on t slot (length sdu) (length out)) None None None (Some slot) r e

-- and writes no frame
pub stopped_octets : (o out sdu : List ℕ) (slot : ℕ) (r : Refusal) → verdict (read o).table None None None (Some slot) ≡ Err r → 0 ≡ sent_octets o out slot sdu
unfolding send
stopped_octets o out sdu slot r e =
    let t = (read o).table in
    sym (ap (λ (x : End). x.served.octets) (ap (λ (v : Result (Unit {0}) Refusal). end_of t sdu [] out [] (passed t v (sent_on t slot (length sdu) (length out)))) e ∙ end-still t t (Refused r) sdu [] out []))

-- what the send leaves, with its slot put into the table
module _ (o a out sdu : List ℕ) (slot : ℕ) (v : valid_octets o ≡ true) (n : leb (get_or o 1 0) slot ≡ false) where
  abbrev l : Work
  l = sent_from (slot_at (read o).table slot) sdu out

  left : end_of (read o).table sdu [] out [] (send (read o).table slot (length sdu) (length out)) ≡ into (read o).table slot l
  unfolding send
  left =
      let t = (read o).table in
      ap (λ (x : Result (Unit {0}) Refusal). end_of t sdu [] out [] (passed t x (sent_on t slot (length sdu) (length out)))) (passes_6 o v slot n)
      ∙ sent-into t slot sdu out

  pub sent-table : edge (answer_number l.gave.answer) (written o (put_slot (read o).table slot l.gave.slot)) (answered a l.gave.answer l.gave.octets) [] l.out [] ≡ send_edge o a out slot sdu
  sent-table = changes o a [] l.out [] (λ t. end_of t sdu [] out [] (send t slot (length sdu) (length out))) l.gave.answer (put_slot (read o).table slot l.gave.slot) l.gave.octets (valid_read o v) left refl

module _ (o a out sdu : List ℕ) (slot : ℕ) (v : valid_octets o ≡ true) (n : leb (get_or o 1 0) slot ≡ false) {w : Worked} {out' : List ℕ} (worked : work w out' ≡ sent_from (slot_in (cell o slot)) sdu out) where
  -- the row says the table's slot
  here : work w out' ≡ sent_from (slot_at (read o).table slot) sdu out
  here = worked ∙ ap (λ (x : Slot). sent_from x sdu out) (sym (slot_read o (valid_read o v) slot (slot-within o slot v n)))

  ends : end_of (read o).table sdu [] out [] (send (read o).table slot (length sdu) (length out)) ≡ into (read o).table slot (work w out')
  ends = left o a out sdu slot v n ∙ ap (into (read o).table slot) (sym here)

  alone : w.slot ≡ sending_as w.slot (slot_at (read o).table slot)
  alone =
      let x = slot_at (read o).table slot in
      ap (λ (l : Work). l.gave.slot) here
      ∙ sends_alone x sdu out
      ∙ ap (λ (l : Work). sending_as l.gave.slot x) (sym here)

  -- THE PEER'S CREDITS AND WHAT IS COUNTED OF SENDS WRITTEN ARE THE TABLE AFTER THE SEND
  pub sent_placed : edge (answer_number w.answer) (sent_row o slot w.slot) (answered a w.answer w.octets) [] out' [] ≡ send_edge o a out slot sdu
  sent_placed =
      let t = (read o).table in
      let ok = valid_read o v in
      let put = sent-written o ok slot (slot-within o slot v n) w.slot.peer.credits w.slot.tallies.sends in
      changes o a [] out' [] (λ t. end_of t sdu [] out [] (send t slot (length sdu) (length out))) w.answer (put_slot t slot w.slot) w.octets ok ends
      (sym (ap (λ (x : Slot). written o (put_slot t slot x)) alone ∙ put))

  -- and the octets of its frames are told
  pub octets_sent : w.octets ≡ sent_octets o out slot sdu
  octets_sent = sym (ap (λ (x : End). x.served.octets) ends)

-- ---- how much a send writes, whatever the octets say

sent_octets_lem : (t : Table) (slot : ℕ) (sdu out : List ℕ) (v : Result (Unit {0}) Refusal) → (end_of t sdu [] out [] (passed t v (sent_on t slot (length sdu) (length out)))).served.octets ≤ length out
sent_octets_lem t slot sdu out (Err r) = rw (end-still t t (Refused r) sdu [] out []) (omega arith)
sent_octets_lem t slot sdu out (Ok tt) = rw (sent-into t slot sdu out) (sent-within (slot_at t slot) sdu out)

-- its frames are no more octets than the output has
pub octets_within : (o out sdu : List ℕ) (slot : ℕ) → sent_octets o out slot sdu ≤ length out
unfolding send
octets_within o out sdu slot = let t = (read o).table in sent_octets_lem t slot sdu out (verdict t None None None (Some slot))
