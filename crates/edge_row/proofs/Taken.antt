-- A slot that a take has changed, in its table's octets: its account and the jobs that wait are written, and that is its whole row; and the octet of the next
-- identifier, which a signal uses.
use Rattle.std.specs.Prelude.{◌≡◌, refl, true, List, ◌++◌, ℕ, ◌+◌, ◌<◌, get_or, set, drop}
use Rattle.std.proofs.Common.{sym, ap, ◌∙◌, zero-add, arith, get_or-drop}
use Rattle.std.proofs.Math.ListN.{get_or-append}
use Rattle.std.proofs.lemmas.List.{set-get_or}
use Rattle.credit.specs.declared.CreditFlowControl.{CreditFlowControl}
use Rattle.channel.specs.Limits.{slots_most}
use Rattle.channel.specs.declared.Queue.{Queue}
use Rattle.channel.specs.declared.Slot.{Slot}
use Rattle.definition.specs.Table.{slot_at, put_slot, with_account, with_queue}
use Rattle.edge_layout.specs.Layout.{column_count, state_octets, account_octets, assembly_octets, queue_octets, job_octets, tally_octets, tallies_octets, row, cell, read, written}
use Rattle.edge_layout_write.specs.Puts.{puts, kept_row, taken_row}
use Rattle.edge_layout_write.specs.Cells.{place, puts_other}
use Rattle.edge_row.proofs.Parts.{puts-held}
use Rattle.edge_row.proofs.Row.{holds}
use Rattle.edge_row.proofs.Framed.{kept-written}

state_cells : (x : Slot) (e : ℕ) → e < 2 → get_or (row x) (0 + e) 0 ≡ get_or (state_octets x.state) e 0
unfolding row
state_cells x e h = ap (λ (k : ℕ). get_or (row x) k 0) (zero-add e) ∙ get_or-append (state_octets x.state) (drop 2 (row x)) 0 e (omega arith)

assembly_cells : (x : Slot) (e : ℕ) → e < 4 → get_or (row x) (26 + e) 0 ≡ get_or (assembly_octets x.assembly) e 0
unfolding row
assembly_cells x e h = sym (get_or-drop 26 (row x) e 0) ∙ get_or-append (assembly_octets x.assembly) (queue_octets x.queue ++ (job_octets x.job ++ tallies_octets x.tallies)) 0 e (omega arith)

receives_cells : (x : Slot) (e : ℕ) → get_or (row x) (63 + e) 0 ≡ get_or (tally_octets x.tallies.receives) e 0
unfolding row
receives_cells x e = sym (get_or-drop 63 (row x) e 0)

-- of the columns that a frame can change, a take leaves state, assembly and what is counted
module _ (o : List ℕ) (i : ℕ) (x : Slot) (has : (c : ℕ) → c < column_count → cell o i c ≡ get_or (row x) c 0) (k : CreditFlowControl) (q : Queue) where
  state-held : puts o i 0 (state_octets x.state) ≡ o
  state-held = puts-held o i 0 (state_octets x.state) (λ e h. has (0 + e) (omega arith) ∙ state_cells x e h)

  abbrev account_put : List ℕ
  account_put = puts o i 10 (account_octets k)

  assembly_held : puts account_put i 26 (assembly_octets x.assembly) ≡ account_put
  assembly_held =
      puts-held account_put i 26 (assembly_octets x.assembly)
      (λ e h. puts_other o i 10 (account_octets k) (place i (26 + e)) (λ c f g p. omega arith) ∙ has (26 + e) (omega arith) ∙ assembly_cells x e h)

  receives_held : puts (puts account_put i 30 (queue_octets q)) i 63 (tally_octets x.tallies.receives) ≡ puts account_put i 30 (queue_octets q)
  receives_held =
      puts-held (puts account_put i 30 (queue_octets q)) i 63 (tally_octets x.tallies.receives)
      (λ e h. puts_other account_put i 30 (queue_octets q) (place i (63 + e)) (λ c f g p. omega arith)
      ∙ puts_other o i 10 (account_octets k) (place i (63 + e)) (λ c f g p. omega arith) ∙ has (63 + e) (omega arith) ∙ receives_cells x e)

  taken-row : kept_row o i (with_queue q (with_account k x)) ≡ taken_row o i (with_queue q (with_account k x))
  taken-row =
      ap (λ (r : List ℕ). puts (puts (puts (puts r i 10 (account_octets k)) i 26 (assembly_octets x.assembly)) i 30 (queue_octets q)) i 63 (tally_octets x.tallies.receives)) state-held
      ∙ ap (λ (r : List ℕ). puts (puts r i 30 (queue_octets q)) i 63 (tally_octets x.tallies.receives)) assembly_held
      ∙ receives_held

-- THE TABLE WITH THAT SLOT PUT
pub taken-written : (o : List ℕ) (ok : (read o).ok ≡ true) (i : ℕ) (h : i < slots_most) (k : CreditFlowControl) (q : Queue)
    → written o (put_slot (read o).table i (with_queue q (with_account k (slot_at (read o).table i)))) ≡ taken_row o i (with_queue q (with_account k (slot_at (read o).table i)))
taken-written o ok i h k q =
    let x = slot_at (read o).table i in
    kept-written o ok i h (with_queue q (with_account k x)) refl refl refl ∙ taken-row o i x (holds o ok i h) k q

-- a row written leaves line 0: its next identifier, written as it stands there, changes nothing
pub identifier_kept : (o : List ℕ) (i : ℕ) (y : Slot) → set (taken_row o i y) 5 (get_or o 5 0) ≡ taken_row o i y
identifier_kept o i y =
    let kept : get_or (taken_row o i y) 5 0 ≡ get_or o 5 0 =
    puts_other (puts o i 10 (account_octets y.account)) i 30 (queue_octets y.queue) 5 (λ e f g p. omega arith)
    ∙ puts_other o i 10 (account_octets y.account) 5 (λ e f g p. omega arith) in
    ap (set (taken_row o i y) 5) (sym kept) ∙ set-get_or (taken_row o i y) 5 0
