-- A slot that a frame has changed, in its table's octets: its state, its account, its assembly, the jobs that wait and what is counted of frames are written, and its open job and all
-- tallies where the channel is left; and that is its whole row.
use Rattle.std.specs.Prelude.{◌≡◌, Bool, ℕ, ◌+◌, ◌<◌, get_or}
use Rattle.std.proofs.Math.Path.{refl, sym, ap}
use Rattle.std.proofs.Common.{◌∙◌, arith, get_or-drop}
use Rattle.std.proofs.Math.Bool.{true, false}
use mathlib.Core.List.{List, ◌++◌}
use Rattle.std.proofs.Math.ListN.{get_or-append}
use Rattle.lists.specs.Choose.{choose}
use Rattle.channel.specs.Limits.{slots_most}
use Rattle.channel.specs.declared.Slot.{Slot}
use Rattle.definition.specs.Table.{slot_at, put_slot, is_connected}
use Rattle.edge_layout.specs.Layout.{column_count, state_octets, account_octets, assembly_octets, queue_octets, job_octets, tally_octets, tallies_octets, row, cell, read, written}
use Rattle.edge_layout_write.specs.Puts.{puts, joined_row, kept_row, left_row, framed_row}
use Rattle.edge_layout_write.specs.Cells.{place, puts_other, row-parts}
use Rattle.edge_row.proofs.Parts.{puts-held}
use Rattle.edge_row.proofs.Row.{holds, row_written}
use Rattle.edge_row.specs.Framed.{local_of, middle_of, peer_of, tail_of}

local_cells : (x : Slot) (e : ℕ) → e < 8 → get_or (row x) (2 + e) 0 ≡ get_or (local_of x) e 0
unfolding row
local_cells x e h = sym (get_or-drop 2 (row x) e 0) ∙ get_or-append (local_of x) (account_octets x.account ++ (peer_of x ++ (assembly_octets x.assembly ++ (queue_octets x.queue ++ tail_of x)))) 0 e (omega arith)

peer_cells : (x : Slot) (e : ℕ) → e < 9 → get_or (row x) (17 + e) 0 ≡ get_or (peer_of x) e 0
unfolding row
peer_cells x e h = sym (get_or-drop 17 (row x) e 0) ∙ get_or-append (peer_of x) (assembly_octets x.assembly ++ (queue_octets x.queue ++ tail_of x)) 0 e (omega arith)

middle_cells : (x : Slot) (e : ℕ) → e < 24 → get_or (row x) (39 + e) 0 ≡ get_or (middle_of x) e 0
unfolding row
middle_cells x e h = sym (get_or-drop 39 (row x) e 0) ∙ get_or-append (middle_of x) (tally_octets x.tallies.receives) 0 e (omega arith)

module _ (o : List ℕ) (i : ℕ) (x : Slot) (has : (c : ℕ) → c < column_count → cell o i c ≡ get_or (row x) c 0) (y : Slot) where
  abbrev state_put : List ℕ
  state_put = puts o i 0 (state_octets y.state)

  abbrev account_put : List ℕ
  account_put = puts state_put i 10 (account_octets y.account)

  abbrev assembly_put : List ℕ
  assembly_put = puts account_put i 26 (assembly_octets y.assembly)

  -- the columns between them hold already what they are to hold
  local_held : puts state_put i 2 (local_of x) ≡ state_put
  local_held =
      puts-held state_put i 2 (local_of x) (λ e h. puts_other o i 0 (state_octets y.state) (place i (2 + e)) (λ k f g q. omega arith) ∙ has (2 + e) (omega arith) ∙ local_cells x e h)

  peer-held : puts account_put i 17 (peer_of x) ≡ account_put
  peer-held =
      puts-held account_put i 17 (peer_of x)
      (λ e h. puts_other state_put i 10 (account_octets y.account) (place i (17 + e)) (λ k f g q. omega arith)
      ∙ puts_other o i 0 (state_octets y.state) (place i (17 + e)) (λ k f g q. omega arith)
      ∙ has (17 + e) (omega arith) ∙ peer_cells x e h)

  -- and so do those behind them, where the open job and what is counted of sends are as they were
  middle_held : puts (joined_row o i y) i 39 (middle_of x) ≡ joined_row o i y
  middle_held =
      puts-held (joined_row o i y) i 39 (middle_of x)
      (λ e h. puts_other assembly_put i 30 (queue_octets y.queue) (place i (39 + e)) (λ k f g q. omega arith)
      ∙ puts_other account_put i 26 (assembly_octets y.assembly) (place i (39 + e)) (λ k f g q. omega arith)
      ∙ puts_other state_put i 10 (account_octets y.account) (place i (39 + e)) (λ k f g q. omega arith)
      ∙ puts_other o i 0 (state_octets y.state) (place i (39 + e)) (λ k f g q. omega arith)
      ∙ has (39 + e) (omega arith) ∙ middle_cells x e (omega arith))

  -- with what stands behind the account written
  abbrev rest_put : List ℕ → List ℕ
  rest_put r = puts (puts (puts (puts r i 26 (assembly_octets y.assembly)) i 30 (queue_octets y.queue)) i 39 (job_octets y.job)) i 47 (tallies_octets y.tallies)

  module _ (l : local_of y ≡ local_of x) (p : peer_of y ≡ peer_of x) where
    pub left-row : puts o i 0 (row y) ≡ left_row o i y
    unfolding puts
    left-row =
        sym (row-parts o i y)
        ∙ ap (λ (r : List ℕ). rest_put (puts (puts (puts state_put i 2 r) i 10 (account_octets y.account)) i 17 (peer_of y))) l
        ∙ ap (λ (r : List ℕ). rest_put (puts (puts r i 10 (account_octets y.account)) i 17 (peer_of y))) local_held
        ∙ ap (λ (r : List ℕ). rest_put (puts account_put i 17 r)) p
        ∙ ap rest_put peer-held

    -- the open job and all tallies, in two other stretches
    in_two : left_row o i y ≡ puts (puts (joined_row o i y) i 39 (middle_of y)) i 63 (tally_octets y.tallies.receives)
    unfolding puts
    in_two = refl

    pub kept_row_lem : middle_of y ≡ middle_of x → puts o i 0 (row y) ≡ kept_row o i y
    kept_row_lem m =
        left-row
        ∙ in_two
        ∙ ap (λ (w : List ℕ). puts (puts (joined_row o i y) i 39 w) i 63 (tally_octets y.tallies.receives)) m
        ∙ ap (λ (r : List ℕ). puts r i 63 (tally_octets y.tallies.receives)) middle_held

    pub framed-row : (is_connected y.state ≡ true → middle_of y ≡ middle_of x) → puts o i 0 (row y) ≡ framed_row o i y
    unfolding choose
    framed-row j = go (is_connected y.state) refl
      where
        go : (b : Bool) → is_connected y.state ≡ b → puts o i 0 (row y) ≡ framed_row o i y
        go true e = rw e (kept_row_lem (j e))
        go false e = rw e left-row

-- THE TABLE WITH THAT SLOT PUT
module _ (o : List ℕ) (ok : (read o).ok ≡ true) (i : ℕ) (h : i < slots_most) (y : Slot) (l : local_of y ≡ local_of (slot_at (read o).table i)) (p : peer_of y ≡ peer_of (slot_at (read o).table i)) where
  abbrev x : Slot
  x = slot_at (read o).table i

  pub framed-written : (is_connected y.state ≡ true → middle_of y ≡ middle_of x) → written o (put_slot (read o).table i y) ≡ framed_row o i y
  framed-written j = row_written o ok i h y ∙ framed-row o i x (holds o ok i h) y l p j

  -- that of a channel that stays, and of one that is left
  pub kept-written : middle_of y ≡ middle_of x → written o (put_slot (read o).table i y) ≡ kept_row o i y
  kept-written j = row_written o ok i h y ∙ kept_row_lem o i x (holds o ok i h) y l p j

  pub left-written : written o (put_slot (read o).table i y) ≡ left_row o i y
  left-written = row_written o ok i h y ∙ left-row o i x (holds o ok i h) y l p
