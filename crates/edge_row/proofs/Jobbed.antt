-- A slot that a send or a start has changed, in its table's octets: the peer's credits and what is counted of sends are written, for a start the open job too, and that is its whole row.
use Rattle.std.specs.Prelude.{◌≡◌, true, List, ◌++◌, ℕ, ◌+◌, ◌<◌, get_or, take}
use Rattle.std.proofs.Math.Path.{refl}
use Rattle.std.proofs.Common.{sym, ap, ◌∙◌, zero-add, arith, length-take, get_or-drop, get_or-take}
use Rattle.std.proofs.Math.ListN.{get_or-append}
use Rattle.octets.specs.Octets.{le16}
use Rattle.channel.specs.Limits.{slots_most}
use Rattle.channel.specs.declared.OpenJob.{OpenJob}
use Rattle.channel.specs.declared.Slot.{Slot}
use Rattle.channel.specs.declared.Tally.{Tally}
use Rattle.definition.specs.Table.{slot_at, put_slot, with_peer_credits, with_sends, with_job}
use Rattle.edge_layout.specs.Layout.{column_count, job_octets, tally_octets, tallies_octets, row, cell, read, written}
use Rattle.edge_layout.proofs.Rows.{row-length}
use Rattle.edge_layout_write.specs.Puts.{puts, sent_row, job_row}
use Rattle.edge_layout_write.specs.Cells.{place, puts_other}
use Rattle.edge_row.proofs.Parts.{puts-held}
use Rattle.edge_row.proofs.Row.{holds, row_written}
use Rattle.edge_row.specs.Jobbed.{between}

between_cells : (x : Slot) (e : ℕ) → e < 13 → get_or (row x) (26 + e) 0 ≡ get_or (between x) e 0
unfolding row
between_cells x e h = sym (get_or-drop 26 (row x) e 0) ∙ get_or-append (between x) (job_octets x.job ++ tallies_octets x.tallies) 0 e (omega arith)

job_cells : (x : Slot) (e : ℕ) → e < 8 → get_or (row x) (39 + e) 0 ≡ get_or (job_octets x.job) e 0
unfolding row
job_cells x e h = sym (get_or-drop 39 (row x) e 0) ∙ get_or-append (job_octets x.job) (tallies_octets x.tallies) 0 e (omega arith)

receives_cells : (x : Slot) (e : ℕ) → get_or (row x) (63 + e) 0 ≡ get_or (tally_octets x.tallies.receives) e 0
unfolding row
receives_cells x e = sym (get_or-drop 63 (row x) e 0)

module _ (o : List ℕ) (i : ℕ) (x : Slot) (has : (c : ℕ) → c < column_count → cell o i c ≡ get_or (row x) c 0) (n : ℕ) (j : OpenJob) (y : Tally) where
  before-held : puts o i 0 (take 24 (row x)) ≡ o
  before-held = puts-held o i 0 (take 24 (row x)) (λ e h. held e (omega (arith, length-take 24 (row x), row-length x)))
    where
      held : (e : ℕ) → e < 24 → get_or o (place i (0 + e)) 0 ≡ get_or (take 24 (row x)) e 0
      held e h = rw (zero-add e) (has e (omega arith) ∙ sym (get_or-take 24 (row x) e 0 h))

  abbrev credits_put : List ℕ
  credits_put = puts o i 24 (le16 n)

  between-held : puts credits_put i 26 (between x) ≡ credits_put
  between-held = puts-held credits_put i 26 (between x) (λ e h. puts_other o i 24 (le16 n) (place i (26 + e)) (λ k f g q. omega arith) ∙ has (26 + e) (omega arith) ∙ between_cells x e (omega arith))

  -- the slot that it becomes
  abbrev begun : Slot
  begun = with_job j (with_sends y (with_peer_credits n x))

  abbrev sends_put : List ℕ
  sends_put = puts (puts credits_put i 39 (job_octets j)) i 47 (tally_octets y)

  receives_held : puts sends_put i 63 (tally_octets x.tallies.receives) ≡ sends_put
  receives_held =
      puts-held sends_put i 63 (tally_octets x.tallies.receives)
      (λ e h. puts_other (puts credits_put i 39 (job_octets j)) i 47 (tally_octets y) (place i (63 + e)) (λ k f g q. omega arith)
      ∙ puts_other credits_put i 39 (job_octets j) (place i (63 + e)) (λ k f g q. omega arith)
      ∙ puts_other o i 24 (le16 n) (place i (63 + e)) (λ k f g q. omega arith)
      ∙ has (63 + e) (omega arith) ∙ receives_cells x e)

  -- with what stands behind the peer's credits written
  abbrev rest_put : List ℕ → List ℕ
  rest_put r = puts (puts (puts r i 39 (job_octets j)) i 47 (tally_octets y)) i 63 (tally_octets x.tallies.receives)

  parts : puts o i 0 (row begun) ≡ rest_put (puts (puts (puts o i 0 (take 24 (row x))) i 24 (le16 n)) i 26 (between x))
  unfolding puts row
  parts = refl

  pub job-row : puts o i 0 (row begun) ≡ job_row o i begun
  job-row =
      parts
      ∙ ap (λ (r : List ℕ). rest_put (puts (puts r i 24 (le16 n)) i 26 (between x))) before-held
      ∙ ap rest_put between-held
      ∙ receives_held

-- of a send the job stays
module _ (o : List ℕ) (i : ℕ) (x : Slot) (has : (c : ℕ) → c < column_count → cell o i c ≡ get_or (row x) c 0) (n : ℕ) (y : Tally) where
  job-held : puts (puts o i 24 (le16 n)) i 39 (job_octets x.job) ≡ puts o i 24 (le16 n)
  job-held =
      puts-held (puts o i 24 (le16 n)) i 39 (job_octets x.job)
      (λ e h. puts_other o i 24 (le16 n) (place i (39 + e)) (λ k f g q. omega arith) ∙ has (39 + e) (omega arith) ∙ job_cells x e (omega arith))

  pub sent-row : puts o i 0 (row (with_sends y (with_peer_credits n x))) ≡ sent_row o i (with_sends y (with_peer_credits n x))
  sent-row = job-row o i x has n x.job y ∙ ap (λ (r : List ℕ). puts r i 47 (tally_octets y)) job-held

-- THE TABLE WITH THAT SLOT PUT
module _ (o : List ℕ) (ok : (read o).ok ≡ true) (i : ℕ) (h : i < slots_most) (n : ℕ) (y : Tally) where
  abbrev x : Slot
  x = slot_at (read o).table i

  pub sent-written : written o (put_slot (read o).table i (with_sends y (with_peer_credits n x))) ≡ sent_row o i (with_sends y (with_peer_credits n x))
  sent-written = row_written o ok i h (with_sends y (with_peer_credits n x)) ∙ sent-row o i x (holds o ok i h) n y

  pub jobbed_written : (j : OpenJob) → written o (put_slot (read o).table i (with_job j (with_sends y (with_peer_credits n x)))) ≡ job_row o i (with_job j (with_sends y (with_peer_credits n x)))
  jobbed_written j = row_written o ok i h (with_job j (with_sends y (with_peer_credits n x))) ∙ job-row o i x (holds o ok i h) n j y
