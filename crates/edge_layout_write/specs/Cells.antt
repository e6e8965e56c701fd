-- What stands in each row once octets are written into one (Puts). The laws rest on those of one store (lib.Seq).
use Rattle.std.specs.Prelude.{◌≡◌, refl, List, [], ◌∷◌, map, ℕ, zero, suc, ◌+◌, ◌*◌, ◌≤◌, ◌<◌, length, get_or, set}
use Rattle.std.proofs.Common.{◌∙◌, add-zero, add-suc, suc-add, zero-add, arith, length-set, get_or-set_same, get_or-set_other}
use Rattle.channel.specs.Limits.{slots_most}
use Rattle.channel.specs.declared.Slot.{Slot}
use Rattle.edge_layout.specs.Layout.{head_octets, column_count, table_octets, cell, state_octets, local_octets, account_octets, peer_octets, assembly_octets, queue_octets, job_octets, tallies_octets, row}
use Rattle.edge_layout.proofs.Rows.{row-length}
use Rattle.edge_layout_write.specs.Puts.{puts}

-- a slot's parts, written one after the other, are its row
pub row-parts : (o : List ℕ) (i : ℕ) (x : Slot) →
    puts (puts (puts (puts (puts (set (puts (puts (puts o i 0 (state_octets x.state)) i 2 (local_octets x.link x.spsm x.mps x.mtu)) i 10 (account_octets x.account))
    (i + (head_octets + slots_most * 17)) x.hold) i 18 (peer_octets x.peer)) i 26 (assembly_octets x.assembly)) i 30 (queue_octets x.queue)) i 39 (job_octets x.job)) i 47 (tallies_octets x.tallies)
    ≡ puts o i 0 (row x)
unfolding puts row
row-parts o i x = refl

-- ---- what stands where

abbrev pub place : ℕ → ℕ → ℕ
place i c = i + (head_octets + slots_most * c)

pub puts-length : (o : List ℕ) (i c : ℕ) (vs : List ℕ) → length (puts o i c vs) ≡ length o
unfolding puts
puts-length o i c [] = refl
puts-length o i c (v ∷ vs) = puts-length (set o (place i c) v) i (suc c) vs ∙ length-set o (place i c) v

-- a place that is no column's of row i keeps its octet
pub puts_other : (o : List ℕ) (i c : ℕ) (vs : List ℕ) (k : ℕ) → ((e : ℕ) → c ≤ e → e < c + length vs → k ≡ place i e → ⊥) → get_or (puts o i c vs) k 0 ≡ get_or o k 0
unfolding puts
puts_other o i c [] k apart = refl
puts_other o i c (v ∷ vs) k apart =
    puts_other (set o (place i c) v) i (suc c) vs k (λ e h l. apart e (omega arith) (omega arith))
    ∙ get_or-set_other o (place i c) k v 0 (apart c (omega arith) (omega arith))

-- the row holds what was written
pub puts-same : (o : List ℕ) (i c : ℕ) (vs : List ℕ) (e : ℕ) → e < length vs → head_octets + slots_most * (c + length vs) ≤ length o → i < slots_most → get_or (puts o i c vs) (place i (c + e)) 0 ≡ get_or vs e 0
unfolding puts
puts-same o i c [] e h l b = absurd (omega arith)
puts-same o i c (v ∷ vs) zero h l b =
    rw (add-zero c)
    (puts_other (set o (place i c) v) i (suc c) vs (place i c) (λ e g k q. omega arith) ∙ get_or-set_same o (place i c) v 0 (omega arith))
puts-same o i c (v ∷ vs) (suc e) h l b =
    rw (add-suc c e, ← suc-add c e)
    (puts-same (set o (place i c) v) i (suc c) vs e (omega arith) (rw length-set (omega arith)) b)

-- ---- slots written row after row

-- the slots' rows, from row i on
unfoldable pub put_rows : List ℕ → ℕ → List Slot → List ℕ
put_rows o i [] = o
put_rows o i (x ∷ xs) = put_rows (puts o i 0 (row x)) (suc i) xs

pub rows-length : (o : List ℕ) (i : ℕ) (xs : List Slot) → length (put_rows o i xs) ≡ length o
unfolding put_rows
rows-length o i [] = refl
rows-length o i (x ∷ xs) = rows-length (puts o i 0 (row x)) (suc i) xs ∙ puts-length o i 0 (row x)

-- an octet of no such row stays
pub rows_other : (o : List ℕ) (i : ℕ) (xs : List Slot) (k : ℕ) → ((j e : ℕ) → i ≤ j → j < i + length xs → e < column_count → k ≡ place j e → ⊥) → get_or (put_rows o i xs) k 0 ≡ get_or o k 0
unfolding put_rows
rows_other o i [] k apart = refl
rows_other o i (x ∷ xs) k apart =
    rows_other (puts o i 0 (row x)) (suc i) xs k (λ j e h l. apart j e (omega arith) (omega arith))
    ∙ puts_other o i 0 (row x) k (λ e h l. apart i e (omega arith) (omega arith) (omega (arith, row-length x)))

-- each row holds its slot's
pub rows_same : (o : List ℕ) (i : ℕ) (xs : List Slot) (j c : ℕ) → table_octets ≤ length o → i + length xs ≤ slots_most → j < length xs → c < column_count → cell (put_rows o i xs) (i + j) c ≡ get_or (get_or (map row xs) j []) c 0
unfolding put_rows
rows_same o i [] j c h l m n = absurd (omega arith)
rows_same o i (x ∷ xs) zero c h l m n =
    rw (add-zero i)
    (rows_other (puts o i 0 (row x)) (suc i) xs (place i c) (λ j e g k q r. omega arith)
    ∙ rw zero-add at (puts-same o i 0 (row x) c (rw row-length n) (rw row-length (omega arith)) (omega arith)))
rows_same o i (x ∷ xs) (suc j) c h l m n =
    rw (add-suc i j, ← suc-add i j)
    (rows_same (puts o i 0 (row x)) (suc i) xs j c (rw puts-length h) (omega arith) (omega arith) n)
